-- Which calls take no memory.
use Rattle.std.specs.Prelude.{ℕ, ◌≡◌, ◌≤◌, true, List, ◌∷◌, length, Option}
use Rattle.md_trace.specs.declared.event.Event.{Event}
use Rattle.md_trace.specs.PortHistory.{SiteTable, current, MayFollow}
use Rattle.md_trace.specs.Context.{link_of, placed_of, current_chain}
use Rattle.md_trace.specs.Counted.{longest}
use Rattle.md_trace.specs.Links.{is_among, links}
use Rattle.md_trace.specs.Sinks.{next_call}

-- the link of the next call is there already, and an earlier chain was as long as the new one
pub record IsAtHand (main : ℕ) (h : List Event) (site : Option ℕ) (q : ℕ) : Type 0 where
  pub link_there : is_among (link_of (placed_of main h) (record { parent = current h; site = site; procedure = q })) (links main (placed_of main h)) ≡ true
  pub chain_fits : length (current_chain main (next_call site q h ∷ h)) ≤ longest main h

-- the call takes memory: in no history for which the recorder stands is all at hand
abbrev pub TakesMemory : (stands : SiteTable → List Event → Type 0) → Option ℕ → ℕ → Type 0
TakesMemory stands site q = (t : SiteTable) (h : List Event) → stands t h → MayFollow t h (next_call site q h) → IsAtHand t.main h site q → ⊥

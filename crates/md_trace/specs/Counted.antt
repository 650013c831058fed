-- What a counter keeps: the own counts of each procedure, and the procedures of the current chain.
use Rattle.std.specs.Prelude.{ℕ, ◌≡◌, ◌<◌, ◌≤◌, ◌-◌, List, [], ◌∷◌, ◌++◌, length, map, max, reverse, take, Some, IfSome, slice_get, slice_set}
use Rattle.md_base.specs.declared.measure.Counts.{Counts}
use Rattle.md_base.specs.declared.measure.Measure.{Measure}
use Rattle.md_trace.specs.declared.event.Event.{Event}
use Rattle.md_trace.specs.PortHistory.{SiteTable, IsPortHistory}
use Rattle.md_trace.specs.Context.{has_procedure, current_chain}
use Rattle.md_trace.specs.Count.{set_counts, with_more}

-- the own counts of each procedure by number, the procedures of the current chain, the latest last, and for how many
-- the chain has room
pub record Counted : Type 0 where
  pub own : List Counts
  pub chain : List ℕ
  pub room : ℕ

-- how long the current chain was at most
abbrev pub longest : ℕ → List Event → ℕ
longest main [] = 0
longest main (e ∷ h) = max (longest main h) (length (current_chain main (e ∷ h)))

-- the own counts of a procedure: each the plain number, or 4,294,967,295 where that is more
abbrev pub procedure_counts : ℕ → List Event → ℕ → Counts
procedure_counts main h q = set_counts main h (has_procedure q)

-- the procedures of the current chain
abbrev pub chain_procedures : ℕ → List Event → List ℕ
chain_procedures main h = map (λ x. x.link.procedure) (current_chain main h)

-- a counter that keeps this stands for h: the own counts are those of h, the chain is that of the current
-- activation, and there is room for the longest chain of h
pub record CountsFor (k : Counted) (t : SiteTable) (h : List Event) : Type 0 where
  pub history : IsPortHistory t h
  pub procedures : length k.own ≡ t.procedures
  pub own_are : (q : ℕ) → q < t.procedures → slice_get k.own q ≡ Some (procedure_counts t.main h q)
  pub chain_is : reverse k.chain ≡ chain_procedures t.main h
  pub room_is : longest t.main h ≤ k.room

-- one more on a measure of the procedure's own counts, and nothing else
pub record CountsUp (old new : Counted) (q : ℕ) (m : Measure) (by : ℕ) : Type 0 where
  pub own : IfSome (slice_get old.own q) (λ c. new.own ≡ slice_set old.own q (with_more c m by))
  pub procedures : length new.own ≡ length old.own
  pub chain : new.chain ≡ old.chain
  pub room : new.room ≡ old.room

-- one more procedure at the end of the chain, and room for it
pub record Enters (old new : Counted) (q : ℕ) : Type 0 where
  pub own : new.own ≡ old.own
  pub chain : new.chain ≡ old.chain ++ q ∷ []
  pub room : old.room ≤ new.room
  pub fits : length new.chain ≤ new.room

-- the last of the chain is gone, and nothing else
pub record Leaves (old new : Counted) : Type 0 where
  pub own : new.own ≡ old.own
  pub chain : new.chain ≡ take (length old.chain - 1) old.chain
  pub room : new.room ≡ old.room

-- all is as before, but that there may be more room
pub record AsBefore (old new : Counted) : Type 0 where
  pub own : new.own ≡ old.own
  pub chain : new.chain ≡ old.chain
  pub room : old.room ≤ new.room

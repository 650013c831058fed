-- The links of a run, as `entering` takes them, and its cliques.
use Rattle.std.specs.Prelude.{ℕ, ◌≡◌, List, [], ◌∷◌, length, map, Option, Some, slice_get, slice_index}
use Rattle.md_trace.specs.declared.event.Event.{Event}
use Rattle.md_trace.specs.Context.{chain, context_of, contexts, placed_of}
use Rattle.md_trace.specs.Links.{Leading, links}
use Rattle.md_trace.specs.Cliques.{AreCliques, edges}
use Rattle.md_trace.specs.Totals.{stations}
use Rattle.md_clique.specs.Entries.{entries}

-- where each link starts, if it does, and where it ends
abbrev pub ends_of : List Leading → List (Option ℕ × ℕ)
ends_of [] = []
ends_of (x ∷ xs) = (x.link.caller, x.to) ∷ ends_of xs

-- the links of a history, and how many contexts it has
abbrev pub links_of : ℕ → List Event → List Leading
links_of main h = links main (placed_of main h)

abbrev pub context_count : ℕ → List Event → ℕ
context_count main h = length (contexts main (placed_of main h))

-- the list has the clique of each context of the history
abbrev pub AreCliquesOf : ℕ → List Event → List ℕ → Type 0
AreCliquesOf main h cliques = AreCliques (context_count main h) (edges (links_of main h)) cliques

-- the one link that enters clique k starts at context c
pub record StartsEntry (cliques : List ℕ) (links : List (Option ℕ × ℕ)) (k c : ℕ) : Type 0 where
  pub place : ℕ
  pub to : ℕ
  pub only : entries cliques links k ≡ place ∷ []
  pub link : slice_get links place ≡ Some (Some c, to)

-- A path up: each context but the last is followed by the start of the one link that enters its clique, and the last
-- one is in clique 0.
abbrev pub IsPathUp : List ℕ → List (Option ℕ × ℕ) → List ℕ → Type 0
IsPathUp cliques links [] = ⊥
IsPathUp cliques links (c ∷ []) = slice_index cliques c ≡ 0
IsPathUp cliques links (c ∷ d ∷ ds) = StartsEntry cliques links (slice_index cliques c) d × IsPathUp cliques links (d ∷ ds)

-- the contexts of an activation's stations, the nearest first
abbrev pub station_contexts : ℕ → List Event → List ℕ → ℕ → List ℕ
station_contexts main h cliques a = map (λ y. y.context) (stations cliques (chain (placed_of main h) (Some a)))

-- the activation is in this context
abbrev pub IsInContext : ℕ → List Event → ℕ → ℕ → Type 0
IsInContext main h a c = context_of (placed_of main h) (Some a) ≡ Some c

-- the path begins with this context
abbrev pub BeginsWith : ℕ → List ℕ → Type 0
BeginsWith c xs = slice_get xs 0 ≡ Some c

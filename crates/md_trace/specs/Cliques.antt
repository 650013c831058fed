-- Cliques of contexts: those that reach each other over links (the recursive groups of Conway and Somogyi 2001).
use Rattle.std.specs.Prelude.{ℕ, ◌≡◌, ◌==◌, ◌<◌, ◌↔◌, Bool, not, false, List, [], ◌∷◌, length, Option, Some, None, slice_index}
use Rattle.md_trace.specs.Links.{Leading}
use Rattle.md_trace.specs.Reaches.{ReachesBoth}

-- one more pair of ends, where the link has a caller
abbrev pub with_edge : Option ℕ → ℕ → List (ℕ × ℕ) → List (ℕ × ℕ)
with_edge None to rest = rest
with_edge (Some from) to rest = (from, to) ∷ rest

-- where the links start and end, in order, but for the root link, which starts nowhere
abbrev pub edges : List Leading → List (ℕ × ℕ)
edges [] = []
edges (x ∷ xs) = with_edge x.link.caller x.to (edges xs)

-- The cliques of n contexts with these edges: the number of each context's clique. Two contexts are in one clique
-- where each reaches the other, and the cliques are numbered by their least contexts.
pub record AreCliques (n : ℕ) (es : List (ℕ × ℕ)) (cliques : List ℕ) : Type 0 where
  pub each : length cliques ≡ n
  pub classes : (a b : ℕ) → a < n → b < n → (slice_index cliques a ≡ slice_index cliques b) ↔ ReachesBoth es a b
  pub in_order : (b k : ℕ) → b < n → k < slice_index cliques b → (a : ℕ) × (a < b) × (slice_index cliques a ≡ k)

-- a link from this caller to this context leaves: its ends are in different cliques. The root link doesn't
abbrev pub leaves : List ℕ → Option ℕ → ℕ → Bool
leaves cliques None to = false
leaves cliques (Some from) to = not (slice_index cliques from == slice_index cliques to)

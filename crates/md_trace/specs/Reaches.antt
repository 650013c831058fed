-- Walks in a directed graph, which is the list of its links, each a pair of where it starts and where it ends.
use Rattle.std.specs.Prelude.{ℕ, ◌≡◌, List, Some, slice_get}

-- b is reached from a over zero or more links
pub data Reaches (links : List (ℕ × ℕ)) : ℕ → ℕ → Type 0 where
  here : (a : ℕ) → Reaches links a a
  more : (k a b c : ℕ) → slice_get links k ≡ Some (a, b) → Reaches links b c → Reaches links a c

-- each of the two is reached from the other
pub record ReachesBoth (links : List (ℕ × ℕ)) (a b : ℕ) : Type 0 where
  pub forth : Reaches links a b
  pub back : Reaches links b a

-- Numbers in place of classes.
use Rattle.std.specs.Prelude.{ℕ, ◌≡◌, ◌↔◌, ◌<◌, List, length, slice_index}
use Rattle.md_clique.specs.declared.search.State.{State}
use Rattle.md_clique.specs.Search.{state_of, class_of}

-- Two nodes have one number if and only if they have one class. The numbers rise by the least node, without gaps: each
-- number below a node's is that of a lesser node.
pub record AreNumbers (states : List State) (numbers : List ℕ) : Type 0 where
  pub each : length numbers ≡ length states
  pub together : (a b : ℕ) → a < length states → b < length states → (slice_index numbers a ≡ slice_index numbers b) ↔ (class_of (state_of states a) ≡ class_of (state_of states b))
  pub in_order : (v k : ℕ) → v < length states → k < slice_index numbers v → (u : ℕ) × (u < v) × (slice_index numbers u ≡ k)

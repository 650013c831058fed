use Rattle.std.proofs.Common.{ℕ, ◌≡◌, ◌≤◌, ◌*◌, ◌^◌, take}
use Rattle.md_render.specs.People.{size_in}
use Rattle.md_render.proofs.people.size_in.Given as goal

-- the size of the rows so far, each of which has fewer rows than 64 bits count
pub record IsSizeSoFar (size so_far count : ℕ) : Type 0 where
  pub is : size ≡ so_far
  pub small : size ≤ count * 2 ^ 64

abbrev pub invariant-loop-row : goal.invariant-loop-row
invariant-loop-row l = IsSizeSoFar l.size (size_in (take l.row-index l.rows)) l.row-index

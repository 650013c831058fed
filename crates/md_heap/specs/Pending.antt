-- What is still to be compared: the frames of a comparison, the innermost last.
use Rattle.std.specs.Prelude.{ℕ, ◌+◌, ◌≡◌, ◌<◌, Bool, true, false, List, [], ◌∷◌, length, drop, cond}
use Rattle.md_heap.specs.declared.same.Frame.{Frame}
use Rattle.md_heap.specs.declared.same.Look.{Look}
use Rattle.md_heap.specs.declared.same.Look.TheVariants.{Differing, Alike, Below}
use Rattle.md_heap.specs.declared.same.Step.{Step}
use Rattle.md_heap.specs.declared.same.Step.TheVariants.{Found, Done, Next}
use Rattle.md_heap.specs.Cells.{Cells, IsThere, cell_at, tree_of, trees_of}
use Rattle.md_heap.specs.Tree.{Compared, one_pair, below_pair, then_compared, compared, all_compared}

-- both cells are there, have as many parts, and some of these are left
pub record IsFrame (cells : Cells) (f : Frame) : Type 0 where
  pub first_there : f.first < length cells
  pub second_there : f.second < length cells
  pub first_count : length (cell_at cells f.first).parts ≡ f.count
  pub second_count : length (cell_at cells f.second).parts ≡ f.count
  pub left : f.place < f.count

-- what the parts that a frame has left come to
abbrev pub frame_due : Cells → Frame → Compared
frame_due cells f = all_compared (trees_of cells (drop f.place (cell_at cells f.first).parts)) (trees_of cells (drop f.place (cell_at cells f.second).parts))

-- what all that is left comes to
abbrev pub due : Cells → List Frame → Compared
due cells [] = record { pairs = 0; equal = true }
due cells (f ∷ fs) = then_compared (due cells fs) (frame_due cells f)

-- so many pairs were equal, and then the rest
abbrev pub more : ℕ → Compared → Compared
more n c = record { pairs = n + c.pairs; equal = c.equal }

-- what a look at two nodes without parts finds
abbrev pub plain_look : Bool → Look
plain_look equal = cond equal Alike Differing

-- what a look at two nodes says of the comparison of the values
abbrev pub look_due : Cells → Look → Compared
look_due cells Differing = one_pair false
look_due cells Alike = one_pair true
look_due cells (Below f) = below_pair true (frame_due cells f)

abbrev pub IsLook : Cells → Look → Type 0
IsLook cells Differing = Unit {0}
IsLook cells Alike = Unit {0}
IsLook cells (Below f) = IsFrame cells f

-- what is left after a step
abbrev pub step_due : Cells → Step → List Frame → Compared
step_due cells Found fs = record { pairs = 0; equal = false }
step_due cells Done fs = record { pairs = 0; equal = true }
step_due cells (Next v w) fs = then_compared (compared (tree_of cells v) (tree_of cells w)) (due cells fs)

abbrev pub IsStep : ℕ → Step → Type 0
IsStep count Found = Unit {0}
IsStep count Done = Unit {0}
IsStep count (Next v w) = IsThere count v × IsThere count w

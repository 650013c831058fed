use Rattle.std.proofs.Common.{◌≡◌, drop}
use Rattle.md_modes.specs.Branches.{some_of}
use Rattle.md_feedback.specs.Search.{mark_at}
use Rattle.md_feedback.proofs.marks.some_marked.Given as goal

abbrev pub invariant-loop-place : goal.invariant-loop-place
invariant-loop-place l = some_of (mark_at l.marks) l.places ≡ some_of (mark_at l.marks) (drop l.place-index l.places)

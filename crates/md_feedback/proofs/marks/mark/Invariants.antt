use Rattle.std.proofs.Common.{take}
use Rattle.md_feedback.specs.Search.{Marks}
use Rattle.md_feedback.proofs.marks.mark.Given as goal

abbrev pub invariant-loop-place : goal.invariant-loop-place
invariant-loop-place l = Marks l.fn.marks.items l.marks.items (take l.place-index l.places)

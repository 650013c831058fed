use Rattle.std.proofs.Common.{◌≤◌, [], length}
use Rattle.md_feedback.specs.Search.{Marks}
use Rattle.md_feedback.proofs.marks.reach.Given as goal

abbrev pub invariant-loop-turn : goal.invariant-loop-turn
invariant-loop-turn l = Marks l.fn.marks.items l.marks.items [] × (l._turn ≤ length l.marks.items)

use Rattle.std.proofs.Common.{◌≡◌, ◌+◌, ◌≤◌, ◌++◌, length}
use Rattle.md_feedback.specs.Text.{AreValidPairs}
use Rattle.md_feedback.specs.Lines.{pair_lines}
use Rattle.md_feedback.proofs.read.read_pairs.Given as goal

-- the pairs so far stand in the text before what is left of it
abbrev pub invariant-loop-rest : goal.invariant-loop-rest
invariant-loop-rest l = AreValidPairs l.pairs × (l.fn.text ≡ pair_lines l.pairs ++ l.rest) × (length l.pairs + length l.rest ≤ length l.fn.text)

abbrev pub decreases-loop-rest : goal.decreases-loop-rest
decreases-loop-rest l = length l.rest

use Rattle.std.proofs.Common.{◌≡◌, length}
use Rattle.md_static.specs.Names.{are_words}
use Rattle.md_feedback.proofs.line.are_parts.Given as goal

abbrev pub invariant-loop-rest : goal.invariant-loop-rest
invariant-loop-rest l = are_words l.bytes ≡ are_words l.rest

abbrev pub decreases-loop-rest : goal.decreases-loop-rest
decreases-loop-rest l = length l.rest

use Rattle.std.proofs.Common.{arith}
use Rattle.std.proofs.lemmas.Grind.{common_steps}
use Rattle.md_feedback.proofs.marks.some_marked.Goals as goal

pub loop-place-preserved : goal.loop-place-preserved
loop-place-preserved c = grind (arith, common_steps)

pub returns : goal.returns
returns c = grind (arith, common_steps)

pub returns-then-is_marked : goal.returns-then-is_marked
returns-then-is_marked c = grind (arith, common_steps)

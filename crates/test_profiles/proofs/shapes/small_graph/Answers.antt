use Rattle.std.proofs.Common.{arith}
use Rattle.std.proofs.lemmas.Grind.{common_steps}
use Rattle.test_profiles.proofs.shapes.small_graph.Goals as goal

pub loop-from-preserved : goal.loop-from-preserved
loop-from-preserved c = grind (arith, common_steps)

pub loop-to-preserved : goal.loop-to-preserved
loop-to-preserved c = grind (arith, common_steps)

pub returns : goal.returns
returns c = grind (arith, common_steps)

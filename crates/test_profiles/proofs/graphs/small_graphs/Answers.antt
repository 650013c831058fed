use Rattle.std.proofs.Common.{arith}
use Rattle.std.proofs.lemmas.Grind.{common_steps}
use Rattle.test_profiles.proofs.graphs.small_graphs.Goals as goal

pub loop-bits-preserved : goal.loop-bits-preserved
loop-bits-preserved c = grind (arith, common_steps)

pub offset_bounds-graphs-count-in-loop-bits : goal.offset_bounds-graphs-count-in-loop-bits
offset_bounds-graphs-count-in-loop-bits c = grind (arith, common_steps)

pub returns-in_default : goal.returns-in_default
returns-in_default c = grind (arith, common_steps)

pub bounds-graphs-count-in-loop-bits : goal.bounds-graphs-count-in-loop-bits
bounds-graphs-count-in-loop-bits c = grind (arith, common_steps)

pub returns : goal.returns
returns c = grind (arith, common_steps)

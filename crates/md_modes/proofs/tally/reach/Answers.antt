use Rattle.std.proofs.Common.{arith}
use Rattle.std.proofs.lemmas.Grind.{common_steps}
use Rattle.md_modes.proofs.tally.reach.Goals as goal

pub returns-clause-room : goal.returns-clause-room
returns-clause-room c = grind (arith, common_steps)

pub returns-clause-same : goal.returns-clause-same
returns-clause-same c = grind (arith, common_steps)

pub loop-turn-preserved : goal.loop-turn-preserved
loop-turn-preserved c = grind (arith, common_steps)

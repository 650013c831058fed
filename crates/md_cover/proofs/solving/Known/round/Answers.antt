use Rattle.std.proofs.Common.{arith}
use Rattle.std.proofs.lemmas.Grind.{common_steps}
use Rattle.md_cover.proofs.solving.Known.round.Goals as goal

pub returns-clause-changed : goal.returns-clause-changed
returns-clause-changed c = grind (arith, common_steps)

pub returns-clause-known : goal.returns-clause-known
returns-clause-known c = grind (arith, common_steps)

pub loop-equation-preserved : goal.loop-equation-preserved
loop-equation-preserved c = grind (arith, common_steps)

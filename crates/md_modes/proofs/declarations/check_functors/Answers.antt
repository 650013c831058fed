use Rattle.std.proofs.Common.{arith}
use Rattle.std.proofs.lemmas.Grind.{common_steps}
use Rattle.md_modes.proofs.declarations.check_functors.Goals as goal

pub loop-functor-preserved : goal.loop-functor-preserved
loop-functor-preserved c = grind (arith, common_steps)

pub returns : goal.returns
returns c = grind (arith, common_steps)

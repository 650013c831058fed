use Rattle.std.proofs.Common.{arith}
use Rattle.std.proofs.lemmas.Grind.{common_steps}
use Rattle.test_outside.proofs.Destruct++tuple2.drop.Goals as goal

pub returns : goal.returns
returns c = grind (arith, common_steps)

use Rattle.std.proofs.Common.{arith}
use Rattle.std.proofs.lemmas.Grind.{common_steps}
use Rattle.test_outside.proofs.stores.act.Goals as goal

pub returns-in-append : goal.returns-in-append
returns-in-append g c = grind (arith, common_steps)

pub returns-in-create : goal.returns-in-create
returns-in-create g c = grind (arith, common_steps)

pub returns-in-fill : goal.returns-in-fill
returns-in-fill g c = grind (arith, common_steps)

pub returns-in-piece : goal.returns-in-piece
returns-in-piece g c = grind (arith, common_steps)

pub returns-in-read : goal.returns-in-read
returns-in-read g c = grind (arith, common_steps)

pub returns-in-write : goal.returns-in-write
returns-in-write g c = grind (arith, common_steps)

pub returns-in_default : goal.returns-in_default
returns-in_default g c = grind (arith, common_steps)

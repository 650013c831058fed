use Rattle.std.proofs.Common.{arith}
use Rattle.std.proofs.lemmas.Grind.{common_steps}
use Rattle.md_plain.proofs.simple.simple.Goals as goal

pub returns-in-Arith : goal.returns-in-Arith
returns-in-Arith c = grind (arith, common_steps)

pub returns-in-Call : goal.returns-in-Call
returns-in-Call c = grind (arith, common_steps)

pub returns-in-Compare : goal.returns-in-Compare
returns-in-Compare c = grind (arith, common_steps)

pub returns-in-Error : goal.returns-in-Error
returns-in-Error c = grind (arith, common_steps)

pub returns-in-Fail : goal.returns-in-Fail
returns-in-Fail c = grind (arith, common_steps)

pub returns-in-Nl : goal.returns-in-Nl
returns-in-Nl c = grind (arith, common_steps)

pub returns-in-True : goal.returns-in-True
returns-in-True c = grind (arith, common_steps)

pub returns-in-Unify : goal.returns-in-Unify
returns-in-Unify c = grind (arith, common_steps)

pub returns-in-WriteInt : goal.returns-in-WriteInt
returns-in-WriteInt c = grind (arith, common_steps)

pub returns-in-WriteStr : goal.returns-in-WriteStr
returns-in-WriteStr c = grind (arith, common_steps)

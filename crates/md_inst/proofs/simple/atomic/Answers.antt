use Rattle.std.proofs.Common.{arith}
use Rattle.std.proofs.lemmas.Grind.{common_steps}
use Rattle.md_inst.proofs.simple.atomic.Goals as goal

pub returns-in-Unify : goal.returns-in-Unify
returns-in-Unify c = grind (arith, common_steps)

pub returns-in-Arith : goal.returns-in-Arith
returns-in-Arith c = grind (arith, common_steps)

pub returns-in-Compare : goal.returns-in-Compare
returns-in-Compare c = grind (arith, common_steps)

pub returns-in-WriteInt : goal.returns-in-WriteInt
returns-in-WriteInt c = grind (arith, common_steps)

pub returns-in-WriteStr : goal.returns-in-WriteStr
returns-in-WriteStr c = grind (arith, common_steps)

pub returns-in-Nl : goal.returns-in-Nl
returns-in-Nl c = grind (arith, common_steps)

pub returns-in-Call : goal.returns-in-Call
returns-in-Call c = grind (arith, common_steps)

pub returns-in-HoCall : goal.returns-in-HoCall
returns-in-HoCall c = grind (arith, common_steps)

pub returns-in-Error : goal.returns-in-Error
returns-in-Error c = grind (arith, common_steps)

pub returns-in-Conj : goal.returns-in-Conj
returns-in-Conj c = grind (arith, common_steps)

pub returns-in-Conj-2 : goal.returns-in-Conj-2
returns-in-Conj-2 c = grind (arith, common_steps)

pub returns-in-Conj-3 : goal.returns-in-Conj-3
returns-in-Conj-3 c = grind (arith, common_steps)

pub returns-in-Conj-4 : goal.returns-in-Conj-4
returns-in-Conj-4 c = grind (arith, common_steps)

pub returns-in-Conj-5 : goal.returns-in-Conj-5
returns-in-Conj-5 c = grind (arith, common_steps)

pub returns-in-True : goal.returns-in-True
returns-in-True c = grind (arith, common_steps)

pub returns-in-True-2 : goal.returns-in-True-2
returns-in-True-2 c = grind (arith, common_steps)

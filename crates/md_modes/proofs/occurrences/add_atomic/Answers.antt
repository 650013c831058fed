use Rattle.std.proofs.Common.{arith}
use Rattle.std.proofs.lemmas.Grind.{common_steps}
use Rattle.md_modes.proofs.occurrences.add_atomic.Goals as goal

pub returns-in_ok-add_one-in-Unify : goal.returns-in_ok-add_one-in-Unify
returns-in_ok-add_one-in-Unify c = grind (arith, common_steps)

pub returns-in-Arith : goal.returns-in-Arith
returns-in-Arith c = grind (arith, common_steps)

pub returns-in-Compare : goal.returns-in-Compare
returns-in-Compare c = grind (arith, common_steps)

pub returns-in-WriteInt : goal.returns-in-WriteInt
returns-in-WriteInt c = grind (arith, common_steps)

pub returns-in-WriteStr : goal.returns-in-WriteStr
returns-in-WriteStr c = grind (arith, common_steps)

pub returns-in-Nl : goal.returns-in-Nl
returns-in-Nl c = grind (arith, common_steps)

pub returns-in-Call : goal.returns-in-Call
returns-in-Call c = grind (arith, common_steps)

pub returns-in_ok-add_one-in-HoCall : goal.returns-in_ok-add_one-in-HoCall
returns-in_ok-add_one-in-HoCall c = grind (arith, common_steps)

pub returns-in-Error : goal.returns-in-Error
returns-in-Error c = grind (arith, common_steps)

pub returns-in-True : goal.returns-in-True
returns-in-True c = grind (arith, common_steps)

pub returns-in-True-3 : goal.returns-in-True-3
returns-in-True-3 c = grind (arith, common_steps)

pub returns-in-True-4 : goal.returns-in-True-4
returns-in-True-4 c = grind (arith, common_steps)

pub returns-in-True-5 : goal.returns-in-True-5
returns-in-True-5 c = grind (arith, common_steps)

pub returns-in-True-6 : goal.returns-in-True-6
returns-in-True-6 c = grind (arith, common_steps)

pub returns-in-True-7 : goal.returns-in-True-7
returns-in-True-7 c = grind (arith, common_steps)

use Rattle.std.proofs.Common.{arith}
use Rattle.std.proofs.lemmas.Grind.{common_steps}
use Rattle.md_feedback.proofs.marks.mentions_atomic.Goals as goal

pub returns-else-is_marked : goal.returns-else-is_marked
returns-else-is_marked c = grind (arith, common_steps)

pub returns-else-is_marked-2 : goal.returns-else-is_marked-2
returns-else-is_marked-2 c = grind (arith, common_steps)

pub returns-in-Arith : goal.returns-in-Arith
returns-in-Arith c = grind (arith, common_steps)

pub returns-in-Call : goal.returns-in-Call
returns-in-Call c = grind (arith, common_steps)

pub returns-in-Compare : goal.returns-in-Compare
returns-in-Compare c = grind (arith, common_steps)

pub returns-in-Error : goal.returns-in-Error
returns-in-Error c = grind (arith, common_steps)

pub returns-in-Nl : goal.returns-in-Nl
returns-in-Nl c = grind (arith, common_steps)

pub returns-in-True : goal.returns-in-True
returns-in-True c = grind (arith, common_steps)

pub returns-in-True-3 : goal.returns-in-True-3
returns-in-True-3 c = grind (arith, common_steps)

pub returns-in-True-4 : goal.returns-in-True-4
returns-in-True-4 c = grind (arith, common_steps)

pub returns-in-True-5 : goal.returns-in-True-5
returns-in-True-5 c = grind (arith, common_steps)

pub returns-in-True-6 : goal.returns-in-True-6
returns-in-True-6 c = grind (arith, common_steps)

pub returns-in-True-7 : goal.returns-in-True-7
returns-in-True-7 c = grind (arith, common_steps)

pub returns-in-WriteInt : goal.returns-in-WriteInt
returns-in-WriteInt c = grind (arith, common_steps)

pub returns-in-WriteStr : goal.returns-in-WriteStr
returns-in-WriteStr c = grind (arith, common_steps)

pub returns-then-is_marked : goal.returns-then-is_marked
returns-then-is_marked c = grind (arith, common_steps)

pub returns-then-is_marked-2 : goal.returns-then-is_marked-2
returns-then-is_marked-2 c = grind (arith, common_steps)

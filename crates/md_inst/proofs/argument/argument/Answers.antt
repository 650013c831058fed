use Rattle.std.proofs.Common.{arith}
use Rattle.std.proofs.lemmas.Grind.{common_steps}
use Rattle.md_inst.proofs.argument.argument.Goals as goal

pub returns-in-In : goal.returns-in-In
returns-in-In c = grind (arith, common_steps)

pub returns-in_ok-input-in-Di : goal.returns-in_ok-input-in-Di
returns-in_ok-input-in-Di c = grind (arith, common_steps)

pub returns-in-Out : goal.returns-in-Out
returns-in-Out c = grind (arith, common_steps)

pub returns-in-Uo : goal.returns-in-Uo
returns-in-Uo c = grind (arith, common_steps)

use Rattle.std.proofs.Common.{arith}
use Rattle.std.proofs.lemmas.Grind.{common_steps}
use Rattle.md_inst.proofs.closure.+are_modes.Goals as goal

pub returns-in-empty-modes : goal.returns-in-empty-modes
returns-in-empty-modes t c = grind (arith, common_steps)

pub returns-in-len1-up-modes : goal.returns-in-len1-up-modes
returns-in-len1-up-modes t c = grind (arith, common_steps)

pub returns-in-empty-modes-2 : goal.returns-in-empty-modes-2
returns-in-empty-modes-2 t c = grind (arith, common_steps)

pub returns-then-same_mode : goal.returns-then-same_mode
returns-then-same_mode t c = grind (arith, common_steps)

pub returns-else-same_mode : goal.returns-else-same_mode
returns-else-same_mode t c = grind (arith, common_steps)

use Rattle.std.proofs.Common.{arith}
use Rattle.std.proofs.lemmas.Grind.{common_steps}
use Rattle.md_inst.proofs.closure.+same_modes.Goals as goal

pub returns-in-empty-b : goal.returns-in-empty-b
returns-in-empty-b t c = grind (arith, common_steps)

pub returns-in-len1-up-b : goal.returns-in-len1-up-b
returns-in-len1-up-b t c = grind (arith, common_steps)

pub returns-in-empty-b-2 : goal.returns-in-empty-b-2
returns-in-empty-b-2 t c = grind (arith, common_steps)

pub returns-then-same_mode : goal.returns-then-same_mode
returns-then-same_mode t c = grind (arith, common_steps)

pub returns-else-same_mode : goal.returns-else-same_mode
returns-else-same_mode t c = grind (arith, common_steps)

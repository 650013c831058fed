use Rattle.std.proofs.Common.{arith}
use Rattle.std.proofs.lemmas.Grind.{common_steps}
use Rattle.md_modes.proofs.declarations.+are_declared.Goals as goal

pub returns-in-empty : goal.returns-in-empty
returns-in-empty t c = grind (arith, common_steps)

pub returns-then-is_declared : goal.returns-then-is_declared
returns-then-is_declared t c = grind (arith, common_steps)

pub returns-else-is_declared : goal.returns-else-is_declared
returns-else-is_declared t c = grind (arith, common_steps)

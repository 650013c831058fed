use Rattle.std.proofs.Common.{arith}
use Rattle.std.proofs.lemmas.Grind.{common_steps}
use Rattle.md_modes.proofs.declarations.+have_pairs.Goals as goal

pub returns-in-empty : goal.returns-in-empty
returns-in-empty t c = grind (arith, common_steps)

pub returns-then-is_plain_pair : goal.returns-then-is_plain_pair
returns-then-is_plain_pair t c = grind (arith, common_steps)

pub returns-else-is_plain_pair : goal.returns-else-is_plain_pair
returns-else-is_plain_pair t c = grind (arith, common_steps)

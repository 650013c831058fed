use Rattle.std.proofs.Common.{arith}
use Rattle.std.proofs.lemmas.Grind.{common_steps}
use Rattle.md_compare.proofs.told.add_name.Goals as goal

pub returns-in_ok-push : goal.returns-in_ok-push
returns-in_ok-push c = record { names = grind (arith, common_steps); each = grind (arith, common_steps) }

pub returns-else-is_passed : goal.returns-else-is_passed
returns-else-is_passed c = record { names = grind (arith, common_steps); each = grind (arith, common_steps) }

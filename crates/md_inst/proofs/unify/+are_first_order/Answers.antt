use Rattle.std.proofs.Common.{arith}
use Rattle.std.proofs.lemmas.Grind.{common_steps}
use Rattle.md_inst.proofs.unify.+are_first_order.Goals as goal

pub returns-in-empty : goal.returns-in-empty
returns-in-empty t c = grind (arith, common_steps)

pub returns-then-not-is_closure : goal.returns-then-not-is_closure
returns-then-not-is_closure t c = grind (arith, common_steps)

pub returns-else-not-is_closure : goal.returns-else-not-is_closure
returns-else-not-is_closure t c = grind (arith, common_steps)

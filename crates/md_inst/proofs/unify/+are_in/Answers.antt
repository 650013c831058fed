use Rattle.std.proofs.Common.{arith}
use Rattle.std.proofs.lemmas.Grind.{common_steps}
use Rattle.md_inst.proofs.unify.+are_in.Goals as goal

pub returns-in-empty : goal.returns-in-empty
returns-in-empty t c = grind (arith, common_steps)

pub returns-then-is_in : goal.returns-then-is_in
returns-then-is_in t c = grind (arith, common_steps)

pub returns-else-is_in : goal.returns-else-is_in
returns-else-is_in t c = grind (arith, common_steps)

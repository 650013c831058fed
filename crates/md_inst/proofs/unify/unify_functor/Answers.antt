use Rattle.std.proofs.Common.{arith}
use Rattle.std.proofs.lemmas.Grind.{common_steps}
use Rattle.md_inst.proofs.unify.unify_functor.Goals as goal

pub returns-then-not-is_same : goal.returns-then-not-is_same
returns-then-not-is_same c = grind (arith, common_steps)

pub returns-in_ok-inputs-in-Free : goal.returns-in_ok-inputs-in-Free
returns-in_ok-inputs-in-Free c = grind (arith, common_steps)

pub returns-else-not-is_same : goal.returns-else-not-is_same
returns-else-not-is_same c = grind (arith, common_steps)

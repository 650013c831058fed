use Rattle.std.proofs.Common.{arith}
use Rattle.std.proofs.lemmas.Grind.{common_steps}
use Rattle.md_det.proofs.atomic.unification_pair.Goals as goal

pub returns-else-is_empty : goal.returns-else-is_empty
returns-else-is_empty c = grind (arith, common_steps)

pub returns-in-Assign : goal.returns-in-Assign
returns-in-Assign c = grind (arith, common_steps)

pub returns-in-Close : goal.returns-in-Close
returns-in-Close c = grind (arith, common_steps)

pub returns-in-Closure : goal.returns-in-Closure
returns-in-Closure c = grind (arith, common_steps)

pub returns-in-Construct : goal.returns-in-Construct
returns-in-Construct c = grind (arith, common_steps)

pub returns-in-None : goal.returns-in-None
returns-in-None c = grind (arith, common_steps)

pub returns-in-Test : goal.returns-in-Test
returns-in-Test c = grind (arith, common_steps)

pub returns-then-is_only_functor : goal.returns-then-is_only_functor
returns-then-is_only_functor c = grind (arith, common_steps)

use Rattle.std.proofs.Common.{arith}
use Rattle.std.proofs.lemmas.Grind.{common_steps}
use Rattle.md_plain.proofs.names.+has_functor.Goals as goal

pub returns-else-declares_functor : goal.returns-else-declares_functor
returns-else-declares_functor t c = grind (arith, common_steps)

pub returns-in-empty : goal.returns-in-empty
returns-in-empty t c = grind (arith, common_steps)

pub returns-then-declares_functor : goal.returns-then-declares_functor
returns-then-declares_functor t c = grind (arith, common_steps)

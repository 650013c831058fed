use Rattle.std.proofs.Common.{arith}
use Rattle.std.proofs.lemmas.Grind.{common_steps}
use Rattle.md_printer.specs.Layout.{laid}
use Rattle.md_printer.proofs.types.functors.Goals as goal

pub returns-in_ok-further_functors : goal.returns-in_ok-further_functors
unfolding laid
returns-in_ok-further_functors c = grind (arith, common_steps)

pub returns-in_default : goal.returns-in_default
unfolding laid
returns-in_default c = grind (arith, common_steps)

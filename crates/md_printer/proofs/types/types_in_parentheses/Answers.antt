use Rattle.std.proofs.Common.{arith}
use Rattle.std.proofs.lemmas.Grind.{common_steps}
use Rattle.md_printer.specs.Layout.{laid}
use Rattle.md_printer.proofs.types.types_in_parentheses.Goals as goal

pub returns-in_ok-sign-2 : goal.returns-in_ok-sign-2
unfolding laid
returns-in_ok-sign-2 c = grind (arith, common_steps)

pub returns-in_default : goal.returns-in_default
unfolding laid
returns-in_default c = grind (arith, common_steps)

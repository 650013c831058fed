use Rattle.std.proofs.Common.{arith}
use Rattle.std.proofs.lemmas.Grind.{common_steps}
use Rattle.md_printer.specs.Layout.{laid}
use Rattle.md_printer.proofs.simple.arithmetic.Goals as goal

pub returns : goal.returns
unfolding laid
returns c = grind (arith, common_steps)

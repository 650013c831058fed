use Rattle.std.proofs.Common.{arith}
use Rattle.std.proofs.lemmas.Grind.{common_steps}
use Rattle.md_printer.specs.Layout.{laid}
use Rattle.md_printer.proofs.names.further_variables.Goals as goal

pub loop-place-preserved : goal.loop-place-preserved
unfolding laid
loop-place-preserved c = grind (arith, common_steps)

pub returns : goal.returns
unfolding laid
returns c = grind (arith, common_steps)

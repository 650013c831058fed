use Rattle.std.proofs.Common.{arith}
use Rattle.std.proofs.lemmas.Grind.{common_steps}
use Rattle.md_printer.specs.Layout.{laid}
use Rattle.md_printer.proofs.types.further_functors.Goals as goal

pub loop-next-preserved : goal.loop-next-preserved
unfolding laid
loop-next-preserved c = grind (arith, common_steps)

use Rattle.std.proofs.Common.{arith}
use Rattle.std.proofs.lemmas.Grind.{common_steps}
use Rattle.md_printer.specs.Printed.{quoted}
use Rattle.md_printer.proofs.literal.quoted.Goals as goal

pub loop-byte-preserved : goal.loop-byte-preserved
unfolding quoted
loop-byte-preserved c = grind (arith, common_steps)

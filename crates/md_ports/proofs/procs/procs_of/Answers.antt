use Rattle.std.proofs.Common.{arith}
use Rattle.std.proofs.lemmas.Grind.{common_steps}
use Rattle.md_ports.proofs.procs.procs_of.Goals as goal

pub loop-pred-preserved : goal.loop-pred-preserved
loop-pred-preserved c = grind (arith, common_steps)

pub returns : goal.returns
returns c = grind (arith, common_steps)

use Rattle.std.proofs.Common.{arith}
use Rattle.std.proofs.lemmas.Grind.{common_steps}
use Rattle.md_static.proofs.sound.proc_keys.Goals as goal

pub loop-proc-preserved : goal.loop-proc-preserved
loop-proc-preserved c = grind (arith, common_steps)

pub returns : goal.returns
returns c = grind (arith, common_steps)

use Rattle.std.proofs.Common.{arith}
use Rattle.std.proofs.lemmas.Grind.{common_steps}
use Rattle.md_dynamic.proofs.slot.empty_slots.Goals as goal

pub loop-init : goal.loop-init
loop-init c = grind (arith, common_steps)

pub loop-smaller : goal.loop-smaller
loop-smaller c = grind (arith, common_steps)

pub loop-preserved : goal.loop-preserved
loop-preserved c = grind (arith, common_steps)

pub returns : goal.returns
returns c = grind (arith, common_steps)

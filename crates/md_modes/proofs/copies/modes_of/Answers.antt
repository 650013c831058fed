use Rattle.std.proofs.Common.{arith}
use Rattle.md_modes.proofs.Notings.{modes-more, modes-end}
use Rattle.md_modes.proofs.copies.modes_of.Goals as goal

pub loop-arg-preserved : goal.loop-arg-preserved
loop-arg-preserved c =
    modes-more c.loop-arg.modes.items c.push.new.self.items c.args.args.now c.loop-arg.arg-index c.arg-item.result _
    (omega arith) c.arg-item.is c.in_ok-push.ensures.items c.loop-arg.invariant

pub returns : goal.returns
returns c = modes-end c.loop-arg.modes.items _ c.args.args.now c.loop-arg.arg-index (omega arith) c.loop-arg.invariant

use Rattle.std.proofs.Common.{arith}
use Rattle.md_modes.proofs.Notings.{opened-more, opened-end}
use Rattle.md_modes.proofs.copies.types_of.Goals as goal

pub loop-arg-preserved : goal.loop-arg-preserved
loop-arg-preserved c =
    opened-more c.loop-arg.types.items c.push.new.self.items c.args.args.now c.loop-arg.arg-index c.arg-item.result c.in_ok-copy_type.field-0 _
    (omega arith) c.arg-item.is c.in_ok-push.ensures.items c.in_ok-copy_type.ensures c.loop-arg.invariant

pub returns : goal.returns
returns c = opened-end c.loop-arg.types.items _ c.args.args.now c.loop-arg.arg-index (omega arith) c.loop-arg.invariant

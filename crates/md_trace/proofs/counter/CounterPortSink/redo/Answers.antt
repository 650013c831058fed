use Rattle.std.proofs.Common.{ap, length, arith}
use Rattle.md_trace.proofs.Histories.{procedure-of-table}
use Rattle.md_trace.proofs.CounterSteps.{room-back, counter-redo}
use Rattle.md_trace.proofs.counter.CounterPortSink.redo.Goals as goal

pub enter_again-requires : goal.enter_again-requires
enter_again-requires c =
    let r = c.requires in
    room-back r.table r.history c.args.self.now r.activation c.args.mark.now r.stood r.owned r.follows

pub count-requires : goal.count-requires
count-requires c =
    let r = c.requires in
    let below = procedure-of-table r.table r.history r.activation c.args.mark.now r.stood.history r.owned in
    omega (arith, below, r.stood.procedures, ap length c.enter_again.ensures.own)

pub returns-clause-taken : goal.returns-clause-taken
returns-clause-taken c = λ t h a for marked may.
    counter-redo t h c.args.self.now c.enter_again.new.self c.count.new.self a c.args.mark.now for marked may c.enter_again.ensures c.count.ensures

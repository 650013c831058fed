use Rattle.std.proofs.Common.{arith}
use Rattle.md_trace.proofs.Histories.{procedure-of-table}
use Rattle.md_trace.proofs.CounterSteps.{counter-excp}
use Rattle.md_trace.proofs.counter.CounterPortSink.excp.Goals as goal

pub count-requires : goal.count-requires
count-requires c =
    let r = c.requires in
    let below = procedure-of-table r.table r.history r.activation c.args.mark.now r.stood.history r.owned in
    omega (arith, below, r.stood.procedures)

pub returns-clause-taken : goal.returns-clause-taken
returns-clause-taken c = λ t h a for marked may.
    counter-excp t h c.args.self.now c.count.new.self c.leave.new.self a c.args.mark.now for marked may c.count.ensures c.leave.ensures

use Rattle.std.proofs.Common.{ap, length, arith}
use Rattle.md_trace.specs.PortHistory.{current}
use Rattle.md_trace.proofs.Histories.{callee-below}
use Rattle.md_trace.proofs.CounterSteps.{counter-call}
use Rattle.md_trace.proofs.counter.CounterPortSink.call.Goals as goal

pub count-requires : goal.count-requires
count-requires c =
    let r = c.requires in
    let below = callee-below r.table r.history (current r.history) c.args._site c.args.callee r.stood.history r.follows.3 in
    omega (arith, below, r.stood.procedures, ap length c.in_ok-enter.ensures.ok.own)

pub returns-clause-taken : goal.returns-clause-taken
returns-clause-taken c = λ t h for may.
    counter-call t h c.args.self.now c.enter.new.self c.count.new.self (current h) c.args._site c.args.callee for may c.in_ok-enter.ensures.ok c.count.ensures

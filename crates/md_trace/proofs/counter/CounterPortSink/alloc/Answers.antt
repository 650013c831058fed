use Rattle.std.proofs.Common.{◌≡◌, Some, unwrap_or, ◌∙◌, ap, arith}
use Rattle.std.proofs.lemmas.Grind.{common_steps}
use Rattle.md_trace.specs.Activation.{activations, procedure_of}
use Rattle.md_trace.specs.PortHistory.{current}
use Rattle.md_trace.proofs.Histories.{procedure-of-table}
use Rattle.md_trace.proofs.CounterSteps.{top-is, counter-alloc}
use Rattle.md_trace.proofs.counter.CounterPortSink.alloc.Goals as goal

pub count-requires : goal.count-requires
count-requires c =
    let r = c.requires in
    let a = unwrap_or (current r.history) 0 in
    let top = top-is r.table r.history c.args.self.now a r.stood r.follows in
    let below = procedure-of-table r.table r.history a top.0 r.stood.history top.1 in
    let same : top.0 ≡ c.in-Some.p = cc (top.2) in
    omega (arith, below, same, r.stood.procedures)

pub count-requires-in-Some : goal.count-requires-in-Some
count-requires-in-Some c =
    let r = c.requires in
    let a = unwrap_or (current r.history) 0 in
    let top = top-is r.table r.history c.args.self.now a r.stood r.follows in
    let below = procedure-of-table r.table r.history a top.0 r.stood.history top.1 in
    let same : top.0 ≡ c.in-Some.p = cc (top.2) in
    omega (arith, below, same, r.stood.procedures, c.count.ensures.procedures)

pub returns-in-Some-clause-taken : goal.returns-in-Some-clause-taken
returns-in-Some-clause-taken c = λ t h for may.
    let a = unwrap_or (current h) 0 in
    let top = top-is t h c.args.self.now a for may in
    let same : top.0 ≡ c.in-Some.p = cc (top.2) in
    let marked : procedure_of (activations h) a ≡ Some c.in-Some.p = top.1 ∙ ap Some same in
    counter-alloc t h c.args.self.now c.count.new.self c.count-in-Some.new.self a c.in-Some.p c.args.words for marked may c.count.ensures c.count-in-Some.ensures

pub returns-in_default-clause-taken : goal.returns-in_default-clause-taken
returns-in_default-clause-taken c = λ t h for may.
    let a = unwrap_or (current h) 0 in
    let top = top-is t h c.args.self.now a for may in
    absurd (cc (top.2, c.in_default.ensures))

pub returns-in_default-clause-alike : goal.returns-in_default-clause-alike
returns-in_default-clause-alike c = grind (arith, common_steps)

pub returns-in-Some-clause-alike : goal.returns-in-Some-clause-alike
returns-in-Some-clause-alike c = grind (arith, common_steps)

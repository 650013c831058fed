use Rattle.std.proofs.Common.{◌<◌, ◌+◌, eqb, take, ap, arith}
use Rattle.std.proofs.lemmas.Grind.{common_steps}
use Rattle.std.proofs.lemmas.List.{get_or_read, length-take-le}
use Rattle.md_static.specs.declared.entry.Proc.{Proc}
use Rattle.md_query.proofs.ListSteps.{places_le, sizes_more}
use Rattle.md_query.proofs.lists.sizes_of_modules.Goals as goal

pub overflow_add-size : goal.overflow_add-size
overflow_add-size c =
    let i = c.loop-proc.proc-index in
    let k = c.proc-item.result.module in
    let lt = c.loop-proc-test.true in
    let below : k < c.args.count = rw (← c.proc-item.is) at (c.requires.below i c.proc-item.result lt) in
    let each = c.loop-proc.invariant.each in
    let read = get_or_read c.loop-proc.sizes.items k c.index.result.now (omega arith) c.index.ensures 0 in
    let old = c.loop-proc.invariant.sizes k below in
    let le = places_le (λ (p : Proc). eqb p.module k) 0 (take i c.args.procs.now) in
    let size = length-take-le i c.args.procs.now (omega arith) in
    let few = c.requires.few in
    record { fits = omega arith }

pub loop-proc-preserved : goal.loop-proc-preserved
loop-proc-preserved c =
    let i = c.loop-proc.proc-index in
    let k = c.proc-item.result.module in
    let lt = c.loop-proc-test.true in
    let below : k < c.args.count = rw (← c.proc-item.is) at (c.requires.below i c.proc-item.result lt) in
    let each = c.loop-proc.invariant.each in
    let read = get_or_read c.loop-proc.sizes.items k c.index.result.now (omega arith) c.index.ensures 0 in
    rw (← c.proc-item.is) at (sizes_more (λ (p : Proc). p.module) c.args.count c.args.procs.now i c.proc-item.result c.loop-proc.sizes.items (c.index.result.now + 1) lt (rw (← c.proc-item.is) below) (rw (← c.proc-item.is) (ap (λ n. n + 1) read)) c.loop-proc.invariant)

pub returns-clause-each : goal.returns-clause-each
returns-clause-each c = grind (arith, common_steps)

pub returns-clause-sizes : goal.returns-clause-sizes
returns-clause-sizes c = grind (arith, common_steps)

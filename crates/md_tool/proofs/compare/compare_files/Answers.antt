use Rattle.md_base.specs.Outside.{Rose}
use Rattle.md_tool.proofs.StreamLemmas.{rose_after}
use Rattle.md_tool.proofs.CompareLemmas.{old_ends, new_ends, compare_fails, all_compared}
use Rattle.md_tool.proofs.compare.compare_files.Goals as goal

pub returns-in_err-before-clause-ends : goal.returns-in_err-before-clause-ends
returns-in_err-before-clause-ends g c =
    let reads = Rose (g.S.Store.read_faults c.args.store.now) (g.S.Store.read_faults c.load_named.new.store) in
    old_ends (g.S.Store.held c.args.store.now) c.args.old.now c.args.new.now c.args.by c.args.least (g.O.Sink.held c.args.out.now) reads reads
    (Rose (g.O.Sink.write_faults c.args.out.now) (g.O.Sink.write_faults c.args.out.now)) c.in_err-before.field-0.0 c.from_residual.result (λ rose. rose) c.in_err-before.ensures.loaded
    c.from_residual.ensures.1

pub returns-in_err-after-clause-ends : goal.returns-in_err-after-clause-ends
returns-in_err-after-clause-ends g c =
    new_ends (g.S.Store.held c.args.store.now) c.args.old.now c.args.new.now c.args.by c.args.least (g.O.Sink.held c.args.out.now) c.in_ok-before.before
    (Rose (g.S.Store.read_faults c.load_named.new.store) (g.S.Store.read_faults c.load_named-2.new.store))
    (Rose (g.S.Store.read_faults c.args.store.now) (g.S.Store.read_faults c.load_named-2.new.store))
    (Rose (g.O.Sink.write_faults c.args.out.now) (g.O.Sink.write_faults c.args.out.now)) c.in_err-after.field-0.0 c.from_residual-in_err-after.result c.in_ok-before.ensures.loaded
    (rose_after (g.S.Store.read_faults c.args.store.now) (g.S.Store.read_faults c.load_named.new.store) (g.S.Store.read_faults c.load_named-2.new.store) c.in_ok-before.ensures.later)
    (rw (c.in_ok-before.ensures.kept) at c.in_err-after.ensures.loaded) c.from_residual-in_err-after.ensures.1

pub returns-clause-ends : goal.returns-clause-ends
returns-clause-ends g c =
    compare_fails (g.S.Store.held c.args.store.now) c.args.old.now c.args.new.now c.args.by c.args.least c.in_ok-before.before c.in_ok-after.after c.in_ok-before.ensures.loaded
    (rw (c.in_ok-before.ensures.kept) at c.in_ok-after.ensures.loaded) _ (g.O.Sink.held c.args.out.now) (g.O.Sink.held c.write_comparison.new.out)
    (Rose (g.S.Store.read_faults c.args.store.now) (g.S.Store.read_faults c.load_named-2.new.store))
    (Rose (g.O.Sink.write_faults c.args.out.now) (g.O.Sink.write_faults c.write_comparison.new.out)) c.in-Err.fault c.in-Err.ensures.ends

pub returns-in-Ok-clause-ends : goal.returns-in-Ok-clause-ends
returns-in-Ok-clause-ends g c =
    all_compared (g.S.Store.held c.args.store.now) c.args.old.now c.args.new.now c.args.by c.args.least c.in_ok-before.before c.in_ok-after.after c.in_ok-before.ensures.loaded
    (rw (c.in_ok-before.ensures.kept) at c.in_ok-after.ensures.loaded) (g.O.Sink.held c.args.out.now) (g.O.Sink.held c.write_comparison.new.out) c.in-Ok.ensures.ends

use Rattle.md_base.specs.Outside.{Rose}
use Rattle.md_tool.specs.Kept.{IsRunFile}
use Rattle.md_tool.proofs.KeepLemmas.{ran_accepted}
use Rattle.md_tool.proofs.run.run_file.Goals as goal

pub returns-clause-ends : goal.returns-clause-ends
returns-clause-ends g c =
    let p = rw c.deref.ensures.value at c.in_ok-profiled.ensures in
    ran_accepted (IsRunFile c.args.steps) (g.S.Store.held c.args.store.now) (g.S.Store.held c.keep.new.store) c.args.file.now c.in_ok-text.text.items c.args.steps c.args.name.now
    (g.O.Sink.held c.args.out.now) (g.O.Sink.held c.keep.new.out)
    (Rose (g.S.Store.read_faults c.args.store.now) (g.S.Store.read_faults c.keep.new.store))
    (Rose (g.S.Store.write_faults c.args.store.now) (g.S.Store.write_faults c.keep.new.store))
    (Rose (g.O.Sink.write_faults c.args.out.now) (g.O.Sink.write_faults c.keep.new.out))
    c.keep.result c.in_ok-text.ensures.read p.accepted
    (rw (c.in_ok-text.ensures.kept, c.in_ok-text.ensures.writes) at (c.keep.ensures.ends p.accepted.program c.args.steps p.is_profiled))

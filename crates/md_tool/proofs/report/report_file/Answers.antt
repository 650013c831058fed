use Rattle.md_base.specs.Outside.{Rose}
use Rattle.md_query.specs.Told.{asked}
use Rattle.md_tool.specs.Reported.{IsPageOfRun, HasNoPageOfRun}
use Rattle.md_tool.proofs.ReportLemmas.{reported}
use Rattle.md_tool.proofs.report.report_file.Goals as goal
use Rattle.std.proofs.Common.{arith}
use Rattle.std.proofs.lemmas.Grind.{common_steps}

pub returns-clause-ends : goal.returns-clause-ends
returns-clause-ends g c =
    let p = rw c.deref.ensures.value at c.in_ok-profiled.ensures in
    reported (IsPageOfRun (asked c.args.query.now) c.args.steps) (HasNoPageOfRun (asked c.args.query.now) c.args.steps) (g.S.Store.held c.args.store.now) c.args.file.now c.in_ok-text.text.items c.args.steps
    (g.O.Sink.held c.args.out.now) (g.O.Sink.held c.show.new.out) (g.E.Sink.held c.args.err.now) (g.E.Sink.held c.show.new.err)
    (Rose (g.S.Store.read_faults c.args.store.now) (g.S.Store.read_faults c.read_text.new.store))
    (Rose (g.O.Sink.write_faults c.args.out.now) (g.O.Sink.write_faults c.show.new.out))
    (Rose (g.E.Sink.write_faults c.args.err.now) (g.E.Sink.write_faults c.show.new.err))
    c.show.result c.in_ok-text.ensures.read p.accepted (c.show.ensures.ends p.accepted.program c.args.steps p.bounds p.is_profiled)

pub returns-clause-kept : goal.returns-clause-kept
returns-clause-kept g c = grind (arith, common_steps)

pub returns-clause-later : goal.returns-clause-later
returns-clause-later g c = grind (arith, common_steps)

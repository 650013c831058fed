use Rattle.md_base.specs.Outside.{Rose}
use Rattle.md_query.specs.Told.{asked}
use Rattle.std.specs.Prelude.{Ok, Err}
use Rattle.md_tool.specs.Reported.{IsPageOfRun, HasNoPageOfRun}
use Rattle.md_tool.proofs.ReportLemmas.{page_text, shown, unpaged}
use Rattle.md_tool.proofs.report.show.Goals as goal
use Rattle.std.proofs.Common.{arith}
use Rattle.std.proofs.lemmas.Grind.{common_steps}

pub returns-in-Err-clause-ends : goal.returns-in-Err-clause-ends
returns-in-Err-clause-ends g c program steps bounds p =
    unpaged (IsPageOfRun (asked c.args.query.now) steps program) (HasNoPageOfRun (asked c.args.query.now) steps program) program steps c.args.profiled.ran
    (g.O.Sink.held c.args.out.now) (g.O.Sink.held c.show_page.new.out) (g.E.Sink.held c.args.err.now) (g.E.Sink.held c.show_output.new.err)
    (Rose (g.O.Sink.write_faults c.args.out.now) (g.O.Sink.write_faults c.show_page.new.out))
    (Rose (g.E.Sink.write_faults c.args.err.now) (g.E.Sink.write_faults c.show_output.new.err))
    c.in-Err.fault p.is_run (rw c.deref.ensures.value at c.in_ok-show_output.ensures.ends)
    (page_text (asked c.args.query.now) steps program (g.O.Sink.held c.args.out.now) (g.O.Sink.held c.show_page.new.out) (Rose (g.O.Sink.write_faults c.args.out.now) (g.O.Sink.write_faults c.show_page.new.out)) (Err c.in-Err.fault)
    (c.in-Err.ensures.ends program steps bounds p.is_profile))

pub returns-in-Ok-clause-ends : goal.returns-in-Ok-clause-ends
returns-in-Ok-clause-ends g c program steps bounds p =
    shown (IsPageOfRun (asked c.args.query.now) steps program) (HasNoPageOfRun (asked c.args.query.now) steps program) program steps c.args.profiled.ran
    (g.O.Sink.held c.args.out.now) (g.O.Sink.held c.show_page.new.out) (g.E.Sink.held c.args.err.now) (g.E.Sink.held c.show_output.new.err)
    (Rose (g.O.Sink.write_faults c.args.out.now) (g.O.Sink.write_faults c.show_page.new.out))
    (Rose (g.E.Sink.write_faults c.args.err.now) (g.E.Sink.write_faults c.show_output.new.err))
    c.ended.result p.is_run (rw c.deref.ensures.value at c.in_ok-show_output.ensures.ends)
    (page_text (asked c.args.query.now) steps program (g.O.Sink.held c.args.out.now) (g.O.Sink.held c.show_page.new.out) (Rose (g.O.Sink.write_faults c.args.out.now) (g.O.Sink.write_faults c.show_page.new.out)) (Ok tt)
    (c.in-Ok.ensures.ends program steps bounds p.is_profile)) c.ended.ensures

pub returns-in-Err-clause-later : goal.returns-in-Err-clause-later
returns-in-Err-clause-later g c = grind (arith, common_steps)

pub returns-in-Ok-clause-later : goal.returns-in-Ok-clause-later
returns-in-Ok-clause-later g c = grind (arith, common_steps)

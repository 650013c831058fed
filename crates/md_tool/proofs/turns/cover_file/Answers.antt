use Rattle.md_base.specs.Outside.{Rose}
use Rattle.md_commands.specs.Told.{meant}
use Rattle.md_tool.specs.Turns.{IsCoverageOfRun, HasNoProcedure}
use Rattle.md_tool.proofs.ReportLemmas.{reported}
use Rattle.md_tool.proofs.turns.cover_file.Goals as goal

pub returns-clause-ends : goal.returns-clause-ends
returns-clause-ends g c =
    let p = rw c.deref.ensures.value at c.in_ok-counted.ensures in
    reported (IsCoverageOfRun (meant c.args.proc) c.args.steps) (HasNoProcedure (meant c.args.proc)) (g.S.Store.held c.args.store.now) c.args.file.now c.in_ok-text.text.items c.args.steps
    (g.O.Sink.held c.args.out.now) (g.O.Sink.held c.show_counted.new.out) (g.E.Sink.held c.args.err.now) (g.E.Sink.held c.show_counted.new.err)
    (Rose (g.S.Store.read_faults c.args.store.now) (g.S.Store.read_faults c.read_text.new.store))
    (Rose (g.O.Sink.write_faults c.args.out.now) (g.O.Sink.write_faults c.show_counted.new.out))
    (Rose (g.E.Sink.write_faults c.args.err.now) (g.E.Sink.write_faults c.show_counted.new.err))
    c.show_counted.result c.in_ok-text.ensures.read p.accepted (c.show_counted.ensures.ends p.accepted.program (meant c.args.proc) c.args.steps p.is_run p.is_text)

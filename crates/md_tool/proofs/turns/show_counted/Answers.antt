use Rattle.md_base.specs.Outside.{Rose}
use Rattle.md_tool.specs.Turns.{IsCoverageOfRun, HasNoProcedure}
use Rattle.md_tool.proofs.ReportLemmas.{unpaged}
use Rattle.md_tool.proofs.turns.show_counted.Goals as goal

pub returns-in-Err-clause-ends : goal.returns-in-Err-clause-ends
returns-in-Err-clause-ends g c program proc steps run text =
    unpaged (IsCoverageOfRun proc steps program) (HasNoProcedure proc program) program steps c.args.counted.ran (g.O.Sink.held c.args.out.now) (g.O.Sink.held c.write_found.new.out)
    (g.E.Sink.held c.args.err.now) (g.E.Sink.held c.show_output.new.err)
    (Rose (g.O.Sink.write_faults c.args.out.now) (g.O.Sink.write_faults c.write_found.new.out))
    (Rose (g.E.Sink.write_faults c.args.err.now) (g.E.Sink.write_faults c.show_output.new.err))
    c.in-Err.fault run (rw c.deref.ensures.value at c.in_ok-show_output.ensures.ends) (c.in-Err.ensures.ends program proc steps text)

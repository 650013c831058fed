use Rattle.std.specs.Prelude.{codes}
use Rattle.md_base.specs.Outside.{Rose}
use Rattle.md_tool.proofs.StreamLemmas.{rose_after, second_ends}
use Rattle.md_tool.proofs.report.show_output.Goals as goal
use Rattle.std.proofs.Common.{arith}
use Rattle.std.proofs.lemmas.Grind.{common_steps}

pub returns-clause-ends : goal.returns-clause-ends
returns-clause-ends g c =
    second_ends c.args.output.now (codes "-- end of output\n") (g.E.Sink.held c.args.err.now) (g.E.Sink.held c.write.new.out) (g.E.Sink.held c.write-2.new.out)
    (Rose (g.E.Sink.write_faults c.write.new.out) (g.E.Sink.write_faults c.write-2.new.out))
    (Rose (g.E.Sink.write_faults c.args.err.now) (g.E.Sink.write_faults c.write-2.new.out)) c.write-2.result
    (rose_after (g.E.Sink.write_faults c.args.err.now) (g.E.Sink.write_faults c.write.new.out) (g.E.Sink.write_faults c.write-2.new.out) c.write.ensures.later)
    c.in_ok-write.ensures.ends c.write-2.ensures.ends

pub returns-clause-later : goal.returns-clause-later
returns-clause-later g c = grind (arith, common_steps)

pub returns-in_err-write-clause-ends : goal.returns-in_err-write-clause-ends
returns-in_err-write-clause-ends g c = grind (arith, common_steps)

pub returns-in_err-write-clause-later : goal.returns-in_err-write-clause-later
returns-in_err-write-clause-later g c = grind (arith, common_steps)

use Rattle.std.proofs.Common.{ℕ, List, subst}
use Rattle.std.specs.Prelude.{Err}
use Rattle.md_base.specs.Outside.{Rose}
use Rattle.md_commands.specs.Told.{texts}
use Rattle.md_tool.specs.Due.{WriteEnds}
use Rattle.md_tool.proofs.SumLemmas.{stopped_ends, sum_written}
use Rattle.md_tool.proofs.sums.write_sums.Goals as goal

pub returns-in_err-text-clause-ends : goal.returns-in_err-text-clause-ends
returns-in_err-text-clause-ends g c held sums =
    stopped_ends held (texts c.args.names.now) (g.O.Sink.held c.args.out.now) ⊥ (Rose (g.O.Sink.write_faults c.args.out.now) (g.O.Sink.write_faults c.args.out.now)) c.in_err-text.field-0.0 c.from_residual.result (c.in_err-text.ensures held sums)
    c.from_residual.ensures.1

pub returns-clause-ends : goal.returns-clause-ends
returns-clause-ends g c held sums =
    sum_written held (texts c.args.names.now) c.in_ok-text.text.items (g.O.Sink.held c.args.out.now) (g.O.Sink.held c.write.new.out) ⊥ (Rose (g.O.Sink.write_faults c.args.out.now) (g.O.Sink.write_faults c.write.new.out)) c.in-Err.fault
    (c.in_ok-text.ensures held sums) (subst (λ (bytes : List ℕ). WriteEnds bytes (g.O.Sink.held c.args.out.now) (g.O.Sink.held c.write.new.out) (Rose (g.O.Sink.write_faults c.args.out.now) (g.O.Sink.write_faults c.write.new.out)) (Err c.in-Err.fault)) c.deref.ensures.value c.in-Err.ensures.ends)

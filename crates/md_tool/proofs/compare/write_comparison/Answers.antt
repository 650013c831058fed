use Rattle.std.proofs.Common.{◌∙◌}
use Rattle.md_base.specs.Outside.{Rose}
use Rattle.md_tool.specs.Compared.{IsComparison}
use Rattle.md_tool.proofs.ReportLemmas.{text_written}
use Rattle.md_tool.proofs.compare.write_comparison.Goals as goal

pub returns-in-Ok-clause-ends : goal.returns-in-Ok-clause-ends
returns-in-Ok-clause-ends g c =
    let old = c.profile-old_viewed.ensures.viewed in
    let new = c.profile-new_viewed.ensures.viewed in
    text_written (IsComparison c.args.old.now.profile c.args.new.now.profile c.args.by c.args.least) ⊥ c.deref.result.now (g.O.Sink.held c.args.out.now) (g.O.Sink.held c.write.new.out)
    (Rose (g.O.Sink.write_faults c.args.out.now) (g.O.Sink.write_faults c.write.new.out)) c.write.result
    (record { old_view = old.0; is_old_view = old.1; new_view = new.0; is_new_view = new.1; is = c.deref.ensures.value ∙ c.in-Ok.ensures old.0 new.0 old.1 new.1 }) c.write.ensures.ends

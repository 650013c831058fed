use Rattle.std.proofs.Common.{◌≡◌, ℕ, List, subst, ◌∙◌, arith}
use Rattle.std.proofs.lemmas.Grind.{common_steps}
use Rattle.md_base.specs.Outside.{Rose}
use Rattle.md_query.specs.Told.{asked}
use Rattle.md_render.specs.Text.{text_of}
use Rattle.md_tool.specs.Due.{WriteEnds}
use Rattle.md_tool.proofs.ReportLemmas.{page_written}
use Rattle.md_tool.proofs.paged.write_page.Goals as goal

pub returns-clause-ends : goal.returns-clause-ends
returns-clause-ends g c = grind (arith, common_steps)

pub returns-in_err-page-clause-ends : goal.returns-in_err-page-clause-ends
returns-in_err-page-clause-ends g c = grind (arith, common_steps)

pub returns-in-Ok-clause-ends : goal.returns-in-Ok-clause-ends
returns-in-Ok-clause-ends g c =
    let view = c.profile-viewed.ensures.viewed in
    let page = c.in_ok-page.page in
    let before = g.O.Sink.held c.args.out.now in
    let now = g.O.Sink.held c.write.new.out in
    let writes = Rose (g.O.Sink.write_faults c.args.out.now) (g.O.Sink.write_faults c.write.new.out) in
    let bytes : c.deref.result.now ≡ text_of view.0 page = c.deref.ensures.value ∙ c.in-Ok.ensures view.0 view.1 in
    page_written c.args.loaded.now.profile (asked c.args.query.now) page before now writes c.write.result view.0 view.1 (c.in_ok-page.ensures.is_page view.0 view.1)
    (subst (λ (bs : List ℕ). WriteEnds bs before now writes c.write.result) bytes c.write.ensures.ends)

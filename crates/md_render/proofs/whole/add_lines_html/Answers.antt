use Rattle.std.proofs.Common.{◌≡◌, ◌++◌, subst, sym, OnOk}
use Rattle.md_render.specs.Html.{lines_html}
use Rattle.md_render.specs.Names.{Names}
use Rattle.md_table.proofs.Chains.{three-added}
use Rattle.md_render.proofs.Same.{same_names}
use Rattle.md_render.proofs.whole.add_lines_html.Goals as goal

pub returns : goal.returns
returns c = λ v is.
    let same = same_names c.args.loaded.now c.profile.ensures.valid c.profile.ensures.loaded v is in
    subst (λ (n : Names). OnOk c.add_foot.result (c.add_foot.new.out.items ≡ c.args.out.now.items ++ lines_html n c.args.page.now)) (sym same)
    (three-added _ c.args.out.now.items _ _ _ _ _ _
    (rw (c.statics.ensures, c.profile.ensures.profile, c.title.ensures) at c.in_ok-add_head.ensures)
    (rw c.rows.ensures at c.in_ok-add_lines.ensures)
    c.add_foot.ensures)

use Rattle.std.proofs.Common.{◌≡◌, ◌++◌, subst, sym, OnOk}
use Rattle.md_render.specs.Names.{Names}
use Rattle.md_render.specs.Text.{text_with}
use Rattle.md_table.proofs.Chains.{three-added}
use Rattle.md_render.proofs.Same.{same_names}
use Rattle.md_render.proofs.whole.add_text.Goals as goal

pub returns : goal.returns
returns c = λ v is.
    let same = same_names c.args.loaded.now c.profile.ensures.valid c.profile.ensures.loaded v is in
    subst (λ (n : Names). OnOk c.add_lines.result (c.add_lines.new.out.items ≡ c.args.out.now.items ++ text_with n c.args.page.now)) (sym same)
    (three-added _ c.args.out.now.items _ _ _ _ _ _
    (rw (c.statics.ensures, c.profile.ensures.profile, c.title.ensures) at c.in_ok-add_title.ensures)
    c.in_ok-add.ensures
    (rw c.rows.ensures at c.add_lines.ensures))

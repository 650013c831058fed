use Rattle.std.proofs.Common.{◌≡◌, ◌++◌, ap, subst, sym}
use Rattle.md_static.specs.Tables.{Static}
use Rattle.md_table.specs.Anchors.{escaped}
use Rattle.md_render.specs.Html.{body_html}
use Rattle.md_render.specs.Lines.{title_words}
use Rattle.md_render.specs.Names.{Names}
use Rattle.md_render.specs.People.{closing_words, opening_words, turns_words}
use Rattle.md_render.proofs.Chains.{four-words}
use Rattle.md_render.proofs.Same.{same_names}
use Rattle.md_render.proofs.whole.add_people.Goals as goal

pub returns : goal.returns
returns c = λ v is.
    let page = c.args.page.now in
    let same = ap (λ (n : Names). n.statics) (same_names c.args.loaded.now c.profile.ensures.valid c.profile.ensures.loaded v is) in
    subst (λ (s : Static). c.add_closing.new.out.items ≡ c.args.out.now.items ++ (opening_words (escaped (title_words s page.title)) ++ (turns_words page.title c.args.by ++ (body_html v c.args.by page.rows page.title ++ closing_words c.args.by)))) (sym same)
    (four-words c.args.out.now.items _ _ _ _ _ _ _ _
    (rw (c.statics.ensures, c.profile.ensures.profile, c.title.ensures) at c.in_ok-add_top.ensures)
    (rw c.title-2.ensures at c.in_ok-add_turns.ensures)
    (c.in_ok-add_body.ensures v is)
    c.in_ok-add_closing.ensures)

use Rattle.std.proofs.Common.{◌++◌, ℕ, List, sym, ap, ◌∙◌}
use Rattle.md_render.specs.Address.{sort_of}
use Rattle.md_render.specs.Names.{Names}
use Rattle.md_render.specs.People.{tables_html}
use Rattle.md_render.proofs.Same.{same_names}
use Rattle.md_render.proofs.Titles.{other_body}
use Rattle.md_render.proofs.whole.add_body.Goals as goal

pub returns : goal.returns
returns c = λ v is.
    let page = c.args.page.now in
    let same = same_names c.args.loaded.now c.profile-profile.ensures.valid c.profile-profile.ensures.loaded v is in
    rw (c.title-2.ensures, c.rows.ensures) at c.in_ok-add_tables.ensures
    ∙ ap (λ (n : Names). c.args.out.now.items ++ tables_html n c.args.by (sort_of page.title) page.rows) (sym same)
    ∙ ap (λ (xs : List ℕ). c.args.out.now.items ++ xs) (sym (other_body v c.args.by page.rows page.title (λ by least e. c.in_default.not-Flame by least (c.title.ensures ∙ e))))

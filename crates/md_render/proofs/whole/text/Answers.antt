use Rattle.std.proofs.Common.{◌≡◌, ◌++◌, ℕ, List, sym, ap, ◌∙◌}
use Rattle.std.proofs.lemmas.Result.{IfOk-weaker}
use Rattle.md_query.specs.declared.row.Title.TheVariants as title
use Rattle.md_render.specs.Names.{names_of}
use Rattle.md_render.specs.Text.{text_of, text_titled, text_with}
use Rattle.md_render.proofs.Titles.{other_text}
use Rattle.md_render.proofs.whole.text.Goals as goal

pub returns-in-Flame : goal.returns-in-Flame
unfolding text_of
returns-in-Flame c = λ v is.
    let of : c.args.page.now.title ≡ title.Flame c.in-Flame.by c.in-Flame.least = sym c.title.ensures ∙ c.in-Flame.is in
    IfOk-weaker c.flame_text.result _ _ (λ text h. h v is ∙ ap (text_titled v c.args.page.now) (sym of)) c.flame_text.ensures

pub returns : goal.returns
unfolding text_of
returns c = λ v is.
    c.in_ok-add_text.ensures v is
    ∙ ap (λ (xs : List ℕ). xs ++ text_with (names_of v) c.args.page.now) c.new-out.ensures.items
    ∙ sym (other_text v c.args.page.now c.args.page.now.title (λ by least e. c.in_default.not-Flame by least (c.title.ensures ∙ e)))

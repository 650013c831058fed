use Rattle.std.proofs.Common.{◌≡◌, Option, sym, ap, ◌∙◌}
use Rattle.md_base.specs.declared.measure.Measure.{Measure}
use Rattle.md_render.specs.Address.{by_of}
use Rattle.md_render.specs.Html.{html_by, html_of}
use Rattle.md_render.proofs.whole.html.Goals.{in-Some+in_ok-add_people-in-Some, in-None+in_ok-add_lines_html-in-None}
use Rattle.md_render.proofs.whole.html.Goals as goal

pub returns : goal.returns
unfolding html_of
returns c = λ v is.
    let by : c.by_of.result ≡ by_of c.args.page.now.title = rw c.title.ensures at c.by_of.ensures in
    elim c.match-by_of.branch [
      | in-Some+in_ok-add_people-in-Some w ↦
          ap (λ o. o.items) w.out-is
          ∙ rw c.new-out.ensures.items at (w.in_ok-add_people-in-Some.ensures v is)
          ∙ ap (λ (m : Option Measure). html_by v c.args.page.now m) (sym w.in-Some.is ∙ by)
      | in-None+in_ok-add_lines_html-in-None w ↦
          ap (λ o. o.items) w.out-is
          ∙ rw c.new-out.ensures.items at (w.in_ok-add_lines_html-in-None.ensures v is)
          ∙ ap (λ (m : Option Measure). html_by v c.args.page.now m) (sym w.in-None.is ∙ by)
    ]

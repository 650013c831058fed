-- Pages that are no flame graph have a title and rows.
use Rattle.std.proofs.Common.{◌≡◌, ℕ, List, refl}
use Rattle.md_base.specs.declared.measure.Measure.{Measure}
use Rattle.md_cost.specs.View.{View}
use Rattle.md_query.specs.declared.row.Row.{Row}
use Rattle.md_query.specs.declared.row.Title.{Title}
use Rattle.md_query.specs.declared.row.Title.TheVariants as title
use Rattle.md_query.specs.Page.{PageRows}
use Rattle.md_render.specs.Address.{sort_of}
use Rattle.md_render.specs.Html.{body_html}
use Rattle.md_render.specs.People.{tables_html}
use Rattle.md_render.specs.Names.{names_of}
use Rattle.md_render.specs.Text.{text_titled, text_with}

abbrev pub IsOther : Title → Type 0
IsOther t = (by : Measure) (least : ℕ) → t ≡ title.Flame by least → ⊥

pub other_text : (v : View) (page : PageRows) (t : Title) → IsOther t → text_titled v page t ≡ text_with (names_of v) page
other_text v page title.Menu other = refl
other_text v page (title.Clique k) other = refl
other_text v page title.Procs other = refl
other_text v page (title.Top by n) other = refl
other_text v page (title.Proc q) other = refl
other_text v page title.Modules other = refl
other_text v page (title.Module k) other = refl
other_text v page (title.Hot by n sort) other = refl
other_text v page (title.Tree by least) other = refl
other_text v page (title.Find by text) other = refl
other_text v page (title.Context by c q) other = refl
other_text v page (title.Callers by q) other = refl
other_text v page (title.Flame by least) other = absurd (other by least refl)

pub other_body : (v : View) (by : Measure) (rows : List Row) (t : Title) → IsOther t → body_html v by rows t ≡ tables_html (names_of v) by (sort_of t) rows
other_body v m rows title.Menu other = refl
other_body v m rows (title.Clique k) other = refl
other_body v m rows title.Procs other = refl
other_body v m rows (title.Top by n) other = refl
other_body v m rows (title.Proc q) other = refl
other_body v m rows title.Modules other = refl
other_body v m rows (title.Module k) other = refl
other_body v m rows (title.Hot by n sort) other = refl
other_body v m rows (title.Tree by least) other = refl
other_body v m rows (title.Find by text) other = refl
other_body v m rows (title.Context by c q) other = refl
other_body v m rows (title.Callers by q) other = refl
other_body v m rows (title.Flame by least) other = absurd (other by least refl)

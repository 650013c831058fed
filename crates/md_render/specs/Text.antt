-- The text of a page: its title, and a line for each row. That of a flame graph has neither.
use Rattle.std.specs.Prelude.{ℕ, List, ◌++◌, codes}
use Rattle.md_cost.specs.View.{View}
use Rattle.md_people.specs.Flame.{flame_text}
use Rattle.md_query.specs.Page.{PageRows}
use Rattle.md_query.specs.declared.row.Title.{Title}
use Rattle.md_query.specs.declared.row.Title.TheVariants as title
use Rattle.md_render.specs.declared.form.Form.TheVariants.{Text}
use Rattle.md_render.specs.Names.{Names, names_of}
use Rattle.md_render.specs.Lines.{title_words, row_lines}

abbrev pub text_with : Names → PageRows → List ℕ
text_with n page = title_words n.statics page.title ++ (codes "\n" ++ row_lines Text n page.rows)

abbrev pub text_titled : View → PageRows → Title → List ℕ
text_titled v page (title.Flame by least) = flame_text v by
text_titled v page t = text_with (names_of v) page

unfoldable pub text_of : View → PageRows → List ℕ
text_of v page = text_titled v page page.title

-- The HTML of a page: that of a page for people, or its title in two places, a line for each row with its anchors, and where to go on.
use Rattle.std.specs.Prelude.{ℕ, List, ◌++◌, codes, Option, Some, None}
use Rattle.md_base.specs.declared.measure.Measure.{Measure}
use Rattle.md_cost.specs.View.{View}
use Rattle.md_table.specs.Anchors.{escaped}
use Rattle.md_query.specs.Page.{PageRows}
use Rattle.md_query.specs.declared.row.Row.{Row}
use Rattle.md_query.specs.declared.row.Title.{Title}
use Rattle.md_query.specs.declared.row.Title.TheVariants as title
use Rattle.md_render.specs.declared.form.Form.TheVariants.{Html}
use Rattle.md_render.specs.Address.{by_of, sort_of}
use Rattle.md_render.specs.Icicle.{icicle_words}
use Rattle.md_render.specs.Lines.{title_words, row_lines}
use Rattle.md_render.specs.Names.{Names, names_of}
use Rattle.md_render.specs.People.{closing_words, opening_words, tables_html, turns_words}

-- ---- pages of lines

abbrev pub head_words : (title : List ℕ) → List ℕ
head_words title =
    codes "<!DOCTYPE html>\n<html><head><meta charset=\"utf-8\"><title>"
    ++ (title ++ (codes "</title></head><body>\n<h1>" ++ (title ++ codes "</h1>\n<pre>\n")))

abbrev pub foot_words : List ℕ
foot_words =
    codes "</pre>\n<p><a href=\"/\">menu</a> <a href=\"/root\">root</a> <a href=\"/procs\">procs</a> <a href=\"/modules\">modules</a></p>\n</body></html>\n"

-- names of a profile need no escape
abbrev pub lines_html : Names → PageRows → List ℕ
lines_html n page = head_words (title_words n.statics page.title) ++ (row_lines Html n page.rows ++ foot_words)

-- ---- pages for people

-- a flame graph is a picture, and has no rows
abbrev pub body_html : View → Measure → List Row → Title → List ℕ
body_html v by rows (title.Flame m least) = icicle_words v m least
body_html v by rows t = tables_html (names_of v) by (sort_of t) rows

-- a text of any bytes may stand in the title
abbrev pub people_html : View → PageRows → Measure → List ℕ
people_html v page by =
    opening_words (escaped (title_words v.statics page.title))
    ++ (turns_words page.title by ++ (body_html v by page.rows page.title ++ closing_words by))

-- ---- a page

abbrev pub html_by : View → PageRows → Option Measure → List ℕ
html_by v page (Some by) = people_html v page by
html_by v page None = lines_html (names_of v) page

unfoldable pub html_of : View → PageRows → List ℕ
html_of v page = html_by v page (by_of page.title)

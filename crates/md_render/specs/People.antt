-- Pages for people as HTML: the title, the page by each measure, lines and tables or a picture, and where to go on.
use Rattle.std.specs.Prelude.{ℕ, ◌+◌, ◌-◌, List, [], ◌∷◌, ◌++◌, codes, length, if◌then◌else◌, bytes_eq}
use Rattle.std.specs.List.{flat_map, fold}
use Rattle.md_base.specs.declared.measure.Measure.{Measure}
use Rattle.md_base.specs.declared.measure.Measure.TheVariants.{Calls, Exits, Fails, Redos, Allocs, Words, Excps}
use Rattle.md_table.specs.Html as html
use Rattle.md_query.specs.declared.row.Row.{Row}
use Rattle.md_query.specs.declared.row.Row.TheVariants as row
use Rattle.md_query.specs.declared.row.Title.{Title}
use Rattle.md_render.specs.declared.form.Form.TheVariants.{Html}
use Rattle.md_render.specs.Address.{address_words}
use Rattle.md_render.specs.Lines.{row_words}
use Rattle.md_render.specs.Names.{Names}
use Rattle.md_render.specs.Sheet.{sheet_words}
use Rattle.md_render.specs.Words.{measure_word, more_words}

-- ---- the head

-- between the title and the heading stands the sheet
abbrev pub styled_words : List ℕ
styled_words = codes "</title>\n<style>\n" ++ (sheet_words ++ codes "</style></head><body>\n<h1>")

abbrev pub opening_words : (title : List ℕ) → List ℕ
opening_words title =
    codes "<!DOCTYPE html>\n<html lang=\"en\"><head><meta charset=\"utf-8\"><meta name=\"viewport\" content=\"width=device-width\"><title>"
    ++ (title ++ (styled_words ++ (title ++ codes "</h1>\n")))

-- ---- by each measure

abbrev pub measures : List Measure
measures = Calls ∷ Exits ∷ Fails ∷ Redos ∷ Allocs ∷ Words ∷ Excps ∷ []

-- the measure of the page is marked as the one where the reader is
abbrev pub marked_words : (by : Measure) → Measure → List ℕ
marked_words by m = if bytes_eq (measure_word m) (measure_word by) then codes "\" class=\"on\">" else codes "\">"

abbrev pub turn_words : Title → (by : Measure) → Measure → List ℕ
turn_words t by m = codes "<a href=\"" ++ (address_words t m ++ (marked_words by m ++ (measure_word m ++ codes "</a>\n")))

abbrev pub turns_words : Title → (by : Measure) → List ℕ
turns_words t by = codes "<nav>\n" ++ (flat_map (turn_words t by) measures ++ codes "</nav>\n")

-- ---- lines and tables

abbrev pub line_html : Names → Row → List ℕ
line_html n r = codes "<p>" ++ (row_words Html n r ++ codes "</p>\n")

-- a row of the page, of which a table shows no more rows than there is room left for
abbrev pub shown_html : Names → Measure → (sort : List ℕ) (room : ℕ) → Row → List ℕ
shown_html n by sort room (row.Table table) = html.html_of (measure_word by) sort room table
shown_html n by sort room r = line_html n r

-- how many rows a table has
abbrev pub size_of : Row → ℕ
size_of (row.Table table) = length table.rows
size_of r = 0

abbrev pub rows_html : Names → Measure → (sort : List ℕ) (room : ℕ) → List Row → List ℕ
rows_html n by sort room [] = []
rows_html n by sort room (r ∷ rs) = shown_html n by sort room r ++ rows_html n by sort (room - size_of r) rs

-- how many rows the tables of a page have
abbrev pub size_in : List Row → ℕ
size_in rows = fold (λ size r. size + size_of r) 0 rows

-- the first 1,000 rows, and how many more there are
abbrev pub tables_html : Names → Measure → (sort : List ℕ) → List Row → List ℕ
tables_html n by sort rows = rows_html n by sort 1000 rows ++ more_words (size_in rows - 1000)

-- ---- the foot

abbrev pub led_words : (path : List ℕ) → Measure → List ℕ
led_words path by = (codes "<a href=\"/" ++ (path ++ codes "?by=")) ++ (measure_word by ++ (codes "\">" ++ (path ++ codes "</a>\n")))

-- what has a text in its name is asked for by a form
abbrev pub form_words : Measure → List ℕ
form_words by =
    codes "<form action=\"/find\"><input type=\"hidden\" name=\"by\" value=\""
    ++ (measure_word by ++ codes "\"><input name=\"name\" required aria-label=\"text of a name\"> <button>find</button></form>\n")

abbrev pub old_words : List ℕ
old_words = codes "<a href=\"/\">menu</a>\n<a href=\"/root\">root</a>\n<a href=\"/procs\">procs</a>\n<a href=\"/modules\">modules</a>\n</footer>\n"

abbrev pub end_words : Measure → List ℕ
end_words by =
    codes "<footer>\n" ++ (led_words (codes "hot") by ++ (led_words (codes "tree") by ++ (led_words (codes "flame") by ++ old_words)))

abbrev pub closing_words : Measure → List ℕ
closing_words by = end_words by ++ (form_words by ++ codes "</body></html>\n")

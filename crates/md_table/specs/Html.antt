-- A table as HTML (the elements `table`, `tr`, `th` and `td`): the same cells in the same order, in the first rows. Shares are bars too, and
-- what the last column names is an anchor.
use Rattle.std.specs.Prelude.{ℕ, Bool, ◌==◌, ◌&&◌, ◌||◌, not, List, [], ◌++◌, codes, if◌then◌else◌, bytes_eq, length, slice_index_or, take}
use Rattle.std.specs.List.{flat_map, enumerate_from}
use Rattle.md_table.specs.Anchors.{anchor, escaped, named_html, text_html}
use Rattle.md_table.specs.Table.{LineCells, TableCells}
use Rattle.md_table.specs.declared.target.Target.TheVariants.{Module}

-- ---- the heading

-- procedures are sorted by a column of totals or of own counts, where they are sorted: where there is an address to which its name is added
abbrev pub is_sorted : (sort heading : List ℕ) → Bool
is_sorted sort heading = not (length sort == 0) && (bytes_eq heading (codes "total") || bytes_eq heading (codes "own"))

abbrev pub heading_words : (sort heading : List ℕ) → List ℕ
heading_words sort heading = if is_sorted sort heading then anchor (sort ++ heading) heading else escaped heading

abbrev pub heading_html : (sort heading : List ℕ) → List ℕ
heading_html sort heading = codes "<th>" ++ (heading_words sort heading ++ codes "</th>")

abbrev pub headings_html : (sort : List ℕ) → LineCells → List ℕ
headings_html sort line = codes "<tr>" ++ (flat_map (heading_html sort) line.cells ++ (heading_html [] line.last ++ codes "</tr>\n"))

-- ---- the rows

abbrev pub plain_html : (cell : List ℕ) → List ℕ
plain_html cell = codes "<td>" ++ (escaped cell ++ codes "</td>")

-- the width of a bar, as a variable of the style sheet
abbrev pub bar_words : (cell : List ℕ) → List ℕ
bar_words cell = codes "<td style=\"--w:" ++ (escaped cell ++ codes "%\">")

abbrev pub share_html : (cell : List ℕ) → List ℕ
share_html cell = bar_words cell ++ (escaped cell ++ codes "</td>")

-- a cell below the heading `%`, but for one that stands for no number
abbrev pub is_share : (heading cell : List ℕ) → Bool
is_share heading cell = bytes_eq heading (codes "%") && not (bytes_eq cell (codes "-"))

abbrev pub cell_below : (heading cell : List ℕ) → List ℕ
cell_below heading cell = if is_share heading cell then share_html cell else plain_html cell

abbrev pub cell_html : (headings : List (List ℕ)) → ℕ × List ℕ → List ℕ
cell_html headings (column, cell) = cell_below (slice_index_or headings column []) cell

abbrev pub cells_html : (headings cells : List (List ℕ)) → List ℕ
cells_html headings cells = flat_map (cell_html headings) (enumerate_from 0 cells)

-- a cell of the last column: below `module` it is a module
abbrev pub last_words : (by heading cell : List ℕ) → List ℕ
last_words by heading cell = if bytes_eq heading (codes "module") then named_html by Module cell else text_html by cell

abbrev pub last_html : (by heading cell : List ℕ) → List ℕ
last_html by heading cell = codes "<td>" ++ (last_words by heading cell ++ codes "</td>")

abbrev pub row_html : (by : List ℕ) (heading : LineCells) → LineCells → List ℕ
row_html by heading line = codes "<tr>" ++ (cells_html heading.cells line.cells ++ (last_html by heading.last line.last ++ codes "</tr>\n"))

-- ---- the table

-- a row of headings, and a row for each of the first rows
unfoldable pub html_of : (by sort : List ℕ) (most : ℕ) → TableCells → List ℕ
html_of by sort most table =
    codes "<table>\n"
    ++ (headings_html sort table.heading ++ (flat_map (row_html by table.heading) (take most table.rows) ++ codes "</table>\n"))

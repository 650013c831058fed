-- Cells and tables, worked out by hand.
use Rattle.std.proofs.Common.{◌≡◌, ℕ, List, [], ◌∷◌, ◌++◌, codes, length, refl, arith}
use Rattle.std.specs.Prelude.{⊤}
use Rattle.std.specs.Fmt.{digits}
use Rattle.md_table.specs.Cells.{change_words, indent_of, ratio_words, share_words, tenths_words}
use Rattle.percent_encoding.specs.Percent.{percent_encode, percent_encode_byte}
use Rattle.percent_encoding.specs.AsciiSet.{should_percent_encode}
use Rattle.md_table.specs.Anchors.{escaped, text_html, words_of}
use Rattle.md_table.specs.Html.{cells_html, headings_html, html_of, last_html}
use Rattle.md_table.specs.Spans.{HasLast, IsWithin, cell_in, line_at, line_in}
use Rattle.md_table.specs.Table.{LineCells, TableCells, text_of, with_cells, with_last}

unfoldable on_tables : ⊤
unfolding text_of html_of digits percent_encode percent_encode_byte should_percent_encode
on_tables = tt

-- ---- cells

there-is-always-a-digit-before-the-point : tenths_words 3 ≡ codes "0.3"
unfolding on_tables
there-is-always-a-digit-before-the-point = refl

nothing-has-a-digit-behind-the-point-too : tenths_words 0 ≡ codes "0.0"
unfolding on_tables
nothing-has-a-digit-behind-the-point-too = refl

three-of-eight : share_words 3 8 ≡ codes "37.5"
unfolding on_tables
three-of-eight = refl

the-whole-has-all-of-itself : share_words 8 8 ≡ codes "100.0"
unfolding on_tables
the-whole-has-all-of-itself = refl

-- 66.66.. is nearer to 66.7
shares-are-rounded-down : share_words 2 3 ≡ codes "66.6"
unfolding on_tables
shares-are-rounded-down = refl

-- 1000 * 2^57 passes 64 bits, and the share is the same as that of 3 in 4
great-numbers-have-exact-shares : share_words 108086391056891904 144115188075855872 ≡ codes "75.0"
unfolding on_tables
great-numbers-have-exact-shares = refl

of-nothing-there-is-no-share : share_words 5 0 ≡ codes "0.0"
unfolding on_tables
of-nothing-there-is-no-share = refl

-- a difference may be greater than the whole that it is measured by
a-share-may-pass-the-whole : share_words 144115188075855872 1 ≡ codes "14411518807585587200.0"
unfolding on_tables
a-share-may-pass-the-whole = refl

five-for-three : ratio_words 5 3 ≡ codes "1.6"
unfolding on_tables
five-for-three = refl

for-none-nothing-is-said : ratio_words 5 0 ≡ codes "-"
unfolding on_tables
for-none-nothing-is-said = refl

nothing-for-some-is-said : ratio_words 0 5 ≡ codes "0.0"
unfolding on_tables
nothing-for-some-is-said = refl

one-less : change_words 5 4 ≡ codes "-1"
unfolding on_tables
one-less = refl

one-more : change_words 4 5 ≡ codes "+1"
unfolding on_tables
one-more = refl

as-many : change_words 5 5 ≡ codes "+0"
unfolding on_tables
as-many = refl

level-0-stands-at-the-left : indent_of 0 ≡ []
level-0-stands-at-the-left = refl

two-spaces-for-each-level : indent_of 3 ≡ codes "      "
two-spaces-for-each-level = refl

level-99-is-the-last-but-one : length (indent_of 99) ≡ 198
level-99-is-the-last-but-one = refl

level-100-has-two-hundred : length (indent_of 100) ≡ 200
level-100-has-two-hundred = refl

deeper-levels-have-no-more : length (indent_of 101) ≡ 200
deeper-levels-have-no-more = refl

-- ---- tables

abbrev line : (cells : List (List ℕ)) → (last : List ℕ) → LineCells
line cells last = record { cells = cells; last = last }

-- `100.0` is wider than its heading, and `per call` wider than the cells below it; the last column isn't filled up
abbrev costs : TableCells
costs = record {
  heading = line (codes "total" ∷ codes "%" ∷ codes "own" ∷ codes "%" ∷ codes "per call" ∷ []) (codes "procedure");
  rows =
      line (codes "8" ∷ codes "100.0" ∷ codes "1" ∷ codes "12.5" ∷ codes "8.0" ∷ []) (codes "t.main/2")
      ∷ line (codes "6" ∷ codes "75.0" ∷ codes "2" ∷ codes "25.0" ∷ codes "3.0" ∷ []) (codes "t.x/1")
      ∷ line (codes "4" ∷ codes "50.0" ∷ codes "2" ∷ codes "25.0" ∷ codes "2.0" ∷ []) (codes "t.n/0")
      ∷ line (codes "3" ∷ codes "37.5" ∷ codes "3" ∷ codes "37.5" ∷ codes "1.0" ∷ []) (codes "t.r/1")
      ∷ [];
}

each-column-is-as-wide-as-its-widest-cell :
    text_of costs
    ≡ codes "\ntotal      %  own     %  per call  procedure\n    8  100.0    1  12.5       8.0  t.main/2\n    6   75.0    2  25.0       3.0  t.x/1\n    4   50.0    2  25.0       2.0  t.n/0\n    3   37.5    3  37.5       1.0  t.r/1\n"
unfolding on_tables
each-column-is-as-wide-as-its-widest-cell = refl

-- an empty cell is filled up too, and spaces before the words of the last column stay
abbrev tree : TableCells
tree = record {
  heading = line (codes "n" ∷ codes "%" ∷ []) (codes "where");
  rows = line ([] ∷ codes "-" ∷ []) (codes "a") ∷ line (codes "12" ∷ codes "5.0" ∷ []) (codes "  b") ∷ [];
}

the-last-column-stands-at-the-left : text_of tree ≡ codes "\n n    %  where\n      -  a\n12  5.0    b\n"
unfolding on_tables
the-last-column-stands-at-the-left = refl

-- no rows
abbrev bare : TableCells
bare = record { heading = line (codes "total" ∷ codes "%" ∷ []) (codes "module"); rows = [] }

a-table-may-have-a-heading-alone : text_of bare ≡ codes "\ntotal  %  module\n"
unfolding on_tables
a-table-may-have-a-heading-alone = refl

-- ---- cells and lines, as they are kept

-- the byte at the end of a cell is the first of the next one
a-cell-ends-before-the-next-one : cell_in (codes "8100.0t") (record { from = 1; to = 6 }) ≡ codes "100.0"
a-cell-ends-before-the-next-one = refl

-- a cell may be empty, and end where the bytes do
a-cell-may-be-empty-at-the-end : IsWithin 6 (record { from = 6; to = 6 })
a-cell-may-be-empty-at-the-end = record { rising = omega arith; inside = omega arith }

-- with an end alone that lies within the bytes it would begin behind it
no-cell-ends-before-it-begins : IsWithin 6 (record { from = 2; to = 1 }) → ⊥
no-cell-ends-before-it-begins within = omega (arith, within.rising)

-- and with no bound for its end it would have bytes that aren't there
no-cell-ends-behind-the-bytes : IsWithin 6 (record { from = 1; to = 7 }) → ⊥
no-cell-ends-behind-the-bytes within = omega (arith, within.inside)

-- the cell that stands right behind those of a line is its last one, and no cell of the next line
the-last-cell-stands-behind-the-others :
    line_in (codes "8" ∷ codes "a" ∷ codes "6" ∷ codes "75.0" ∷ codes "b" ∷ codes "4" ∷ []) (record { from = 2; to = 4 }) ≡ line (codes "6" ∷ codes "75.0" ∷ []) (codes "b")
the-last-cell-stands-behind-the-others = refl

a-line-may-have-its-last-cell-alone : line_in (codes "a" ∷ codes "b" ∷ []) (record { from = 1; to = 1 }) ≡ line [] (codes "b")
a-line-may-have-its-last-cell-alone = refl

-- a line whose only cell is the last of all
the-last-cell-of-all-may-be-that-of-a-line : HasLast 3 (record { from = 2; to = 2 })
the-last-cell-of-all-may-be-that-of-a-line = record { rising = omega arith; inside = omega arith }

-- a bound as that of a cell would let the last cell of a line be one that isn't there
no-line-ends-without-its-last-cell : HasLast 3 (record { from = 1; to = 3 }) → ⊥
no-line-ends-without-its-last-cell there = omega (arith, there.inside)

no-line-ends-before-it-begins : HasLast 3 (record { from = 2; to = 1 }) → ⊥
no-line-ends-before-it-begins there = omega (arith, there.rising)

-- cells come behind those that the row has, and its end leaves no row begun
a-row-is-ended-by-its-last-cell :
    with_last (with_cells (record { ended = line [] (codes "a") ∷ []; begun = codes "8" ∷ [] }) (codes "1.0" ∷ codes "9" ∷ [])) (codes "b")
    ≡ record { ended = line [] (codes "a") ∷ line (codes "8" ∷ codes "1.0" ∷ codes "9" ∷ []) (codes "b") ∷ []; begun = [] }
a-row-is-ended-by-its-last-cell = refl

lines-are-counted-from-0 : line_at costs.rows 1 ≡ line (codes "6" ∷ codes "75.0" ∷ codes "2" ∷ codes "25.0" ∷ codes "3.0" ∷ []) (codes "t.x/1")
lines-are-counted-from-0 = refl

past-the-end-lines-are-empty : line_at costs.rows 4 ≡ line [] []
past-the-end-lines-are-empty = refl

-- ---- HTML

its-heading-stands-in-html-too : html_of (codes "calls") [] 9 bare ≡ codes "<table>\n<tr><th>total</th><th>%</th><th>module</th></tr>\n</table>\n"
unfolding on_tables
its-heading-stands-in-html-too = refl

-- cells are neither filled up nor cut, and what HTML reads is escaped
the-same-cells-stand-in-html :
    html_of (codes "calls") [] 9 (record { heading = line (codes "a" ∷ []) (codes "b"); rows = line (codes "10" ∷ []) (codes "  <&>") ∷ line (codes "5" ∷ []) (codes "'\"") ∷ [] })
    ≡ codes "<table>\n<tr><th>a</th><th>b</th></tr>\n<tr><td>10</td><td>  &lt;&amp;&gt;</td></tr>\n<tr><td>5</td><td>&#39;&quot;</td></tr>\n</table>\n"
unfolding on_tables
the-same-cells-stand-in-html = refl

bytes-that-are-no-ascii-stay : escaped (195 ∷ 164 ∷ []) ≡ 195 ∷ 164 ∷ []
bytes-that-are-no-ascii-stay = refl

-- `%` is no sorted column, and the last heading is none either
headings-lead-to-the-page-sorted-by-them :
    headings_html (codes "/hot?by=words&amp;n=5&amp;sort=") (line (codes "total" ∷ codes "%" ∷ codes "own" ∷ []) (codes "own"))
    ≡ codes "<tr><th><a href=\"/hot?by=words&amp;n=5&amp;sort=total\">total</a></th><th>%</th><th><a href=\"/hot?by=words&amp;n=5&amp;sort=own\">own</a></th><th>own</th></tr>\n"
unfolding on_tables
headings-lead-to-the-page-sorted-by-them = refl

-- a page that isn't sorted has no address to put the names of columns behind
headings-lead-nowhere-else : headings_html [] (line (codes "total" ∷ []) (codes "where")) ≡ codes "<tr><th>total</th><th>where</th></tr>\n"
unfolding on_tables
headings-lead-nowhere-else = refl

-- the cell below `own` is as wide as it is, and a share that there isn't has no bar
shares-are-bars :
    cells_html (codes "own" ∷ codes "%" ∷ codes "%" ∷ []) (codes "43" ∷ codes "43.7" ∷ codes "-" ∷ [])
    ≡ codes "<td>43</td><td style=\"--w:43.7%\">43.7</td><td>-</td>"
unfolding on_tables
shares-are-bars = refl

-- a cell without a heading
a-cell-too-many-is-no-share : cells_html (codes "%" ∷ []) (codes "1.0" ∷ codes "2.0" ∷ []) ≡ codes "<td style=\"--w:1.0%\">1.0</td><td>2.0</td>"
unfolding on_tables
a-cell-too-many-is-no-share = refl

-- the second row is the last that is shown
rows-past-the-first-are-left-out :
    html_of (codes "calls") [] 2 (record { heading = line [] (codes "n"); rows = line [] (codes "a") ∷ line [] (codes "b") ∷ line [] (codes "c") ∷ [] })
    ≡ codes "<table>\n<tr><th>n</th></tr>\n<tr><td>a</td></tr>\n<tr><td>b</td></tr>\n</table>\n"
unfolding on_tables
rows-past-the-first-are-left-out = refl

-- ---- anchors

-- the spaces between words and those before them stay
words-stand-between-spaces : words_of (codes "  a bc") ≡ ([], [] ∷ codes "a" ∷ codes "bc" ∷ [])
unfolding on_tables
words-stand-between-spaces = refl

a-space-at-the-end-has-an-empty-word-behind-it : words_of (codes "a ") ≡ (codes "a", [] ∷ [])
unfolding on_tables
a-space-at-the-end-has-an-empty-word-behind-it = refl

-- the line and the site have no page, and the clique is not asked by a measure
what-a-row-of-a-context-names :
    text_html (codes "words") (codes "t.a_b/3 from line 5 site 1 context 2 clique 4")
    ≡ codes "<a href=\"/callers?by=words&amp;name=t%2Ea%5Fb%2F3\">t.a_b/3</a> from line 5 site 1 context <a href=\"/context?by=words&amp;id=2\">2</a> clique <a href=\"/clique?id=4\">4</a>"
unfolding on_tables
what-a-row-of-a-context-names = refl

-- `contexts` isn't `context`, and the number of contexts stands before it
what-a-row-of-a-tree-names :
    text_html (codes "calls") (codes "  t.x/1 clique 1 of 2 contexts")
    ≡ codes "  <a href=\"/callers?by=calls&amp;name=t%2Ex%2F1\">t.x/1</a> clique <a href=\"/clique?id=1\">1</a> of 2 contexts"
unfolding on_tables
what-a-row-of-a-tree-names = refl

the-root-and-what-has-no-row-have-no-page : text_html (codes "calls") (codes "root") ++ text_html (codes "calls") (codes "  3 more") ≡ codes "root  3 more"
unfolding on_tables
the-root-and-what-has-no-row-have-no-page = refl

-- only below its own heading a word without a `/` is a module
a-module-is-told-by-its-heading :
    last_html (codes "calls") (codes "module") (codes "a_b") ++ last_html (codes "calls") (codes "where") (codes "a_b")
    ≡ codes "<td><a href=\"/module?name=a%5Fb\">a_b</a></td><td>a_b</td>"
unfolding on_tables
a-module-is-told-by-its-heading = refl

-- a word that HTML would read is escaped where it is shown, and by another rule in the address
a-name-is-escaped-in-both-places :
    text_html (codes "calls") (codes "<&/\"") ≡ codes "<a href=\"/callers?by=calls&amp;name=%3C%26%2F%22\">&lt;&amp;/&quot;</a>"
unfolding on_tables
a-name-is-escaped-in-both-places = refl

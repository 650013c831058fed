-- Rows and pages, worked out by hand.
use Rattle.std.proofs.Common.{◌≡◌, ℕ, [], ◌∷◌, ◌++◌, ◌+◌, ◌*◌, nat_le, replicate, Option, Some, None, codes, length, refl, true, false}
use Rattle.std.specs.Prelude.{⊤}
use Rattle.std.specs.Fmt.{digits}
use Rattle.std.specs.List.{slice_get}
use Rattle.percent_encoding.specs.Percent.{percent_encode, percent_encode_byte}
use Rattle.percent_encoding.specs.AsciiSet.{should_percent_encode}
use Rattle.md_base.specs.declared.measure.Measure.TheVariants as measure
use Rattle.md_static.specs.declared.entry.SiteKind.TheVariants.{Plain, HigherOrder}
use Rattle.md_cost.specs.declared.sums.Sums.{Sums}
use Rattle.md_cost.specs.View.{View, OfLink, OfContext, OfClique, OfProcedure, OfSite, OfModule}
use Rattle.md_cost.specs.View.{Row as Counted}
use Rattle.md_table.specs.Html as html
use Rattle.md_table.specs.Table as table
use Rattle.md_people.specs.declared.sort.Sort.TheVariants.{Own}
use Rattle.md_query.specs.declared.row.Row.{Row}
use Rattle.md_query.specs.declared.row.Row.TheVariants as row
use Rattle.md_query.specs.declared.row.Title.TheVariants as title
use Rattle.md_query.specs.declared.row.What.TheVariants as what
use Rattle.md_query.specs.Page.{PageRows}
use Rattle.md_render.specs.declared.form.Form.TheVariants.{Text, Html}
use Rattle.md_tree.specs.declared.picture.CliqueBox.{CliqueBox}
use Rattle.md_render.specs.declared.icicle.Cost.{Cost}
use Rattle.md_render.specs.Icicle.{drawn_words, edge_words, icicle_words, label_words, levels_of}
use Rattle.md_render.specs.Words.{more_words}
use Rattle.md_render.specs.Lines.{row_words, title_words}
use Rattle.md_render.specs.Names.{Names, names_of}
use Rattle.md_render.specs.Text.{text_of}
use Rattle.md_render.specs.Address.{address_words, by_of, sort_of}
use Rattle.md_render.specs.Html.{html_of}
use Rattle.md_render.specs.People.{closing_words, opening_words, rows_html, size_in, tables_html, turns_words}
use Rattle.md_render.specs.Sheet.{sheet_words}

unfoldable on_pages : ⊤
unfolding text_of html_of icicle_words table.text_of html.html_of digits percent_encode percent_encode_byte should_percent_encode
on_pages = tt

-- t.main/2, which calls a_b.step/0, which calls itself by a closure
view : View
view = record {
  statics = record {
    modules = codes "t" ∷ codes "a_b" ∷ [];
    procs = record { «module» = 0; name = codes "main"; arity = 2 } ∷ record { «module» = 1; name = codes "step"; arity = 0 } ∷ [];
    sites = record { owner = 0; line = 3; kind = Plain 1 } ∷ record { owner = 1; line = 70; kind = HigherOrder } ∷ [];
  };
  nodes = 0 ∷ 1 ∷ 1 ∷ [];
  links = record { caller = None; site = None; callee = 0 } ∷ record { caller = Some 0; site = Some 0; callee = 1 } ∷ record { caller = Some 1; site = Some 1; callee = 2 } ∷ [];
  finished = true;
  cliques = 0 ∷ 1 ∷ 1 ∷ [];
  entries = 0 ∷ 1 ∷ [];
  own = λ _ _. None;
  total = λ _ _. None;
}

names : Names
names = names_of view

-- no exceptions
few : Sums
few = record { calls = 1; exits = 2; fails = 3; redos = 4; allocs = 5; words = 6; excps = 0 }

-- and as many as a sum can hold
most : Sums
most = record { calls = 18446744073709551615; exits = 0; fails = 0; redos = 0; allocs = 0; words = 0; excps = 7 }

-- ---- rows

the-module-of-the-profile : row_words Text names (row.Main 1) ≡ codes "module a_b"
unfolding on_pages view names few most
the-module-of-the-profile = refl

a-run-that-ended : row_words Text names (row.Finished true) ≡ codes "finished yes"
unfolding on_pages view names few most
a-run-that-ended = refl

a-run-that-did-not-end : row_words Text names (row.Finished false) ≡ codes "finished no"
unfolding on_pages view names few most
a-run-that-did-not-end = refl

a-great-number : row_words Text names (row.Number what.Words 18446744073709551615) ≡ codes "words 18446744073709551615"
unfolding on_pages view names few most
a-great-number = refl

the-root-enters : row_words Text names (row.Entered 0 few) ≡ codes "entered by root own 1 2 3 4 5 6"
unfolding on_pages view names few most
the-root-enters = refl

a-link-enters : row_words Text names (row.Entered 1 few) ≡ codes "entered by link 1 site 0 from context 0 t.main/2 clique 0 own 1 2 3 4 5 6"
unfolding on_pages view names few most
a-link-enters = refl

own-counts : row_words Text names (row.Own most) ≡ codes "own 18446744073709551615 0 0 0 0 0 excps 7"
unfolding on_pages view names few most
own-counts = refl

a-total : row_words Text names (row.Total few) ≡ codes "total 1 2 3 4 5 6"
unfolding on_pages view names few most
a-total = refl

a-context : row_words Text names (row.Context 2 few most) ≡ codes "context 2 a_b.step/0 own 1 2 3 4 5 6 total 18446744073709551615 0 0 0 0 0 excps 7"
unfolding on_pages view names few most
a-context = refl

a-link-that-leaves : row_words Text names (row.Leaving 1 most few) ≡ codes "  link 1 site 0 to context 1 a_b.step/0 clique 1 own 18446744073709551615 0 0 0 0 0 excps 7 total 1 2 3 4 5 6"
unfolding on_pages view names few most
a-link-that-leaves = refl

a-link-inside : row_words Text names (row.Inside 2 few) ≡ codes "  link 2 site 1 to context 2 a_b.step/0 own 1 2 3 4 5 6"
unfolding on_pages view names few most
a-link-inside = refl

a-procedure : row_words Text names (row.Proc 1 few few) ≡ codes "proc 1 a_b.step/0 own 1 2 3 4 5 6 total 1 2 3 4 5 6"
unfolding on_pages view names few most
a-procedure = refl

a-context-of-a-procedure : row_words Text names (row.Of 2 few few) ≡ codes "context 2 clique 1 own 1 2 3 4 5 6 total 1 2 3 4 5 6"
unfolding on_pages view names few most
a-context-of-a-procedure = refl

a-plain-site : row_words Text names (row.Site 0 few few) ≡ codes "site 0 line 3 to proc 1 a_b.step/0 own 1 2 3 4 5 6 total 1 2 3 4 5 6"
unfolding on_pages view names few most
a-plain-site = refl

a-higher-order-site : row_words Text names (row.Site 1 few few) ≡ codes "site 1 line 70 higher-order own 1 2 3 4 5 6 total 1 2 3 4 5 6"
unfolding on_pages view names few most
a-higher-order-site = refl

a-module : row_words Text names (row.Module 1 12 few few) ≡ codes "module a_b procs 12 own 1 2 3 4 5 6 total 1 2 3 4 5 6"
unfolding on_pages view names few most
a-module = refl

-- ---- anchors

a-clique-is-an-anchor : row_words Html names (row.Of 2 few few) ≡ codes "context 2 <a href=\"/clique?id=1\">clique 1</a> own 1 2 3 4 5 6 total 1 2 3 4 5 6"
unfolding on_pages view names few most
a-clique-is-an-anchor = refl

a-procedure-is-an-anchor : row_words Html names (row.Site 0 few few) ≡ codes "site 0 line 3 to <a href=\"/proc?id=1\">proc 1</a> a_b.step/0 own 1 2 3 4 5 6 total 1 2 3 4 5 6"
unfolding on_pages view names few most
a-procedure-is-an-anchor = refl

a-module-is-an-anchor : row_words Html names (row.Module 1 2 few few) ≡ codes "<a href=\"/module?name=a%5Fb\">module a_b</a> procs 2 own 1 2 3 4 5 6 total 1 2 3 4 5 6"
unfolding on_pages view names few most
a-module-is-an-anchor = refl

the-number-of-cliques-is-none : row_words Html names (row.Number what.Cliques 2) ≡ codes "cliques 2"
unfolding on_pages view names few most
the-number-of-cliques-is-none = refl

-- ---- titles

a-title-of-the-first : title_words view.statics (title.Top measure.Excps 10) ≡ codes "mdprof top excps 10"
unfolding on_pages view names few most
a-title-of-the-first = refl

a-title-of-a-procedure : title_words view.statics (title.Proc 1) ≡ codes "mdprof proc 1 a_b.step/0"
unfolding on_pages view names few most
a-title-of-a-procedure = refl

a-title-of-a-module : title_words view.statics (title.Module 1) ≡ codes "mdprof module a_b"
unfolding on_pages view names few most
a-title-of-a-module = refl

a-title-of-what-is-hot : title_words view.statics (title.Hot measure.Words 1000 Own) ≡ codes "mdprof hot words 1000 own"
unfolding on_pages view names few most
a-title-of-what-is-hot = refl

a-title-of-a-tree : title_words view.statics (title.Tree measure.Words 0) ≡ codes "mdprof tree words 0"
unfolding on_pages view names few most
a-title-of-a-tree = refl

-- line feeds, bytes past `~` and letters with accents aren't printed
a-title-of-a-text : title_words view.statics (title.Find measure.Calls (10 ∷ 32 ∷ 60 ∷ 126 ∷ 127 ∷ 195 ∷ [])) ≡ codes "mdprof find calls ? <~??"
unfolding on_pages view names few most
a-title-of-a-text = refl

-- ---- addresses of pages for people

-- the measure is another one, and the rest of the question stays
the-same-by-another-measure : address_words (title.Hot measure.Words 1000 Own) measure.Excps ≡ codes "/hot?by=excps&amp;n=1000&amp;sort=own"
unfolding on_pages
the-same-by-another-measure = refl

-- bytes that a title shows as `?` are asked for as they are
a-text-is-asked-for-as-it-is : address_words (title.Find measure.Words (10 ∷ 60 ∷ 38 ∷ 97 ∷ 43 ∷ 195 ∷ [])) measure.Calls ≡ codes "/find?by=calls&amp;name=%0A%3C%26a%2B%C3"
unfolding on_pages
a-text-is-asked-for-as-it-is = refl

-- by the number of the context, and not by that of its procedure
a-context-by-its-number : address_words (title.Context measure.Calls 7 3) measure.Fails ≡ codes "/context?by=fails&amp;id=7"
unfolding on_pages
a-context-by-its-number = refl

the-measures-of-a-page : turns_words (title.Tree measure.Redos 5) measure.Redos
    ≡ codes "<nav>\n<a href=\"/tree?by=calls&amp;least=5\">calls</a>\n<a href=\"/tree?by=exits&amp;least=5\">exits</a>\n<a href=\"/tree?by=fails&amp;least=5\">fails</a>\n<a href=\"/tree?by=redos&amp;least=5\" class=\"on\">redos</a>\n<a href=\"/tree?by=allocs&amp;least=5\">allocs</a>\n<a href=\"/tree?by=words&amp;least=5\">words</a>\n<a href=\"/tree?by=excps&amp;least=5\">excps</a>\n</nav>\n"
unfolding on_pages
the-measures-of-a-page = refl

-- the page sorted by own counts is the same page by totals, but for the order
headings-of-hot : sort_of (title.Hot measure.Words 5 Own) ≡ codes "/hot?by=words&amp;n=5&amp;sort="
unfolding on_pages
headings-of-hot = refl

-- a page by a measure that isn't one for people has no sheet
top-is-a-page-of-lines : by_of (title.Top measure.Words 5) ≡ None
top-is-a-page-of-lines = refl

-- ---- whole pages

-- the menu of a run of one call
menu : PageRows
menu = record {
  title = title.Menu;
  rows =
      row.Main 0 ∷ row.Finished true ∷ row.Number what.Contexts 1 ∷ row.Number what.Links 1 ∷ row.Number what.Cliques 1 ∷ row.Number what.Calls 1
      ∷ row.Number what.Exits 1 ∷ row.Number what.Fails 0 ∷ row.Number what.Redos 0 ∷ row.Number what.Allocs 0 ∷ row.Number what.Words 0 ∷ [];
}

a-menu : text_of view menu
    ≡ codes "mdprof menu\nmodule t\nfinished yes\ncontexts 1\nlinks 1\ncliques 1\ncalls 1\nexits 1\nfails 0\nredos 0\nallocs 0\nwords 0\n"
unfolding on_pages view menu
a-menu = refl

a-menu-in-html : html_of view menu
    ≡ codes "<!DOCTYPE html>\n<html><head><meta charset=\"utf-8\"><title>mdprof menu</title></head><body>\n<h1>mdprof menu</h1>\n<pre>\n<a href=\"/module?name=t\">module t</a>\nfinished yes\ncontexts 1\nlinks 1\ncliques 1\ncalls 1\nexits 1\nfails 0\nredos 0\nallocs 0\nwords 0\n</pre>\n<p><a href=\"/\">menu</a> <a href=\"/root\">root</a> <a href=\"/procs\">procs</a> <a href=\"/modules\">modules</a></p>\n</body></html>\n"
unfolding on_pages view menu
a-menu-in-html = refl

its-length : length (html_of view menu) ≡ 379
unfolding on_pages view menu
its-length = refl

-- a page with a table of one row
hot : PageRows
hot = record {
  title = title.Hot measure.Calls 1 Own;
  rows =
      row.Finished false ∷ row.Whole measure.Calls 10
      ∷ row.Table (record { heading = record { cells = codes "own" ∷ []; last = codes "procedure" }; rows = record { cells = codes "7" ∷ []; last = codes "t.<>/2" } ∷ [] }) ∷ [];
}

-- an empty line stands before the table, and none behind it
a-table-has-lines-of-its-own : text_of view hot ≡ codes "mdprof hot calls 1 own\nfinished no\ncalls 10\n\nown  procedure\n  7  t.<>/2\n"
unfolding on_pages view hot
a-table-has-lines-of-its-own = refl

a-table-in-html : html_of view hot
    ≡ opening_words (codes "mdprof hot calls 1 own")
    ++ (turns_words (title.Hot measure.Calls 1 Own) measure.Calls
    ++ (codes "<p>finished no</p>\n<p>calls 10</p>\n<table>\n<tr><th><a href=\"/hot?by=calls&amp;n=1&amp;sort=own\">own</a></th><th>procedure</th></tr>\n<tr><td>7</td><td><a href=\"/callers?by=calls&amp;name=t%2E%3C%3E%2F2\">t.&lt;&gt;/2</a></td></tr>\n</table>\n"
    ++ closing_words measure.Calls))
unfolding on_pages view hot
a-table-in-html = refl

where-to-go-on : closing_words measure.Words
    ≡ codes "<footer>\n<a href=\"/hot?by=words\">hot</a>\n<a href=\"/tree?by=words\">tree</a>\n<a href=\"/flame?by=words\">flame</a>\n<a href=\"/\">menu</a>\n<a href=\"/root\">root</a>\n<a href=\"/procs\">procs</a>\n<a href=\"/modules\">modules</a>\n</footer>\n<form action=\"/find\"><input type=\"hidden\" name=\"by\" value=\"words\"><input name=\"name\" required aria-label=\"text of a name\"> <button>find</button></form>\n</body></html>\n"
unfolding on_pages
where-to-go-on = refl

-- the title of any text is escaped in both places
find : PageRows
find = record { title = title.Find measure.Calls (codes "<i>"); rows = [] }

a-text-is-escaped-in-html : html_of view find
    ≡ opening_words (codes "mdprof find calls &lt;i&gt;") ++ (turns_words (title.Find measure.Calls (codes "<i>")) measure.Calls ++ closing_words measure.Calls)
unfolding on_pages view find
a-text-is-escaped-in-html = refl

-- the sheet is small: 2,100 bytes would be too many
the-sheet-is-small : nat_le (length sheet_words) 2048 ≡ true
unfolding on_pages
the-sheet-is-small = refl

-- ---- tables of many rows

-- a table of two rows
two : Row
two = row.Table (record { heading = record { cells = []; last = codes "n" }; rows = record { cells = []; last = codes "a" } ∷ record { cells = []; last = codes "b" } ∷ [] })

-- two tables of two rows each, and room for three: the last row has none, a line takes none, and of a table without rows its heading stays
rows-of-both-tables-count : rows_html names measure.Calls [] 3 (two ∷ row.Finished true ∷ two ∷ two ∷ [])
    ≡ codes "<table>\n<tr><th>n</th></tr>\n<tr><td>a</td></tr>\n<tr><td>b</td></tr>\n</table>\n<p>finished yes</p>\n<table>\n<tr><th>n</th></tr>\n<tr><td>a</td></tr>\n</table>\n<table>\n<tr><th>n</th></tr>\n</table>\n"
unfolding on_pages view names two
rows-of-both-tables-count = refl

six-rows : size_in (two ∷ row.Finished true ∷ two ∷ two ∷ []) ≡ 6
unfolding two
six-rows = refl

-- a table of so many rows
long : ℕ → Row
long n = row.Table (record { heading = record { cells = []; last = [] }; rows = replicate n (record { cells = []; last = [] }) })

a-thousand-rows-are-all : length (tables_html names measure.Calls [] (long 1000 ∷ [])) ≡ length (codes "<table>\n</table>\n") + 19 * 1001
unfolding on_pages view names long
a-thousand-rows-are-all = refl

of-1001-one-is-left-out : tables_html names measure.Calls [] (long 1001 ∷ []) ≡ tables_html names measure.Calls [] (long 1000 ∷ []) ++ codes "<p>1 more</p>\n"
unfolding on_pages view names long
of-1001-one-is-left-out = refl

-- ---- flame graphs

-- digits behind the point aren't left out
edges : edge_words 1000000 ≡ codes "1000.000"
unfolding on_pages
edges = refl

a-small-edge : edge_words 12007 ≡ codes "12.007"
unfolding on_pages
a-small-edge = refl

-- a box at level 2, and what its clique costs
third : CliqueBox
third = record { clique = 3; level = 2; parent = Some 1; left = 125000; width = 37500 }

cost : Cost
cost = record { by = measure.Redos; total = 3; whole = 80; own = 2 }

-- four letters have room beside the left edge, and what is cut is the text and not its escapes
a-box-holds-a-part-of-its-text : drawn_words third (codes "t.<>/2 clique 3") cost
    ≡ codes "<a href=\"/clique?id=3\"><title>t.&lt;&gt;/2 clique 3: 3 redos, 3.7 %, own 2</title><rect x=\"125.000\" y=\"40\" width=\"37.500\" height=\"19\"/><text x=\"127.000\" y=\"54\">t.&lt;&gt;</text></a>\n"
unfolding on_pages third cost
a-box-holds-a-part-of-its-text = refl

-- one letter needs 9300 millionths
a-narrow-box-holds-nothing : label_words (record third { width = 9299 }) (codes "t.r/0") ≡ []
unfolding on_pages third
a-narrow-box-holds-nothing = refl

or-one-letter : label_words (record third { width = 9300 }) (codes "t.r/0") ≡ codes "<text x=\"127.000\" y=\"54\">t</text>"
unfolding on_pages third
or-one-letter = refl

-- level 0 is one of them, and the last box needn't be the deepest
there-are-three-levels : levels_of (record third { level = 0 } ∷ third ∷ record third { level = 1 } ∷ []) ≡ 3
unfolding third
there-are-three-levels = refl

none-is-left-out : more_words 0 ≡ []
unfolding on_pages
none-is-left-out = refl

three-are-left-out : more_words 3 ≡ codes "<p>3 more</p>\n"
unfolding on_pages
three-are-left-out = refl

-- where there is nothing to show, a text has no title either
flame : PageRows
flame = record { title = title.Flame measure.Fails 1; rows = [] }

no-flames : text_of view flame ≡ []
unfolding on_pages view flame
no-flames = refl

no-boxes : html_of view flame
    ≡ opening_words (codes "mdprof flame fails 1")
    ++ (turns_words (title.Flame measure.Fails 1) measure.Fails ++ (codes "<figure><svg viewBox=\"0 0 1000 0\">\n</svg></figure>\n" ++ closing_words measure.Fails))
unfolding on_pages view flame
no-boxes = refl

-- main is called once, and step four times, in two contexts of one clique
abbrev own_calls : Counted → Option ℕ
own_calls (OfLink l) = None
own_calls (OfContext c) = slice_get (1 ∷ 3 ∷ 1 ∷ []) c
own_calls (OfClique k) = None
own_calls (OfProcedure q) = None
own_calls (OfSite s) = None
own_calls (OfModule k) = None

abbrev total_calls : Counted → Option ℕ
total_calls (OfLink l) = None
total_calls (OfContext c) = None
total_calls (OfClique k) = slice_get (5 ∷ 4 ∷ []) k
total_calls (OfProcedure q) = None
total_calls (OfSite s) = None
total_calls (OfModule k) = None

counted : View
counted = record view { own = λ r m. own_calls r; total = λ r m. total_calls r }

burning : PageRows
burning = record { title = title.Flame measure.Calls 1; rows = [] }

-- a line names what is above a context's clique, and not what is beside it there
flames : text_of counted burning ≡ codes "t.main/2 1\nt.main/2;a_b.step/0 3\nt.main/2;a_b.step/0 1\n"
unfolding on_pages view counted burning
flames = refl

-- a box for each clique, and not for each context
boxes : icicle_words counted measure.Calls 1
    ≡ codes "<figure><svg viewBox=\"0 0 1000 40\">\n<a href=\"/clique?id=0\"><title>t.main/2 clique 0: 5 calls, 100.0 %, own 1</title><rect x=\"0.000\" y=\"0\" width=\"1000.000\" height=\"19\"/><text x=\"2.000\" y=\"14\">t.main/2 clique 0</text></a>\n<a href=\"/clique?id=1\"><title>a_b.step/0 from line 3 clique 1 of 2 contexts: 4 calls, 80.0 %, own 4</title><rect x=\"0.000\" y=\"20\" width=\"800.000\" height=\"19\"/><text x=\"2.000\" y=\"34\">a_b.step/0 from line 3 clique 1 of 2 contexts</text></a>\n</svg></figure>\n"
unfolding on_pages view counted
boxes = refl

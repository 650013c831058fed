-- The views of four small runs, and the tables that they have, worked out by hand.
use Rattle.std.proofs.Common.{◌≡◌, ℕ, ◌*◌, true, List, [], ◌∷◌, map, Option, Some, None, codes, refl}
use Rattle.std.specs.Prelude.{⊤, option_and_then}
use Rattle.std.specs.Fmt.{digits}
use Rattle.std.specs.List.{range_with_len, slice_get}
use Rattle.std.specs.Option.{option_map}
use Rattle.md_base.specs.declared.measure.Measure.{Measure}
use Rattle.md_base.specs.declared.measure.Measure.TheVariants.{Calls, Exits, Fails, Redos, Allocs, Words, Excps}
use Rattle.md_static.specs.declared.entry.Proc.{Proc}
use Rattle.md_static.specs.declared.entry.Site.{Site}
use Rattle.md_static.specs.declared.entry.SiteKind.{SiteKind}
use Rattle.md_static.specs.declared.entry.SiteKind.TheVariants.{Plain, HigherOrder}
use Rattle.md_cost.specs.View.{View, Join, OfLink, OfContext, OfClique, OfProcedure, OfSite, OfModule}
use Rattle.md_cost.specs.View.{Row as Counted}
use Rattle.md_table.specs.Table.{text_of}
use Rattle.md_people.specs.declared.sort.Sort.TheVariants.{Total, Own}
use Rattle.md_people.specs.Callers.{called_table, callers_table}
use Rattle.md_people.specs.Context.{callees_table, stations, stations_table}
use Rattle.md_people.specs.Find.{found_modules_table, found_procs_table}
use Rattle.md_people.specs.Flame.{flame_text, shortened}
use Rattle.md_people.specs.Hot.{hot_table}
use Rattle.md_people.specs.Tree.{tree_table}

unfoldable on_tables : ⊤
unfolding text_of digits
on_tables = tt

abbrev proc : List ℕ → (arity : ℕ) → Proc
proc name arity = record { «module» = 0; name = name; arity = arity }

abbrev site : (owner line : ℕ) → SiteKind → Site
site p line kind = record { owner = p; line = line; kind = kind }

abbrev root : Join
root = record { caller = None; site = None; callee = 0 }

abbrev link : (caller site callee : ℕ) → Join
link c s d = record { caller = Some c; site = Some s; callee = d }

-- ---- main calls x, which calls n and r; n calls r, and r calls x again

abbrev order_own : Counted → Option ℕ
order_own (OfLink l) = slice_get (1 ∷ 1 ∷ 2 ∷ 2 ∷ 1 ∷ 1 ∷ []) l
order_own (OfContext c) = slice_get (1 ∷ 2 ∷ 2 ∷ 2 ∷ 1 ∷ []) c
order_own (OfClique k) = None
order_own (OfProcedure q) = slice_get (1 ∷ 2 ∷ 3 ∷ 2 ∷ []) q
order_own (OfSite s) = slice_get (1 ∷ 2 ∷ 1 ∷ 1 ∷ 2 ∷ []) s
order_own (OfModule k) = slice_get (8 ∷ []) k

abbrev order_total : Counted → Option ℕ
order_total (OfLink l) = option_and_then (λ n. n) (slice_get (Some 8 ∷ Some 7 ∷ Some 4 ∷ Some 2 ∷ None ∷ None ∷ []) l)
order_total (OfContext c) = slice_get (8 ∷ 6 ∷ 4 ∷ 2 ∷ 1 ∷ []) c
order_total (OfClique k) = slice_get (8 ∷ 7 ∷ 4 ∷ 2 ∷ []) k
order_total (OfProcedure q) = slice_get (8 ∷ 6 ∷ 3 ∷ 4 ∷ []) q
order_total (OfSite s) = slice_get (7 ∷ 4 ∷ 0 ∷ 0 ∷ 2 ∷ []) s
order_total (OfModule k) = slice_get (8 ∷ []) k

-- each call has one exit, and nothing else happens
abbrev exits_as_calls : Measure → ℕ
exits_as_calls Calls = 1
exits_as_calls Exits = 1
exits_as_calls Fails = 0
exits_as_calls Redos = 0
exits_as_calls Allocs = 0
exits_as_calls Words = 0
exits_as_calls Excps = 0

-- contexts of main, x, n, r below n, and r below x, which is in the clique of x
abbrev order : View
order = record {
  statics = record {
    modules = codes "t" ∷ [];
    procs = proc (codes "main") 2 ∷ proc (codes "x") 1 ∷ proc (codes "r") 1 ∷ proc (codes "n") 0 ∷ [];
    sites = site 0 3 (Plain 1) ∷ site 1 5 (Plain 3) ∷ site 1 5 (Plain 2) ∷ site 2 7 (Plain 1) ∷ site 3 9 (Plain 2) ∷ [];
  };
  nodes = 0 ∷ 1 ∷ 3 ∷ 2 ∷ 2 ∷ [];
  links = root ∷ link 0 0 1 ∷ link 1 1 2 ∷ link 2 4 3 ∷ link 1 2 4 ∷ link 4 3 1 ∷ [];
  finished = true;
  cliques = 0 ∷ 1 ∷ 2 ∷ 3 ∷ 1 ∷ [];
  entries = 0 ∷ 1 ∷ 2 ∷ 3 ∷ [];
  own = λ r m. option_map (λ n. exits_as_calls m * n) (order_own r);
  total = λ r m. option_map (λ n. exits_as_calls m * n) (order_total r);
}

the-greatest-total-comes-first :
    text_of (hot_table order Calls 30 Total)
    ≡ codes "\ntotal      %  own     %  per call  procedure\n    8  100.0    1  12.5       8.0  t.main/2\n    6   75.0    2  25.0       3.0  t.x/1\n    4   50.0    2  25.0       2.0  t.n/0\n    3   37.5    3  37.5       1.0  t.r/1\n"
unfolding on_tables
the-greatest-total-comes-first = refl

-- x and n have as many own exits, and x has the lower number; own calls have a column
the-first-two-by-own-counts :
    text_of (hot_table order Exits 2 Own)
    ≡ codes "\ntotal     %  own     %  calls  per call  procedure\n    3  37.5    3  37.5      3       1.0  t.r/1\n    6  75.0    2  25.0      2       3.0  t.x/1\n"
unfolding on_tables
the-first-two-by-own-counts = refl

-- nothing has an allocation: no share and nothing per call, and the numbers decide
where-the-whole-is-nothing :
    text_of (hot_table order Allocs 2 Total)
    ≡ codes "\ntotal    %  own    %  calls  per call  procedure\n    0  0.0    0  0.0      1       0.0  t.main/2\n    0  0.0    0  0.0      2       0.0  t.x/1\n"
unfolding on_tables
where-the-whole-is-nothing = refl

-- the text may be anywhere in the full name, and rows stand by number
procedures-by-a-part-of-their-name :
    text_of (found_procs_table order Calls (codes "n"))
    ≡ codes "\ntotal      %  own     %  per call  procedure\n    8  100.0    1  12.5       8.0  t.main/2\n    4   50.0    2  25.0       2.0  t.n/0\n"
unfolding on_tables
procedures-by-a-part-of-their-name = refl

no-module-has-it : text_of (found_modules_table order Calls (codes "n")) ≡ codes "\ntotal  %  own  %  per call  module\n"
unfolding on_tables
no-module-has-it = refl

a-module-by-its-name : text_of (found_modules_table order Calls (codes "t")) ≡ codes "\ntotal      %  own      %  per call  module\n    8  100.0    8  100.0       1.0  t\n"
unfolding on_tables
a-module-by-its-name = refl

-- the link from x stays within its clique, and has no total
a-caller-with-a-total-comes-first :
    text_of (callers_table order Calls 2)
    ≡ codes "\ntotal     %  calls  exits  caller\n    2  25.0      2      2  t.n/0 line 9 site 4\n    -     -      1      1  t.x/1 line 5 site 2\n"
unfolding on_tables
a-caller-with-a-total-comes-first = refl

the-root-calls-main : text_of (callers_table order Calls 0) ≡ codes "\ntotal      %  calls  exits  caller\n    8  100.0      1      1  root\n"
unfolding on_tables
the-root-calls-main = refl

a-procedure-calls-two-at-one-line :
    text_of (called_table order Calls 1)
    ≡ codes "\ntotal     %  calls  exits  callee\n    4  50.0      2      2  t.n/0 from line 5 site 1\n    -     -      1      1  t.r/1 from line 5 site 2\n"
unfolding on_tables
a-procedure-calls-two-at-one-line = refl

-- no rows, so no column behind calls
a-procedure-may-call-nothing : text_of (called_table order Calls 9) ≡ codes "\ntotal  %  calls  callee\n"
unfolding on_tables
a-procedure-may-call-nothing = refl

-- r below x is in the clique that main's link enters, so x isn't among its stations
stations-leave-their-clique-at-once : stations order 4 ≡ 0 ∷ 4 ∷ []
stations-leave-their-clique-at-once = refl

stations-begin-in-clique-0 : stations order 3 ≡ 0 ∷ 1 ∷ 2 ∷ 3 ∷ []
stations-begin-in-clique-0 = refl

-- ---- main looks for a member that isn't there: member succeeds, is retried, and fails

abbrev member_calls : Measure → List ℕ
member_calls Calls = 1 ∷ 1 ∷ 3 ∷ []
member_calls Exits = 1 ∷ 3 ∷ 3 ∷ []
member_calls Fails = 0 ∷ 1 ∷ 3 ∷ []
member_calls Redos = 0 ∷ 3 ∷ 3 ∷ []
member_calls Allocs = 3 ∷ 0 ∷ 0 ∷ []
member_calls Words = 9 ∷ 0 ∷ 0 ∷ []
member_calls Excps = 0 ∷ 0 ∷ 0 ∷ []

abbrev member_own : Counted → Measure → Option ℕ
member_own (OfLink l) m = slice_get (member_calls m) l
member_own r m = None

abbrev member_total : Counted → Measure → Option ℕ
member_total (OfLink l) Calls = option_and_then (λ n. n) (slice_get (Some 5 ∷ Some 4 ∷ None ∷ []) l)
member_total (OfClique k) Calls = slice_get (5 ∷ 4 ∷ []) k
member_total r m = None

abbrev none_found : View
none_found = record {
  statics = record {
    modules = codes "t" ∷ [];
    procs = proc (codes "main") 2 ∷ proc (codes "member") 2 ∷ [];
    sites = site 0 5 (Plain 1) ∷ site 1 7 (Plain 1) ∷ [];
  };
  nodes = 0 ∷ 1 ∷ [];
  links = root ∷ link 0 0 1 ∷ link 1 1 1 ∷ [];
  finished = true;
  cliques = 0 ∷ 1 ∷ [];
  entries = 0 ∷ 1 ∷ [];
  own = member_own;
  total = member_total;
}

-- member allocates nothing and throws nothing
columns-of-nothing-are-left-out :
    text_of (callers_table none_found Calls 1)
    ≡ codes "\ntotal     %  calls  exits  fails  redos  caller\n    4  80.0      1      3      1      3  t.main/2 line 5 site 0\n    -     -      3      3      3      3  t.member/2 line 7 site 1\n"
unfolding on_tables
columns-of-nothing-are-left-out = refl

a-recursive-procedure-calls-itself :
    text_of (called_table none_found Calls 1)
    ≡ codes "\ntotal  %  calls  exits  fails  redos  callee\n    -  -      3      3      3      3  t.member/2 from line 7 site 1\n"
unfolding on_tables
a-recursive-procedure-calls-itself = refl

-- ---- main calls drive with two closures, which drive calls in turn

abbrev drive_links : Measure → List ℕ
drive_links Calls = 1 ∷ 1 ∷ 2 ∷ 3 ∷ 1 ∷ []
drive_links Exits = 1 ∷ 1 ∷ 2 ∷ 3 ∷ 1 ∷ []
drive_links Fails = 0 ∷ 0 ∷ 0 ∷ 0 ∷ 0 ∷ []
drive_links Redos = 0 ∷ 0 ∷ 0 ∷ 0 ∷ 0 ∷ []
drive_links Allocs = 2 ∷ 0 ∷ 0 ∷ 0 ∷ 0 ∷ []
drive_links Words = 7 ∷ 0 ∷ 0 ∷ 0 ∷ 0 ∷ []
drive_links Excps = 0 ∷ 0 ∷ 0 ∷ 0 ∷ 0 ∷ []

abbrev drive_contexts : Measure → List ℕ
drive_contexts Calls = 1 ∷ 4 ∷ 2 ∷ 1 ∷ []
drive_contexts Exits = 1 ∷ 4 ∷ 2 ∷ 1 ∷ []
drive_contexts Fails = 0 ∷ 0 ∷ 0 ∷ 0 ∷ []
drive_contexts Redos = 0 ∷ 0 ∷ 0 ∷ 0 ∷ []
drive_contexts Allocs = 2 ∷ 0 ∷ 0 ∷ 0 ∷ []
drive_contexts Words = 7 ∷ 0 ∷ 0 ∷ 0 ∷ []
drive_contexts Excps = 0 ∷ 0 ∷ 0 ∷ 0 ∷ []

abbrev drive_own : Counted → Measure → Option ℕ
drive_own (OfLink l) m = slice_get (drive_links m) l
drive_own (OfContext c) m = slice_get (drive_contexts m) c
drive_own r m = None

abbrev drive_total : Counted → Measure → Option ℕ
drive_total (OfLink l) Calls = option_and_then (λ n. n) (slice_get (Some 8 ∷ Some 7 ∷ Some 2 ∷ None ∷ Some 1 ∷ []) l)
drive_total (OfContext c) Calls = slice_get (8 ∷ 7 ∷ 2 ∷ 1 ∷ []) c
drive_total (OfClique k) Calls = slice_get (8 ∷ 7 ∷ 2 ∷ 1 ∷ []) k
drive_total r m = None

abbrev driven : View
driven = record {
  statics = record {
    modules = codes "t" ∷ [];
    procs = proc (codes "main") 2 ∷ proc (codes "drive") 3 ∷ proc (codes "add") 3 ∷ proc (codes "double") 2 ∷ [];
    sites = site 0 3 (Plain 1) ∷ site 1 5 HigherOrder ∷ site 1 5 (Plain 1) ∷ [];
  };
  nodes = 0 ∷ 1 ∷ 2 ∷ 3 ∷ [];
  links = root ∷ link 0 0 1 ∷ link 1 1 2 ∷ link 1 2 1 ∷ link 1 1 3 ∷ [];
  finished = true;
  cliques = 0 ∷ 1 ∷ 2 ∷ 3 ∷ [];
  entries = 0 ∷ 1 ∷ 2 ∷ 4 ∷ [];
  own = drive_own;
  total = drive_total;
}

stations-stand-below-each-other :
    text_of (stations_table driven Calls 1)
    ≡ codes "\ntotal      %  calls  exits  allocs  words  context\n    8  100.0      1      1       2      7  t.main/2 context 0 clique 0\n    7   87.5      4      4       0      0    t.drive/3 context 1 clique 1\n"
unfolding on_tables
stations-stand-below-each-other = refl

-- by link; the call of itself stays in its clique
links-stand-by-number :
    text_of (callees_table driven Calls 1)
    ≡ codes "\ntotal     %  calls  exits  callee\n    2  25.0      2      2  t.add/3 from line 5 site 1 context 2 clique 2\n    -     -      3      3  t.drive/3 from line 5 site 2 context 1\n    1  12.5      1      1  t.double/2 from line 5 site 1 context 3 clique 3\n"
unfolding on_tables
links-stand-by-number = refl

-- a site that calls both closures has a row for each
a-higher-order-site-has-a-row-for-each-callee :
    text_of (called_table driven Calls 1)
    ≡ codes "\ntotal     %  calls  exits  callee\n    2  25.0      2      2  t.add/3 from line 5 site 1\n    1  12.5      1      1  t.double/2 from line 5 site 1\n    -     -      3      3  t.drive/3 from line 5 site 2\n"
unfolding on_tables
a-higher-order-site-has-a-row-for-each-callee = refl

-- the clique of x has two contexts, and is as deep as it stands below main
cliques-stand-below-each-other :
    text_of (tree_table order Calls 5)
    ≡ codes "\ntotal      %  own  where\n    8  100.0    1  t.main/2 clique 0\n    7   87.5    3    t.x/1 from line 3 clique 1 of 2 contexts\n    4   50.0    2      t.n/0 from line 5 clique 2\n    2   25.0    2        t.r/1 from line 9 clique 3\n"
unfolding on_tables
cliques-stand-below-each-other = refl

-- 2 of 8 are 250 thousandths, which is enough for 250 and too few for 251
what-is-hidden-is-counted :
    text_of (tree_table order Calls 251)
    ≡ codes "\ntotal      %  own  where\n    8  100.0    1  t.main/2 clique 0\n    7   87.5    3    t.x/1 from line 3 clique 1 of 2 contexts\n    4   50.0    2      t.n/0 from line 5 clique 2\n    2   25.0    -        1 more\n"
unfolding on_tables
what-is-hidden-is-counted = refl

-- of the two that drive calls one has too little, and its row stands as deep as the other's
the-least-child-is-left-out :
    text_of (tree_table driven Calls 200)
    ≡ codes "\ntotal      %  own  where\n    8  100.0    1  t.main/2 clique 0\n    7   87.5    4    t.drive/3 from line 3 clique 1\n    2   25.0    2      t.add/3 from line 5 clique 2\n    1   12.5    -      1 more\n"
unfolding on_tables
the-least-child-is-left-out = refl

-- where no child has a row, theirs stands right below the clique's
all-children-may-be-left-out :
    text_of (tree_table driven Calls 300)
    ≡ codes "\ntotal      %  own  where\n    8  100.0    1  t.main/2 clique 0\n    7   87.5    4    t.drive/3 from line 3 clique 1\n    3   37.5    -      2 more\n"
unfolding on_tables
all-children-may-be-left-out = refl

-- ---- main calls even, which calls odd, which calls even again

abbrev even_own : Counted → Measure → Option ℕ
even_own (OfContext c) Calls = slice_get (1 ∷ 3 ∷ 3 ∷ []) c
even_own r m = None

abbrev even_total : Counted → Measure → Option ℕ
even_total (OfClique k) Calls = slice_get (7 ∷ 6 ∷ []) k
even_total r m = None

abbrev even : View
even = record {
  statics = record {
    modules = codes "t" ∷ [];
    procs = proc (codes "main") 2 ∷ proc (codes "even") 2 ∷ proc (codes "odd") 2 ∷ [];
    sites = site 0 3 (Plain 1) ∷ site 1 5 (Plain 2) ∷ site 2 7 (Plain 1) ∷ [];
  };
  nodes = 0 ∷ 1 ∷ 2 ∷ [];
  links = root ∷ link 0 0 1 ∷ link 1 1 2 ∷ link 2 2 1 ∷ [];
  finished = true;
  cliques = 0 ∷ 1 ∷ 1 ∷ [];
  entries = 0 ∷ 1 ∷ [];
  own = even_own;
  total = even_total;
}

-- even is not above odd: both are in the clique that main enters
a-line-for-each-context : flame_text even Calls ≡ codes "t.main/2 1\nt.main/2;t.even/2 3\nt.main/2;t.odd/2 3\n"
unfolding on_tables
a-line-for-each-context = refl

-- contexts without own counts have no line
nothing-burns-where-nothing-counts : flame_text even Allocs ≡ []
unfolding on_tables
nothing-burns-where-nothing-counts = refl

-- 203 names, each one byte: all of 200, and of more the first 100, then `..`, then those from place 103 on
abbrev numbered_names : (count : ℕ) → List (List ℕ)
numbered_names count = map (λ n. n ∷ []) (range_with_len 0 count)

two-hundred-names-are-told : slice_get (shortened (numbered_names 200)) 100 ≡ Some (100 ∷ [])
two-hundred-names-are-told = refl

the-hundredth-name-is-told : slice_get (shortened (numbered_names 203)) 99 ≡ Some (99 ∷ [])
the-hundredth-name-is-told = refl

a-mark-stands-for-the-names-between : slice_get (shortened (numbered_names 203)) 100 ≡ Some (codes "..")
a-mark-stands-for-the-names-between = refl

the-last-hundred-names-are-told : slice_get (shortened (numbered_names 203)) 101 ≡ Some (103 ∷ [])
the-last-hundred-names-are-told = refl

nothing-stands-behind-the-last-name : slice_get (shortened (numbered_names 203)) 201 ≡ None
nothing-stands-behind-the-last-name = refl

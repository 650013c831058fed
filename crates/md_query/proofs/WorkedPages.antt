-- Small pages, worked out by hand: p calls q, which calls s and r; r calls q again, and s calls r in a context of its own.
use Rattle.std.proofs.Common.{◌≡◌, ℕ, ◌*◌, true, List, [], ◌∷◌, Option, Some, None, codes, refl}
use Rattle.std.specs.Fmt.{digits}
use Rattle.std.specs.List.{slice_get}
use Rattle.std.specs.Option.{option_map}
use Rattle.std.specs.Prelude.{option_and_then}
use Rattle.md_base.specs.declared.measure.Measure.{Measure}
use Rattle.md_base.specs.declared.measure.Measure.TheVariants.{Calls, Exits, Fails, Redos, Allocs, Words, Excps}
use Rattle.md_static.specs.declared.entry.Proc.{Proc}
use Rattle.md_static.specs.declared.entry.Site.{Site}
use Rattle.md_static.specs.declared.entry.SiteKind.TheVariants.{Plain}
use Rattle.md_static.specs.Tables.{Static}
use Rattle.md_cost.specs.declared.sums.Sums.{Sums}
use Rattle.md_cost.specs.View.{View, Join, OfLink, OfContext, OfClique, OfProcedure, OfSite, OfModule}
use Rattle.md_cost.specs.View.{Row as Counted}
use Rattle.md_table.specs.Table.{LineCells, TableCells}
use Rattle.md_people.specs.declared.sort.Sort.TheVariants.{Total, Own}
use Rattle.md_query.specs.declared.row.Row.TheVariants as row
use Rattle.md_query.specs.declared.row.Title.TheVariants as title
use Rattle.md_query.specs.declared.row.What.TheVariants as what
use Rattle.md_query.specs.Asked.{Menu, Root, Clique, Procs, Top, Proc as ProcAsked, Modules, Module, Hot, Tree, Flame, Find, ProcNamed, CliqueNamed}
use Rattle.md_query.specs.PageOf.{page_of, page_with}

-- ---- a view

-- p and r and s of the module t, q of the module a, and a module e without procedures
abbrev proc : ℕ → List ℕ → Proc
proc k name = record { «module» = k; name = name; arity = 0 }

abbrev site : ℕ → ℕ → Site
site p q = record { owner = p; line = 1; kind = Plain q }

abbrev tables : Static
tables = record {
  modules = codes "t" ∷ codes "a" ∷ codes "e" ∷ [];
  procs = proc 0 (codes "p") ∷ proc 1 (codes "q") ∷ proc 0 (codes "r") ∷ proc 0 (codes "s") ∷ [];
  sites = site 0 1 ∷ site 1 2 ∷ site 1 3 ∷ site 2 1 ∷ site 3 2 ∷ [];
}

abbrev from : ℕ → ℕ → ℕ → Join
from c s d = record { caller = Some c; site = Some s; callee = d }

-- twice as many exits as calls, three times as many fails, and so on
abbrev weight : (excps : ℕ) → Measure → ℕ
weight excps Calls = 1
weight excps Exits = 2
weight excps Fails = 3
weight excps Redos = 4
weight excps Allocs = 5
weight excps Words = 6
weight excps Excps = excps

abbrev own_calls : Counted → Option ℕ
own_calls (OfLink p) = slice_get (1 ∷ 2 ∷ 6 ∷ 5 ∷ 4 ∷ 7 ∷ []) p
own_calls (OfContext c) = slice_get (1 ∷ 6 ∷ 6 ∷ 5 ∷ 7 ∷ []) c
own_calls (OfClique k) = None
own_calls (OfProcedure q) = slice_get (1 ∷ 6 ∷ 12 ∷ 6 ∷ []) q
own_calls (OfSite s) = slice_get (2 ∷ 5 ∷ 6 ∷ 4 ∷ 7 ∷ []) s
own_calls (OfModule k) = slice_get (19 ∷ 6 ∷ 0 ∷ []) k

abbrev total_calls : Counted → Option ℕ
total_calls (OfLink p) = option_and_then (λ o. o) (slice_get (Some 25 ∷ Some 24 ∷ Some 13 ∷ None ∷ None ∷ Some 7 ∷ []) p)
total_calls (OfContext c) = slice_get (25 ∷ 19 ∷ 13 ∷ 5 ∷ 7 ∷ []) c
total_calls (OfClique k) = slice_get (25 ∷ 24 ∷ 13 ∷ 7 ∷ []) k
total_calls (OfProcedure q) = slice_get (25 ∷ 19 ∷ 12 ∷ 13 ∷ []) q
total_calls (OfSite s) = slice_get (24 ∷ 0 ∷ 13 ∷ 0 ∷ 7 ∷ []) s
total_calls (OfModule k) = slice_get (25 ∷ 19 ∷ 0 ∷ []) k

-- contexts of p, q, s, r and r again; those of q and of the first r are one clique
abbrev small : (excps : ℕ) → View
small excps = record {
  statics = tables;
  nodes = 0 ∷ 1 ∷ 3 ∷ 2 ∷ 2 ∷ [];
  links = record { caller = None; site = None; callee = 0 } ∷ from 0 0 1 ∷ from 1 2 2 ∷ from 1 1 3 ∷ from 3 3 1 ∷ from 2 4 4 ∷ [];
  finished = true;
  cliques = 0 ∷ 1 ∷ 2 ∷ 1 ∷ 3 ∷ [];
  entries = 0 ∷ 1 ∷ 2 ∷ 5 ∷ [];
  own = λ r m. option_map (λ n. weight excps m * n) (own_calls r);
  total = λ r m. option_map (λ n. weight excps m * n) (total_calls r);
}

abbrev sums : ℕ → Sums
sums n = record { calls = n; exits = 2 * n; fails = 3 * n; redos = 4 * n; allocs = 5 * n; words = 6 * n; excps = 0 }

-- ---- the menu

the-menu-counts-what-there-is :
    page_of (small 0) Menu
    ≡ Some (page_with title.Menu (row.Main 0 ∷ row.Finished true ∷ row.Number what.Contexts 5 ∷ row.Number what.Links 6 ∷ row.Number what.Cliques 4
    ∷ row.Number what.Calls 25 ∷ row.Number what.Exits 50 ∷ row.Number what.Fails 75 ∷ row.Number what.Redos 100 ∷ row.Number what.Allocs 125 ∷ row.Number what.Words 150 ∷ []))
unfolding page_of
the-menu-counts-what-there-is = refl

exceptions-are-told-where-there-are-any :
    page_of (small 2) Menu
    ≡ Some (page_with title.Menu (row.Main 0 ∷ row.Finished true ∷ row.Number what.Contexts 5 ∷ row.Number what.Links 6 ∷ row.Number what.Cliques 4
    ∷ row.Number what.Calls 25 ∷ row.Number what.Exits 50 ∷ row.Number what.Fails 75 ∷ row.Number what.Redos 100 ∷ row.Number what.Allocs 125 ∷ row.Number what.Words 150 ∷ row.Number what.Excps 50 ∷ []))
unfolding page_of
exceptions-are-told-where-there-are-any = refl

-- ---- cliques

-- link 2 leaves for s; links 3 and 4 go between q and r, and have no total
each-context-is-followed-by-its-links :
    page_of (small 0) (Clique 1)
    ≡ Some (page_with (title.Clique 1) (row.Entered 1 (sums 2) ∷ row.Total (sums 24) ∷ row.Context 1 (sums 6) (sums 19) ∷ row.Leaving 2 (sums 6) (sums 13) ∷ row.Inside 3 (sums 5)
    ∷ row.Context 3 (sums 5) (sums 5) ∷ row.Inside 4 (sums 4) ∷ []))
unfolding page_of
each-context-is-followed-by-its-links = refl

the-root-is-clique-0 :
    page_of (small 0) Root ≡ Some (page_with (title.Clique 0) (row.Entered 0 (sums 1) ∷ row.Total (sums 25) ∷ row.Context 0 (sums 1) (sums 25) ∷ row.Leaving 1 (sums 2) (sums 24) ∷ []))
unfolding page_of
the-root-is-clique-0 = refl

a-context-may-call-nothing : page_of (small 0) (Clique 3) ≡ Some (page_with (title.Clique 3) (row.Entered 5 (sums 7) ∷ row.Total (sums 7) ∷ row.Context 4 (sums 7) (sums 7) ∷ []))
unfolding page_of
a-context-may-call-nothing = refl

there-is-no-clique-4 : page_of (small 0) (Clique 4) ≡ None
unfolding page_of
there-is-no-clique-4 = refl

-- ---- procedures

each-procedure-is-listed :
    page_of (small 0) Procs
    ≡ Some (page_with title.Procs (row.Proc 0 (sums 1) (sums 25) ∷ row.Proc 1 (sums 6) (sums 19) ∷ row.Proc 2 (sums 12) (sums 12) ∷ row.Proc 3 (sums 6) (sums 13) ∷ []))
unfolding page_of
each-procedure-is-listed = refl

-- q and s have as many, and q has the lower number
of-equal-counts-the-lower-number-is-first :
    page_of (small 0) (Top Calls 3) ≡ Some (page_with (title.Top Calls 3) (row.Proc 2 (sums 12) (sums 12) ∷ row.Proc 1 (sums 6) (sums 19) ∷ row.Proc 3 (sums 6) (sums 13) ∷ []))
unfolding page_of
of-equal-counts-the-lower-number-is-first = refl

no-more-are-listed-than-there-are :
    page_of (small 0) (Top Words 1000)
    ≡ Some (page_with (title.Top Words 1000) (row.Proc 2 (sums 12) (sums 12) ∷ row.Proc 1 (sums 6) (sums 19) ∷ row.Proc 3 (sums 6) (sums 13) ∷ row.Proc 0 (sums 1) (sums 25) ∷ []))
unfolding page_of
no-more-are-listed-than-there-are = refl

-- nothing was thrown, so all counts are equal
where-all-are-equal-they-stand-by-number : page_of (small 0) (Top Excps 2) ≡ Some (page_with (title.Top Excps 2) (row.Proc 0 (sums 1) (sums 25) ∷ row.Proc 1 (sums 6) (sums 19) ∷ []))
unfolding page_of
where-all-are-equal-they-stand-by-number = refl

a-procedure-has-its-contexts-and-its-sites :
    page_of (small 0) (ProcAsked 2)
    ≡ Some (page_with (title.Proc 2) (row.Own (sums 12) ∷ row.Total (sums 12) ∷ row.Of 3 (sums 5) (sums 5) ∷ row.Of 4 (sums 7) (sums 7) ∷ row.Site 3 (sums 4) (sums 0) ∷ []))
unfolding page_of
a-procedure-has-its-contexts-and-its-sites = refl

there-is-no-procedure-4 : page_of (small 0) (ProcAsked 4) ≡ None
unfolding page_of
there-is-no-procedure-4 = refl

-- ---- modules

each-module-has-its-number-of-procedures :
    page_of (small 0) Modules ≡ Some (page_with title.Modules (row.Module 0 3 (sums 19) (sums 25) ∷ row.Module 1 1 (sums 6) (sums 19) ∷ row.Module 2 0 (sums 0) (sums 0) ∷ []))
unfolding page_of
each-module-has-its-number-of-procedures = refl

a-module-has-its-procedures :
    page_of (small 0) (Module (codes "t"))
    ≡ Some (page_with (title.Module 0) (row.Own (sums 19) ∷ row.Total (sums 25) ∷ row.Proc 0 (sums 1) (sums 25) ∷ row.Proc 2 (sums 12) (sums 12) ∷ row.Proc 3 (sums 6) (sums 13) ∷ []))
unfolding page_of
a-module-has-its-procedures = refl

a-module-may-have-none : page_of (small 0) (Module (codes "e")) ≡ Some (page_with (title.Module 2) (row.Own (sums 0) ∷ row.Total (sums 0) ∷ []))
unfolding page_of
a-module-may-have-none = refl

there-is-no-module-b : page_of (small 0) (Module (codes "b")) ≡ None
unfolding page_of
there-is-no-module-b = refl

-- ---- tables

abbrev costs : (total share own own_share per_call name : List ℕ) → LineCells
costs total share own own_share per_call name = record { cells = total ∷ share ∷ own ∷ own_share ∷ per_call ∷ []; last = name }

abbrev by_calls : (last : List ℕ) → List LineCells → TableCells
by_calls last rows = record { heading = costs (codes "total") (codes "%") (codes "own") (codes "%") (codes "per call") last; rows = rows }

-- shares are shares of the total of clique 0, and not of all own calls
the-greatest-total-is-first :
    page_of (small 0) (Hot Calls 2 Total)
    ≡ Some (page_with (title.Hot Calls 2 Total) (row.Finished true ∷ row.Whole Calls 25
    ∷ row.Table (by_calls (codes "procedure") (costs (codes "25") (codes "100.0") (codes "1") (codes "4.0") (codes "25.0") (codes "t.p/0") ∷ costs (codes "19") (codes "76.0") (codes "6") (codes "24.0") (codes "3.1") (codes "a.q/0") ∷ [])) ∷ []))
unfolding page_of digits
the-greatest-total-is-first = refl

-- r has more of its own than p, and q has the lower number of two that have as much
or-the-greatest-own-count :
    page_of (small 0) (Hot Calls 2 Own)
    ≡ Some (page_with (title.Hot Calls 2 Own) (row.Finished true ∷ row.Whole Calls 25
    ∷ row.Table (by_calls (codes "procedure") (costs (codes "12") (codes "48.0") (codes "12") (codes "48.0") (codes "1.0") (codes "t.r/0") ∷ costs (codes "19") (codes "76.0") (codes "6") (codes "24.0") (codes "3.1") (codes "a.q/0") ∷ [])) ∷ []))
unfolding page_of digits
or-the-greatest-own-count = refl

abbrev twig : (total share own place : List ℕ) → LineCells
twig total share own place = record { cells = total ∷ share ∷ own ∷ []; last = place }

-- the last clique has 280 thousandths of the whole, and so less than it would need
a-tree-has-what-costs-enough :
    page_of (small 0) (Tree Calls 281)
    ≡ Some (page_with (title.Tree Calls 281) (row.Finished true ∷ row.Whole Calls 25
    ∷ row.Table (record {
      heading = twig (codes "total") (codes "%") (codes "own") (codes "where");
      rows =
          twig (codes "25") (codes "100.0") (codes "1") (codes "t.p/0 clique 0")
          ∷ twig (codes "24") (codes "96.0") (codes "11") (codes "  a.q/0 from line 1 clique 1 of 2 contexts")
          ∷ twig (codes "13") (codes "52.0") (codes "6") (codes "    t.s/0 from line 1 clique 2")
          ∷ twig (codes "7") (codes "28.0") (codes "-") (codes "      1 more") ∷ [];
    }) ∷ []))
unfolding page_of digits
a-tree-has-what-costs-enough = refl

a-flame-graph-has-no-rows : page_of (small 0) (Flame Fails 1) ≡ Some (page_with (title.Flame Fails 1) [])
unfolding page_of
a-flame-graph-has-no-rows = refl

-- the text is in one full name, and is one module's name
a-text-is-in-two-names :
    page_of (small 0) (Find Calls (codes "a"))
    ≡ Some (page_with (title.Find Calls (codes "a")) (row.Finished true ∷ row.Whole Calls 25
    ∷ row.Table (by_calls (codes "procedure") (costs (codes "19") (codes "76.0") (codes "6") (codes "24.0") (codes "3.1") (codes "a.q/0") ∷ []))
    ∷ row.Table (by_calls (codes "module") (costs (codes "19") (codes "76.0") (codes "6") (codes "24.0") (codes "3.1") (codes "a") ∷ [])) ∷ []))
unfolding page_of digits
a-text-is-in-two-names = refl

a-text-may-be-in-none :
    page_of (small 0) (Find Calls (codes "A"))
    ≡ Some (page_with (title.Find Calls (codes "A")) (row.Finished true ∷ row.Whole Calls 25 ∷ row.Table (by_calls (codes "procedure") []) ∷ row.Table (by_calls (codes "module") []) ∷ []))
unfolding page_of digits
a-text-may-be-in-none = refl

-- ---- names in place of numbers

a-full-name-is-a-procedure : page_of (small 0) (ProcNamed (codes "t.r/0")) ≡ page_of (small 0) (ProcAsked 2)
unfolding page_of digits
a-full-name-is-a-procedure = refl

a-part-of-a-name-is-none : page_of (small 0) (ProcNamed (codes "t.r")) ≡ None
unfolding page_of digits
a-part-of-a-name-is-none = refl

-- r has the contexts 3 and 4, which are in the cliques 1 and 3
the-first-context-says-the-clique : page_of (small 0) (CliqueNamed (codes "t.r/0")) ≡ page_of (small 0) (Clique 1)
unfolding page_of digits
the-first-context-says-the-clique = refl

what-was-not-called-has-no-clique : page_of (record (small 0) { nodes = 0 ∷ 1 ∷ 3 ∷ [] }) (CliqueNamed (codes "t.r/0")) ≡ None
unfolding page_of digits
what-was-not-called-has-no-clique = refl

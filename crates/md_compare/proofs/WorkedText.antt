-- The text of two profiles compared, worked out by hand.
use Rattle.std.proofs.Common.{◌≡◌, ℕ, Bool, true, false, List, [], ◌∷◌, Option, Some, None, codes, refl}
use Rattle.std.specs.Prelude.{⊤}
use Rattle.std.specs.Fmt.{digits}
use Rattle.std.specs.List.{slice_get}
use Rattle.md_base.specs.declared.measure.Measure.{Measure}
use Rattle.md_base.specs.declared.measure.Measure.TheVariants.{Calls, Exits}
use Rattle.md_static.specs.declared.entry.Proc.{Proc}
use Rattle.md_cost.specs.View.{View, OfClique, OfProcedure}
use Rattle.md_cost.specs.View.{Row as Counted}
use Rattle.md_table.specs.Table.{text_of}
use Rattle.md_compare.specs.Cost.{cost_named, difference_of}
use Rattle.md_compare.specs.Lines.{whole_line}
use Rattle.md_compare.specs.Text.{compare_text, finished_words, title_words}
use Rattle.md_compare.specs.Told.{is_passed}

unfoldable on_texts : ⊤
unfolding text_of digits
on_texts = tt

abbrev proc : List ℕ → (arity : ℕ) → Proc
proc name arity = record { «module» = 0; name = name; arity = arity }

-- the same numbers by every measure: own counts and totals of procedures, and the total of clique 0
abbrev own_of : List ℕ → Counted → Measure → Option ℕ
own_of own (OfProcedure q) m = slice_get own q
own_of own r m = None

abbrev total_of : (whole : ℕ) → List ℕ → Counted → Measure → Option ℕ
total_of whole total (OfProcedure q) m = slice_get total q
total_of whole total (OfClique k) m = Some whole
total_of whole total r m = None

abbrev run_of : List Proc → (own total : List ℕ) (whole : ℕ) → (finished : Bool) → View
run_of procs own total whole finished = record {
  statics = record { modules = codes "t" ∷ []; procs = procs; sites = [] };
  nodes = [];
  links = [];
  finished = finished;
  cliques = [];
  entries = [];
  own = own_of own;
  total = total_of whole total;
}

-- main calls count, which exits four times
abbrev whole_run : View
whole_run = run_of (proc (codes "main") 2 ∷ proc (codes "count") 1 ∷ []) (1 ∷ 4 ∷ []) (5 ∷ 4 ∷ []) 5 true

-- it is stopped before main exits
abbrev stopped_run : View
stopped_run = run_of (proc (codes "main") 2 ∷ proc (codes "count") 1 ∷ []) (0 ∷ 4 ∷ []) (4 ∷ 4 ∷ []) 4 false

-- the old run comes first in each line and each pair of columns, and its whole is the one that shares are of; a text that told one line of both runs, or the new one first, would be another
a-run-and-the-same-stopped :
    compare_text whole_run stopped_run Exits 5
    ≡ codes "mdprof compare exits 5\nold finished yes\nnew finished no\n\nold own  new own  change  old total  new total  change     %  procedure\n      5        4      -1          5          4      -1  20.0  all\n      1        0      -1          5          4      -1  20.0  t.main/2\n"
unfolding on_texts
a-run-and-the-same-stopped = refl

abbrev before : View
before = run_of (proc (codes "main") 2 ∷ proc (codes "ab") 0 ∷ proc (codes "aZ") 0 ∷ []) (1 ∷ 3 ∷ 2 ∷ []) (6 ∷ 3 ∷ 2 ∷ []) 6 false

-- aZ is gone, a procedure is new, and each has another number
abbrev after : View
after = run_of (proc (codes "ab") 0 ∷ proc (codes "new") 1 ∷ proc (codes "main") 2 ∷ []) (5 ∷ 15 ∷ 1 ∷ []) (5 ∷ 15 ∷ 21 ∷ []) 21 true

-- Of main the own count is the same, and its total has it told; main and new are apart by 15, aZ and ab by 2, and of these that with the lower byte
-- comes first, Z before b, though ab has the lower number; 2 of 6 is 333 thousandths, rounded down, and no less than the margin, since 333 * 6 is no more than 2000
two-programs :
    compare_text before after Calls 333
    ≡ codes "mdprof compare calls 333\nold finished no\nnew finished yes\n\nold own  new own  change  old total  new total  change      %  procedure\n      6       21     +15          6         21     +15  250.0  all\n      1        1      +0          6         21     +15  250.0  t.main/2\n      -       15     +15          -         15     +15  250.0  t.new/1\n      2        -      -2          2          -      -2   33.3  t.aZ/0\n      3        5      +2          3          5      +2   33.3  t.ab/0\n"
unfolding on_texts
two-programs = refl

-- one thousandth more is too much for both that are apart by 2
a-margin-that-is-not-reached :
    compare_text before after Calls 334
    ≡ codes "mdprof compare calls 334\nold finished no\nnew finished yes\n\nold own  new own  change  old total  new total  change      %  procedure\n      6       21     +15          6         21     +15  250.0  all\n      1        1      +0          6         21     +15  250.0  t.main/2\n      -       15     +15          -         15     +15  250.0  t.new/1\n"
unfolding on_texts
a-margin-that-is-not-reached = refl

-- ---- parts

-- a number of the title isn't filled up, and 0 is told too
a-title : title_words Calls 0 ≡ codes "mdprof compare calls 0\n"
unfolding on_texts
a-title = refl

lines-of-ends : finished_words (codes "old") true ≡ codes "old finished yes\n"
lines-of-ends = refl

lines-of-no-ends : finished_words (codes "new") false ≡ codes "new finished no\n"
lines-of-no-ends = refl

-- a cost has both numbers of its procedure, by name; a name without its number of arguments is none
the-cost-of-a-name : cost_named after Calls (codes "t.main/2") ≡ Some (record { own = 1; total = 21 })
unfolding on_texts
the-cost-of-a-name = refl

no-cost : cost_named after Calls (codes "t.main") ≡ None
unfolding on_texts
no-cost = refl

-- where two had one name, the first would count
abbrev twice : View
twice = run_of (proc (codes "p") 1 ∷ proc (codes "p") 1 ∷ []) (7 ∷ 8 ∷ []) (9 ∷ 9 ∷ []) 9 true

the-first-of-a-name : cost_named twice Calls (codes "t.p/1") ≡ Some (record { own = 7; total = 9 })
unfolding on_texts
the-first-of-a-name = refl

-- the greater of the two differences, each whichever way it goes: no sum, and not that of own counts alone
the-greater-difference : difference_of (Some (record { own = 9; total = 9 })) (Some (record { own = 5; total = 16 })) ≡ 7
the-greater-difference = refl

own-counts-can-differ-more : difference_of (Some (record { own = 2; total = 9 })) (Some (record { own = 8; total = 8 })) ≡ 6
own-counts-can-differ-more = refl

what-is-not-there-counts-as-0 : difference_of None (Some (record { own = 3; total = 4 })) ≡ 4
what-is-not-there-counts-as-0 = refl

-- 1 of 200 is 5 thousandths, which is enough for 5; no difference is never enough, even where 0 thousandths are asked for or the whole is 0
a-margin : is_passed (record { least = 5; whole = 200 }) 1 ≡ true
a-margin = refl

just-below : is_passed (record { least = 5; whole = 201 }) 1 ≡ false
just-below = refl

no-difference : is_passed (record { least = 0; whole = 200 }) 0 ≡ false
no-difference = refl

nothing-of-nothing : is_passed (record { least = 1000; whole = 0 }) 1 ≡ true
nothing-of-nothing = refl

-- the share of the row of the whole is that of its own change, and its own count is its total
the-line-of-the-whole : whole_line 4 6 ≡ record { cells = codes "4" ∷ codes "6" ∷ codes "+2" ∷ codes "4" ∷ codes "6" ∷ codes "+2" ∷ codes "50.0" ∷ []; last = codes "all" }
unfolding on_texts
the-line-of-the-whole = refl

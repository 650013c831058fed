-- Two runs of one program, and one of another, compared by hand.
use Rattle.std.proofs.Common.{◌≡◌, ℕ, true, List, [], ◌∷◌, Option, Some, None, codes, refl}
use Rattle.std.specs.Prelude.{⊤}
use Rattle.std.specs.Fmt.{digits}
use Rattle.std.specs.List.{slice_get}
use Rattle.md_base.specs.declared.measure.Measure.{Measure}
use Rattle.md_base.specs.declared.measure.Measure.TheVariants.{Exits}
use Rattle.md_static.specs.declared.entry.Proc.{Proc}
use Rattle.md_cost.specs.View.{View, OfClique, OfProcedure}
use Rattle.md_cost.specs.View.{Row as Counted}
use Rattle.md_table.specs.Table.{text_of}
use Rattle.md_people.specs.Compare.{compare_table}

unfoldable on_tables : ⊤
unfolding text_of digits
on_tables = tt

abbrev proc : List ℕ → (arity : ℕ) → Proc
proc name arity = record { «module» = 0; name = name; arity = arity }

-- exits of procedures, and the total of clique 0
abbrev exits_own : List ℕ → Counted → Measure → Option ℕ
exits_own own (OfProcedure q) Exits = slice_get own q
exits_own own r m = None

abbrev exits_total : (whole : ℕ) → List ℕ → Counted → Measure → Option ℕ
exits_total whole total (OfProcedure q) Exits = slice_get total q
exits_total whole total (OfClique k) Exits = Some whole
exits_total whole total r m = None

abbrev run_of : List Proc → (own total : List ℕ) (whole : ℕ) → View
run_of procs own total whole = record {
  statics = record { modules = codes "t" ∷ []; procs = procs; sites = [] };
  nodes = [];
  links = [];
  finished = true;
  cliques = [];
  entries = [];
  own = exits_own own;
  total = exits_total whole total;
}

-- main calls count, which exits four times
abbrev whole_run : View
whole_run = run_of (proc (codes "main") 2 ∷ proc (codes "count") 1 ∷ []) (1 ∷ 4 ∷ []) (5 ∷ 4 ∷ []) 5

-- it is stopped before main exits
abbrev stopped_run : View
stopped_run = run_of (proc (codes "main") 2 ∷ proc (codes "count") 1 ∷ []) (0 ∷ 4 ∷ []) (4 ∷ 4 ∷ []) 4

-- the same with another name for count, and main behind it
abbrev renamed_run : View
renamed_run = run_of (proc (codes "tally") 1 ∷ proc (codes "main") 2 ∷ []) (4 ∷ 0 ∷ []) (4 ∷ 4 ∷ []) 4

-- count has as many in both, and no row
what-is-the-same-has-no-row :
    text_of (compare_table whole_run stopped_run Exits 5)
    ≡ codes "\nold own  new own  change  old total  new total  change     %  procedure\n      5        4      -1          5          4      -1  20.0  all\n      1        0      -1          5          4      -1  20.0  t.main/2\n"
unfolding on_tables
what-is-the-same-has-no-row = refl

-- procedures are joined by name, not by number; of equal differences the lower name comes first
names-that-are-new-and-names-that-are-gone :
    text_of (compare_table whole_run renamed_run Exits 5)
    ≡ codes "\nold own  new own  change  old total  new total  change     %  procedure\n      5        4      -1          5          4      -1  20.0  all\n      4        -      -4          4          -      -4  80.0  t.count/1\n      -        4      +4          -          4      +4  80.0  t.tally/1\n      1        0      -1          5          4      -1  20.0  t.main/2\n"
unfolding on_tables
names-that-are-new-and-names-that-are-gone = refl

-- 1 of 5 is 200 thousandths, which is too few for 201
small-differences-have-no-row :
    text_of (compare_table whole_run renamed_run Exits 201)
    ≡ codes "\nold own  new own  change  old total  new total  change     %  procedure\n      5        4      -1          5          4      -1  20.0  all\n      4        -      -4          4          -      -4  80.0  t.count/1\n      -        4      +4          -          4      +4  80.0  t.tally/1\n"
unfolding on_tables
small-differences-have-no-row = refl

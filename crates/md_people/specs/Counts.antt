-- The numbers of a view that stand in tables.
use Rattle.std.specs.Prelude.{ℕ, unwrap_or}
use Rattle.md_base.specs.declared.measure.Measure.{Measure}
use Rattle.md_base.specs.declared.measure.Measure.TheVariants.{Calls, Exits, Fails, Redos, Allocs, Words, Excps}
use Rattle.md_cost.specs.declared.sums.Sums.{Sums}
use Rattle.md_cost.specs.View.{View, OfClique}
use Rattle.md_cost.specs.View.{Row as Counted}

-- the own counts and the totals of a row by measure; 0 where it has none
abbrev pub own_counts : View → Counted → Measure → ℕ
own_counts v r m = unwrap_or (v.own r m) 0

abbrev pub total_counts : View → Counted → Measure → ℕ
total_counts v r m = unwrap_or (v.total r m) 0

-- the seven numbers, by measure
abbrev pub sums_by : (Measure → ℕ) → Sums
sums_by n = record {
  calls = n Calls;
  exits = n Exits;
  fails = n Fails;
  redos = n Redos;
  allocs = n Allocs;
  words = n Words;
  excps = n Excps;
}

-- the whole, of which shares are shares: the total of clique 0
abbrev pub whole_of : View → Measure → ℕ
whole_of v m = total_counts v (OfClique 0) m

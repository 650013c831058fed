-- Tables of ports: a row has a total of a measure with its share, where it has one, and the seven own counts.
use Rattle.std.specs.Prelude.{ℕ, ◌==◌, Bool, not, List, [], ◌∷◌, ◌++◌, map, Option, Some, None, codes}
use Rattle.std.specs.List.{list_any, filter}
use Rattle.std.specs.Fmt.{decimal}
use Rattle.md_base.specs.declared.measure.Measure.{Measure}
use Rattle.md_base.specs.declared.measure.Measure.TheVariants.{Exits, Fails, Redos, Allocs, Words, Excps}
use Rattle.md_cost.specs.declared.sums.Sums.{Sums}
use Rattle.md_cost.specs.SumOf.{sum_of}
use Rattle.md_table.specs.Table.{LineCells, TableCells}
use Rattle.md_people.specs.Costs.{counted_cells, line_of}
use Rattle.md_people.specs.Words.{measure_word}

pub record PortsRow : Type 0 where
  pub total : Option ℕ
  pub own : Sums
  pub last : List ℕ

-- some row has a count of this measure
abbrev pub is_counted : List PortsRow → Measure → Bool
is_counted rows m = list_any (λ row. not (sum_of row.own m == 0)) rows

-- the measures that have a column behind calls: where no row has any, there is none
abbrev pub shown_measures : List PortsRow → List Measure
shown_measures rows = filter (is_counted rows) (Exits ∷ Fails ∷ Redos ∷ Allocs ∷ Words ∷ Excps ∷ [])

abbrev pub ports_heading : (shown : List Measure) (last : List ℕ) → LineCells
ports_heading shown last = line_of (codes "total" ∷ codes "%" ∷ codes "calls" ∷ map measure_word shown) last

-- a total and its share; where there is none, `-` stands for both
abbrev pub total_cells : Option ℕ → (whole : ℕ) → List (List ℕ)
total_cells None whole = codes "-" ∷ codes "-" ∷ []
total_cells (Some n) whole = counted_cells n whole

abbrev pub ports_line : (whole : ℕ) (shown : List Measure) → PortsRow → LineCells
ports_line whole shown row = line_of (total_cells row.total whole ++ (decimal row.own.calls ∷ map (λ m. decimal (sum_of row.own m)) shown)) row.last

abbrev pub ports_table : (whole : ℕ) (last : List ℕ) (rows : List PortsRow) → TableCells
ports_table whole last rows = record { heading = ports_heading (shown_measures rows) last; rows = map (ports_line whole (shown_measures rows)) rows }

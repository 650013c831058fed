-- The page of the procedures that cost most.
use Rattle.std.specs.Prelude.{ℕ, List, length, map, take, codes}
use Rattle.std.specs.List.{range_with_len}
use Rattle.md_base.specs.declared.measure.Measure.{Measure}
use Rattle.md_cost.specs.View.{View, OfProcedure}
use Rattle.md_table.specs.Table.{LineCells, TableCells}
use Rattle.md_people.specs.declared.sort.Sort.{Sort}
use Rattle.md_people.specs.declared.sort.Sort.TheVariants.{Total, Own}
use Rattle.md_people.specs.Costs.{costs_heading, costs_of}
use Rattle.md_people.specs.Counts.{own_counts, total_counts}
use Rattle.md_people.specs.Ranked.{ranked}
use Rattle.md_people.specs.Words.{full_name}

-- what procedures are sorted by: the total of a measure, or its own count
abbrev pub sort_count : View → Measure → Sort → (procedure : ℕ) → ℕ
sort_count v by Total q = total_counts v (OfProcedure q) by
sort_count v by Own q = own_counts v (OfProcedure q) by

-- the first n procedures: the greatest number comes first, and of equal ones the lower procedure
abbrev pub hot_procs : View → Measure → ℕ → Sort → List ℕ
hot_procs v by n sort = take n (ranked (sort_count v by sort) (range_with_len 0 (length v.statics.procs)))

-- a procedure with its costs and its full name
abbrev pub proc_line : View → Measure → ℕ → LineCells
proc_line v by q = costs_of v by (OfProcedure q) (full_name v.statics q)

abbrev pub hot_table : View → Measure → ℕ → Sort → TableCells
hot_table v by n sort = record { heading = costs_heading by (codes "procedure"); rows = map (proc_line v by) (hot_procs v by n sort) }

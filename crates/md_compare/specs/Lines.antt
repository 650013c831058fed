-- Lines of what is told.
use Rattle.std.specs.Prelude.{ℕ, List, ◌∷◌, map, Some, codes}
use Rattle.md_people.specs.Compare.{apart, compare_heading, compared_line}
use Rattle.md_table.specs.Table.{LineCells, TableCells}
use Rattle.md_compare.specs.Cost.{own_in, total_in}
use Rattle.md_compare.specs.declared.told.Told.{Told}

-- the line of the whole, whose own count is its total
abbrev pub whole_line : (old new : ℕ) → LineCells
whole_line old new = compared_line old (apart (Some old) (Some new)) (Some old) (Some new) (Some old) (Some new) (codes "all")

abbrev pub told_line : (whole : ℕ) → Told → LineCells
told_line whole told = compared_line whole told.difference.0 (own_in told.old) (own_in told.new) (total_in told.old) (total_in told.new) told.name.items

-- the row of the whole, and one for each name
abbrev pub told_table : (old new : ℕ) → List Told → TableCells
told_table old new told = record { heading = compare_heading; rows = whole_line old new ∷ map (told_line old) told }

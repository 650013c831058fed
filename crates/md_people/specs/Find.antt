-- The page of the procedures and modules in whose name a text is.
use Rattle.std.specs.Prelude.{ℕ, List, [], ◌∷◌, length, codes, if◌then◌else◌}
use Rattle.std.specs.List.{flat_map, range_with_len}
use Rattle.md_base.specs.declared.measure.Measure.{Measure}
use Rattle.md_cost.specs.View.{View, OfModule}
use Rattle.md_table.specs.Table.{LineCells, TableCells}
use Rattle.md_people.specs.Costs.{costs_heading, costs_of}
use Rattle.md_people.specs.Hot.{proc_line}
use Rattle.md_people.specs.Texts.{has_text}
use Rattle.md_people.specs.Words.{full_name, module_name}

-- a module with its costs and its name
abbrev pub module_line : View → Measure → ℕ → LineCells
module_line v by k = costs_of v by (OfModule k) (module_name v.statics k)

-- a row, where the text is in the name
abbrev pub proc_rows : View → Measure → (text : List ℕ) → ℕ → List LineCells
proc_rows v by text q = if has_text text (full_name v.statics q) then proc_line v by q ∷ [] else []

abbrev pub module_rows : View → Measure → (text : List ℕ) → ℕ → List LineCells
module_rows v by text k = if has_text text (module_name v.statics k) then module_line v by k ∷ [] else []

-- the two tables, in rising order
abbrev pub found_procs_table : View → Measure → (text : List ℕ) → TableCells
found_procs_table v by text = record { heading = costs_heading by (codes "procedure"); rows = flat_map (proc_rows v by text) (range_with_len 0 (length v.statics.procs)) }

abbrev pub found_modules_table : View → Measure → (text : List ℕ) → TableCells
found_modules_table v by text = record { heading = costs_heading by (codes "module"); rows = flat_map (module_rows v by text) (range_with_len 0 (length v.statics.modules)) }

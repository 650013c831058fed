use Rattle.std.proofs.Common.{◌≡◌, ◌++◌, take}
use Rattle.std.specs.List.{flat_map, enumerate_from}
use Rattle.md_table.specs.Table.{cell_words, width_in}
use Rattle.md_table.proofs.text.add_cells.Given as goal

-- the cells so far, each in its column
abbrev pub invariant-loop-column : goal.invariant-loop-column
invariant-loop-column l = l.out.items ≡ l.fn.out.items ++ flat_map (cell_words (width_in l.widths)) (take l.column (enumerate_from 0 l.line.cells))

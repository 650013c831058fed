use Rattle.std.proofs.Common.{◌≡◌, ◌++◌, take}
use Rattle.std.specs.List.{flat_map, enumerate_from}
use Rattle.md_table.specs.Html.{cell_html}
use Rattle.md_table.proofs.html.add_cells.Given as goal

-- the cells so far, each below its heading
abbrev pub invariant-loop-column : goal.invariant-loop-column
invariant-loop-column l = l.out.items ≡ l.fn.out.items ++ flat_map (cell_html l.heading.cells) (take l.column (enumerate_from 0 l.line.cells))

use Rattle.std.proofs.Common.{◌≡◌, ◌++◌, take}
use Rattle.std.specs.List.{flat_map}
use Rattle.md_table.specs.Html.{heading_html}
use Rattle.md_table.proofs.html.add_each_heading.Given as goal

abbrev pub invariant-loop-column : goal.invariant-loop-column
invariant-loop-column l = l.out.items ≡ l.fn.out.items ++ flat_map (heading_html l.sort) (take l.column l.line.cells)

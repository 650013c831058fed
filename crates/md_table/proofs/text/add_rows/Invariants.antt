use Rattle.std.proofs.Common.{◌≡◌, ◌++◌, take}
use Rattle.std.specs.List.{flat_map}
use Rattle.md_table.specs.Table.{line_words, width_in}
use Rattle.md_table.proofs.text.add_rows.Given as goal

abbrev pub invariant-loop-place : goal.invariant-loop-place
invariant-loop-place l = l.out.items ≡ l.fn.out.items ++ flat_map (line_words (width_in l.widths)) (take l.place l.table.rows)

use Rattle.std.proofs.Common.{◌≡◌, ◌++◌, map, take}
use Rattle.md_compare.specs.Lines.{told_line}
use Rattle.md_compare.proofs.table.push_rows.Given as goal

abbrev pub invariant-loop-name : goal.invariant-loop-name
invariant-loop-name l = l.rows.ended ≡ l.fn.rows.ended ++ map (told_line l.whole) (take l.name-index l.told)

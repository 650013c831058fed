use Rattle.std.proofs.Common.{◌≡◌, ◌++◌, take}
use Rattle.md_tool.specs.Summed.{sum_lines}
use Rattle.md_tool.proofs.sums.add_rows.Given as goal

-- the lines so far
abbrev pub invariant-loop-row : goal.invariant-loop-row
invariant-loop-row l = l.text.items ≡ l.fn.text.items ++ sum_lines l.statics (take l.row-index l.rows)

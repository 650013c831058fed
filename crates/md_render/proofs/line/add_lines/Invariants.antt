use Rattle.std.proofs.Common.{◌≡◌, ◌++◌, take}
use Rattle.md_render.specs.Kept.{names_in}
use Rattle.md_render.specs.Lines.{row_lines}
use Rattle.md_render.proofs.line.add_lines.Given as goal

-- the lines so far are those of the rows so far
abbrev pub invariant-loop-row : goal.invariant-loop-row
invariant-loop-row l = l.out.items ≡ l.fn.out.items ++ row_lines l.form (names_in l.loaded) (take l.row-index l.rows)

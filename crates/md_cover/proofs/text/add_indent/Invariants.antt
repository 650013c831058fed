use Rattle.std.proofs.Common.{◌≡◌, ◌++◌}
use Rattle.md_cover.specs.Text.{indent}
use Rattle.md_cover.proofs.text.add_indent.Given as goal

abbrev pub invariant-loop-level : goal.invariant-loop-level
invariant-loop-level l = l.out.items ≡ l.fn.out.items ++ indent l._level

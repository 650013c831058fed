use Rattle.std.proofs.Common.{◌≡◌, ◌++◌, drop}
use Rattle.std.specs.Prelude.{codes}
use Rattle.md_printer.specs.Layout.{laid, further}
use Rattle.md_printer.specs.Printed.{single, mode_word}
use Rattle.md_printer.proofs.predicate.further_modes.Given as goal

-- the text so far and that of the rest are the whole one
abbrev pub invariant-loop-next : goal.invariant-loop-next
invariant-loop-next l = l.text.items ++ laid (further (single mode_word) (codes ",") (drop l.next-index l.modes)) ≡ l.fn.text.items ++ laid (further (single mode_word) (codes ",") l.fn.modes)

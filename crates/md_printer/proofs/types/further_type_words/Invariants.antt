use Rattle.std.proofs.Common.{◌≡◌, ◌++◌, drop}
use Rattle.std.specs.Prelude.{codes}
use Rattle.md_printer.specs.Layout.{laid, further}
use Rattle.md_printer.specs.Printed.{single, type_word}
use Rattle.md_hlds.specs.Hlds.{hlds_types_of}
use Rattle.md_printer.proofs.types.further_type_words.Given as goal

-- the text so far and that of the rest are the whole one
abbrev pub invariant-loop-next : goal.invariant-loop-next
invariant-loop-next l = l.text.items ++ laid (further (single type_word) (codes ",") (hlds_types_of (drop l.next-index l.types))) ≡ l.fn.text.items ++ laid (further (single type_word) (codes ",") (hlds_types_of l.fn.types))

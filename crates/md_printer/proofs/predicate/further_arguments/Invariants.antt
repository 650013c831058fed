use Rattle.std.proofs.Common.{◌≡◌, ◌++◌, drop}
use Rattle.std.specs.Prelude.{codes}
use Rattle.md_printer.specs.Layout.{laid, further}
use Rattle.md_printer.specs.Printed.{argument_tokens}
use Rattle.md_hlds.specs.Hlds.{args_of}
use Rattle.md_printer.proofs.predicate.further_arguments.Given as goal

-- the text so far and that of the rest are the whole one
abbrev pub invariant-loop-next : goal.invariant-loop-next
invariant-loop-next l = l.text.items ++ laid (further argument_tokens (codes ",") (args_of (drop l.next-index l.declared))) ≡ l.fn.text.items ++ laid (further argument_tokens (codes ",") (args_of l.fn.declared))

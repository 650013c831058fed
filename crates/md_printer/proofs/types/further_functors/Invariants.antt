use Rattle.std.proofs.Common.{◌≡◌, ◌++◌, drop}
use Rattle.std.specs.Prelude.{codes}
use Rattle.md_printer.specs.Layout.{laid, further}
use Rattle.md_printer.specs.Printed.{functor_tokens}
use Rattle.md_hlds.specs.Hlds.{hlds_functors_of}
use Rattle.md_printer.proofs.types.further_functors.Given as goal

-- the text so far and that of the rest are the whole one
abbrev pub invariant-loop-next : goal.invariant-loop-next
invariant-loop-next l = l.text.items ++ laid (further functor_tokens (codes ";") (hlds_functors_of (drop l.next-index l.functors))) ≡ l.fn.text.items ++ laid (further functor_tokens (codes ";") (hlds_functors_of l.fn.functors))

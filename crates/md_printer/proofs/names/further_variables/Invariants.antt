use Rattle.std.proofs.Common.{◌≡◌, ◌++◌, drop}
use Rattle.std.specs.Prelude.{codes}
use Rattle.md_printer.specs.Layout.{laid, further}
use Rattle.md_printer.specs.Printed.{single, variable}
use Rattle.md_printer.proofs.names.further_variables.Given as goal

-- the text so far and that of the rest are the whole one
abbrev pub invariant-loop-place : goal.invariant-loop-place
invariant-loop-place l = l.text.items ++ laid (further (single (variable l.names)) (codes ",") (drop l.place-index l.places)) ≡ l.fn.text.items ++ laid (further (single (variable l.fn.names)) (codes ",") l.fn.places)

use Rattle.std.proofs.Common.{◌≡◌}
use Rattle.md_code.specs.Details.{repeated}
use Rattle.md_code.proofs.cases.repeated.Given as goal

abbrev pub invariant-loop-place : goal.invariant-loop-place
invariant-loop-place l = l.targets.items ≡ repeated l._place l.target

use Rattle.std.proofs.Common.{◌≡◌, drop}
use Rattle.md_code.specs.Details.{is_bound_at}
use Rattle.md_code.proofs.detail.is_bound_at.Given as goal

abbrev pub invariant-loop-other : goal.invariant-loop-other
invariant-loop-other l = is_bound_at l.place (drop l.other-index l.bound) ≡ is_bound_at l.place l.bound

use Rattle.std.proofs.Common.{◌≡◌, ℕ, length}
use Rattle.std.specs.Prelude.{IfSome}
use Rattle.std.specs.List.{slice_get}
use Rattle.md_dump.specs.Sums.{IsProcSum}
use Rattle.md_dump.proofs.summing.sum_procs.Given as goal

-- the procedures so far
abbrev pub invariant-loop-id : goal.invariant-loop-id
invariant-loop-id l = (length l.rows.items ≡ l.id) × ((k : ℕ) → IfSome (slice_get l.rows.items k) (IsProcSum l.files k))

use Rattle.std.proofs.Common.{◌≡◌, ◌<◌, ℕ}
use Rattle.md_dump.specs.Sums.{statics_at}
use Rattle.md_dump.proofs.summing.first_other.Given as goal

-- the files so far are of the first one's program
abbrev pub invariant-loop-place : goal.invariant-loop-place
invariant-loop-place l = (k : ℕ) → k < l.place → statics_at l.files k ≡ statics_at l.files 0

use Rattle.std.proofs.Common.{◌≡◌, ◌++◌, take}
use Rattle.md_dump.proofs.same.all_same.Given as goal

-- so far both are the same
abbrev pub invariant-loop-row : goal.invariant-loop-row
invariant-loop-row g l = l.other ≡ take l.row-index l.one ++ l.rest

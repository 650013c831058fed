use Rattle.std.proofs.Common.{◌≡◌, ◌≤◌, length}
use Rattle.std.specs.Str.{all_ascii_digits}
use Rattle.md_dump.specs.Numbers.{value_from}
use Rattle.md_dump.proofs.number.digits_up_to.Given as goal

-- the digits that are left decide, behind the number so far
abbrev pub invariant-loop-rest : goal.invariant-loop-rest
invariant-loop-rest l = (all_ascii_digits l.digits ≡ all_ascii_digits l.rest) × (value_from 0 l.digits ≡ value_from l.number l.rest) × (l.number ≤ l.most)

abbrev pub decreases-loop-rest : goal.decreases-loop-rest
decreases-loop-rest l = length l.rest

use Rattle.std.proofs.Common.{◌≡◌, ◌++◌, ◌∷◌, ℕ, take}
use Rattle.std.specs.Fmt.{decimal}
use Rattle.std.specs.List.{flat_map}
use Rattle.md_dump.proofs.put.put_numbers.Given as goal

-- the numbers so far
abbrev pub invariant-loop-number : goal.invariant-loop-number
invariant-loop-number l = l.out.items ≡ l.fn.out.items ++ flat_map (λ (n : ℕ). 32 ∷ decimal n) (take l.number-index l.numbers)

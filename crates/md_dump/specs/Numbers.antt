-- Numbers in decimal, without leading zeros.
use Rattle.std.specs.Prelude.{ℕ, ◌+◌, ◌-◌, ◌*◌, ◌==◌, ◌&&◌, nat_le, not, Bool, true, false, List, [], ◌∷◌, Option, None, Some, if◌then◌else◌}
use Rattle.std.specs.Str.{all_ascii_digits}

-- the number that digits give behind those of another
abbrev pub value_from : ℕ → List ℕ → ℕ
value_from n [] = n
value_from n (c ∷ cs) = value_from (10 * n + (c - 48)) cs

-- the number of digits, where it isn't above the greatest
abbrev pub digits_up_to : ℕ → List ℕ → Option ℕ
digits_up_to most word = if all_ascii_digits word && nat_le (value_from 0 word) most then Some (value_from 0 word) else None

-- a word, which doesn't go on behind a leading zero
abbrev pub begins_well : List ℕ → Bool
begins_well [] = false
begins_well (c ∷ []) = true
begins_well (c ∷ d ∷ cs) = not (c == 48)

-- the number of a word, where it is one that isn't above the greatest
abbrev pub number_up_to : ℕ → List ℕ → Option ℕ
number_up_to most word = if begins_well word then digits_up_to most word else None

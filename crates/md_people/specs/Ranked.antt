-- Numbers in the order of their counts.
use Rattle.std.specs.Prelude.{ℕ, Bool, ◌==◌, ◌&&◌, ◌||◌, nat_lt, List, [], ◌∷◌, if◌then◌else◌}

-- a number comes before another: it has more, or as many and is the lower one
abbrev pub comes_before : (count : ℕ → ℕ) → ℕ → ℕ → Bool
comes_before count q r = nat_lt (count r) (count q) || (count q == count r && nat_lt q r)

-- a number put before the first of these that it comes before
abbrev pub ranked_with : (count : ℕ → ℕ) → ℕ → List ℕ → List ℕ
ranked_with count q [] = q ∷ []
ranked_with count q (r ∷ rs) = if comes_before count q r then q ∷ r ∷ rs else r ∷ ranked_with count q rs

-- numbers by their counts: the greatest comes first, and of equal ones the lower number
abbrev pub ranked : (count : ℕ → ℕ) → List ℕ → List ℕ
ranked count [] = []
ranked count (q ∷ qs) = ranked_with count q (ranked count qs)

-- What holds along numbers in a row holds of each of them.
use Rattle.std.proofs.Common.{◌≡◌, ◌∙◌, sym, ap, ℕ, ◌≤◌, ◌-◌, map, get_or, arith}
use Rattle.std.specs.List.{range_with_len}
use Rattle.std.proofs.lemmas.List.FromFn.{get_or-map-range_with_len}

-- functions that are the same along the numbers from 1 to n are so at each of them
pub same_at : {A : Type 0} (f g : ℕ → A) (n j : ℕ) → map f (range_with_len 1 n) ≡ map g (range_with_len 1 n) → 1 ≤ j → j ≤ n → f j ≡ g j
same_at f g n j same some few =
    sym (get_or-map-range_with_len f 1 n (j - 1) j (f j) (omega (arith, some, few)) (omega (arith, some)))
    ∙ ap (λ xs. get_or xs (j - 1) (f j)) same
    ∙ get_or-map-range_with_len g 1 n (j - 1) j (f j) (omega (arith, some, few)) (omega (arith, some))

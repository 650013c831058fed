-- Numbers from a first one on.
use Rattle.std.proofs.Common.{◌≡◌, ℕ, zero, suc, ◌+◌, List, [], ◌∷◌, ◌++◌, ap, ◌∙◌, arith}
use Rattle.std.specs.List.{range_with_len}

pub range_from_more : (i n : ℕ) → range_with_len i (n + 1) ≡ range_with_len i n ++ (i + n) ∷ []
range_from_more i zero = let e : i ≡ i + 0 = omega arith in ap (λ (k : ℕ). k ∷ []) e
range_from_more i (suc n) =
    let e : (i + 1) + n ≡ i + suc n = omega arith in
    let more : suc n + 1 ≡ suc (n + 1) = omega arith in
    ap (λ (m : ℕ). range_with_len i m) more
    ∙ ap (λ (xs : List ℕ). i ∷ xs) (range_from_more (i + 1) n ∙ ap (λ (k : ℕ). range_with_len (i + 1) n ++ k ∷ []) e)

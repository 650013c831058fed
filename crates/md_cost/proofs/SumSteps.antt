-- Sums over links, by what the links pass.
use Rattle.std.proofs.Common.{◌≡◌, ℕ, suc, ◌+◌, List, [], ◌∷◌, refl, Some, arith}
use Rattle.std.specs.List.{sum_by, slice_get}
use Rattle.std.proofs.lemmas.List.Sums.{sum_by-cons}

pub sum_of_both : {X : Type 0} (f g h : X → ℕ) (xs : List X) → ((i : ℕ) (x : X) → slice_get xs i ≡ Some x → f x ≡ g x + h x) → sum_by f xs ≡ sum_by g xs + sum_by h xs
sum_of_both f g h [] each = refl
sum_of_both f g h (x ∷ xs) each =
    let first : f x ≡ g x + h x = each 0 x refl in
    let rest : sum_by f xs ≡ sum_by g xs + sum_by h xs = sum_of_both f g h xs (λ i y is. each (suc i) y is) in
    let cf : sum_by f (x ∷ xs) ≡ f x + sum_by f xs = sum_by-cons f x xs in
    let cg : sum_by g (x ∷ xs) ≡ g x + sum_by g xs = sum_by-cons g x xs in
    let ch : sum_by h (x ∷ xs) ≡ h x + sum_by h xs = sum_by-cons h x xs in
    omega arith

pub sum_same : {X : Type 0} (f g : X → ℕ) (xs : List X) → ((i : ℕ) (x : X) → slice_get xs i ≡ Some x → f x ≡ g x) → sum_by f xs ≡ sum_by g xs
sum_same f g [] each = refl
sum_same f g (x ∷ xs) each =
    let first : f x ≡ g x = each 0 x refl in
    let rest : sum_by f xs ≡ sum_by g xs = sum_same f g xs (λ i y is. each (suc i) y is) in
    let cf : sum_by f (x ∷ xs) ≡ f x + sum_by f xs = sum_by-cons f x xs in
    let cg : sum_by g (x ∷ xs) ≡ g x + sum_by g xs = sum_by-cons g x xs in
    omega arith

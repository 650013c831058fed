-- Lists beside one another.
use Rattle.std.proofs.Common.{◌≡◌, sym, arith, ◌≤◌, Bool, false, List, [], ◌∷◌, length}

-- what is false of no items beside some items
pub only_second : {A B : Type 0} (R : List A → List B → Bool) → ((y : B) (ys : List B) → R [] (y ∷ ys) ≡ false) → (a : List A) (b : List B) → length a ≡ 0 → 1 ≤ length b → false ≡ R a b
only_second R h [] [] none some = absurd (omega (arith, some))
only_second R h [] (y ∷ ys) none some = sym (h y ys)
only_second R h (x ∷ xs) b none some = absurd (omega (arith, none))

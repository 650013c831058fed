-- Members of a list by place, after a push.
use Rattle.std.proofs.Common.{ℕ, zero, suc, ◌≡◌, ◌<◌, List, [], ◌∷◌, ◌++◌, length, Some, slice_get, refl, arith}

pub get-push-old : {A : Type 0} (xs : List A) (y : A) (k : ℕ) → k < length xs → slice_get (xs ++ y ∷ []) k ≡ slice_get xs k
get-push-old [] y k h = absurd (omega arith)
get-push-old (x ∷ xs) y zero h = refl
get-push-old (x ∷ xs) y (suc k) h = get-push-old xs y k (omega arith)

pub get-push-new : {A : Type 0} (xs : List A) (y : A) → slice_get (xs ++ y ∷ []) (length xs) ≡ Some y
get-push-new [] y = refl
get-push-new (x ∷ xs) y = get-push-new xs y

-- Members of a list by place, after a write and after a push.
use Rattle.std.proofs.Common.{ℕ, zero, suc, ◌≡◌, ◌≢◌, ◌<◌, ◌⊎◌, inl, inr, List, [], ◌∷◌, ◌++◌, length, Some, slice_get, set, refl, ap, arith}

pub get-set-same : {A : Type 0} (xs : List A) (k : ℕ) (y : A) → k < length xs → slice_get (set xs k y) k ≡ Some y
get-set-same [] k y h = absurd (omega arith)
get-set-same (x ∷ xs) zero y h = refl
get-set-same (x ∷ xs) (suc k) y h = get-set-same xs k y (omega arith)

pub get-set-other : {A : Type 0} (xs : List A) (k j : ℕ) (y : A) → j ≢ k → slice_get (set xs k y) j ≡ slice_get xs j
get-set-other [] k j y h = refl
get-set-other (x ∷ xs) zero zero y h = absurd (h refl)
get-set-other (x ∷ xs) zero (suc j) y h = refl
get-set-other (x ∷ xs) (suc k) zero y h = refl
get-set-other (x ∷ xs) (suc k) (suc j) y h = get-set-other xs k j y (λ e. h (ap suc e))

pub get-push-old : {A : Type 0} (xs : List A) (y : A) (k : ℕ) → k < length xs → slice_get (xs ++ y ∷ []) k ≡ slice_get xs k
get-push-old [] y k h = absurd (omega arith)
get-push-old (x ∷ xs) y zero h = refl
get-push-old (x ∷ xs) y (suc k) h = get-push-old xs y k (omega arith)

pub get-push-new : {A : Type 0} (xs : List A) (y : A) → slice_get (xs ++ y ∷ []) (length xs) ≡ Some y
get-push-new [] y = refl
get-push-new (x ∷ xs) y = get-push-new xs y

pub get-there : {A : Type 0} (xs : List A) (k : ℕ) → k < length xs → (y : A) × (slice_get xs k ≡ Some y)
get-there [] k h = absurd (omega arith)
get-there (x ∷ xs) zero h = (x, refl)
get-there (x ∷ xs) (suc k) h = get-there xs k (omega arith)

pub get-within : {A : Type 0} (xs : List A) (k : ℕ) (y : A) → slice_get xs k ≡ Some y → k < length xs
get-within [] k y is = absurd (cc)
get-within (x ∷ xs) zero y is = omega arith
get-within (x ∷ xs) (suc k) y is = let h = get-within xs k y is in omega arith

-- a member of a list with one more is the last, or one of those before
pub get-push-either : {A : Type 0} (xs : List A) (y z : A) (k : ℕ) → slice_get (xs ++ y ∷ []) k ≡ Some z → ((k ≡ length xs) × (z ≡ y)) ⊎ (slice_get xs k ≡ Some z)
get-push-either [] y z zero is = inl (refl, cc)
get-push-either [] y z (suc k) is = absurd (cc)
get-push-either (x ∷ xs) y z zero is = inr is
get-push-either (x ∷ xs) y z (suc k) is = elim (get-push-either xs y z k is) [ inl p ↦ inl (ap suc p.0, p.1) | inr p ↦ inr p ]

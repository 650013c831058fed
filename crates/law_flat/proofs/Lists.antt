-- A list that stands in another.
use Rattle.std.proofs.Common.{◌≡◌, refl, subst, arith, ℕ, suc, ◌+◌, List, [], ◌∷◌, ◌++◌, length}
use Rattle.law_flat.specs.Flat.{StandsFrom}

pub stands_left : {A : Type 0} (xs : List A) (k : ℕ) (ys zs : List A) → StandsFrom xs k (ys ++ zs) → StandsFrom xs k ys
stands_left xs k [] zs h = tt
stands_left xs k (y ∷ ys) zs h = (h.0, stands_left xs (suc k) ys zs h.1)

pub stands_right : {A : Type 0} (xs : List A) (k m : ℕ) (ys zs : List A) → k + length ys ≡ m → StandsFrom xs k (ys ++ zs) → StandsFrom xs m zs
stands_right xs k m [] zs e h = let i : k ≡ m = omega (arith, e) in subst (λ n. StandsFrom xs n zs) i h
stands_right xs k m (y ∷ ys) zs e h = stands_right xs (suc k) m ys zs (omega (arith, e)) h.1

pub stands_at : {A : Type 0} (xs : List A) (k m : ℕ) (ys : List A) → k ≡ m → StandsFrom xs k ys → StandsFrom xs m ys
stands_at xs k m ys e h = subst (λ n. StandsFrom xs n ys) e h

-- one element more in front
stands_behind : {A : Type 0} (x : A) (xs : List A) (k : ℕ) (ys : List A) → StandsFrom xs k ys → StandsFrom (x ∷ xs) (suc k) ys
stands_behind x xs k [] h = tt
stands_behind x xs k (y ∷ ys) h = (h.0, stands_behind x xs (suc k) ys h.1)

pub stands_whole : {A : Type 0} (ys : List A) → StandsFrom ys 0 ys
stands_whole [] = tt
stands_whole (y ∷ ys) = (refl, stands_behind y ys 0 ys (stands_whole ys))

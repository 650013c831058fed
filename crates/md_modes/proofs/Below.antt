-- Numbers below a bound, of which some has a property.
use Rattle.std.proofs.Common.{◌≡◌, refl, arith, ℕ, zero, suc, ◌<◌, Bool, true, false, ◌||◌, ◌&&◌, inl, inr}
use Rattle.std.proofs.lemmas.Bool.{cases_eq}
use Rattle.std.proofs.Math.Bool.{or-true}
use Rattle.md_inst.specs.Instantiation.{some_below}

true_or : (a b : Bool) → a ≡ true → (a || b) ≡ true
true_or true b e = refl
true_or false b e = absurd (cc)

pub some_below-found : (n i : ℕ) (p : ℕ → Bool) → i < n → p i ≡ true → some_below n p ≡ true
some_below-found zero i p lt e = absurd (omega (arith, lt))
some_below-found (suc n) i p lt e = elim (cases_eq i n) [
  | inl same ↦ rw (← same, e) (or-true (some_below i p))
  | inr other ↦ true_or (some_below n p) (p n) (some_below-found n i p (omega (arith, lt, other)) e)
]

pub some_below-same : (n : ℕ) (p q : ℕ → Bool) → ((x : ℕ) → p x ≡ q x) → some_below n p ≡ some_below n q
some_below-same zero p q h = refl
some_below-same (suc n) p q h = rw (some_below-same n p q h, h n) refl

pub both : (a b : Bool) → a ≡ true → b ≡ true → (a && b) ≡ true
both a b e f = rw (e, f) refl

-- The members of a list by number, where the last has number 0.
use Rattle.std.proofs.Common.{ℕ, ◌⊎◌, inl, inr, ◌≡◌, ◌<◌, List, [], ◌∷◌, length, Some, refl, arith}
use Rattle.std.proofs.lemmas.Bool.{eq-eqb, ne_eqb}
use Rattle.std.proofs.lemmas.Bool.Decides.{eqb_tells}
use Rattle.md_trace.specs.Activation.{numbered}

-- the first member has the greatest number
pub numbered-new : {A : Type 0} (x : A) (xs : List A) → numbered (x ∷ xs) (length xs) ≡ Some x
numbered-new x xs = rw (eq-eqb (length xs) (length xs) refl)

-- one more member changes no earlier number
pub numbered-more : {A : Type 0} (x : A) (xs : List A) (a : ℕ) → a < length xs → numbered (x ∷ xs) a ≡ numbered xs a
numbered-more x xs a below = rw (ne_eqb a (length xs) (λ e. absurd (omega arith)))

-- who has a number is in the list
pub numbered-below : {A : Type 0} (xs : List A) (a : ℕ) (y : A) → numbered xs a ≡ Some y → a < length xs
numbered-below [] a y is = absurd (cc)
numbered-below (x ∷ xs) a y is =
    elim (eqb_tells a (length xs)) [
      | inl p ↦ omega (arith, p.1)
      | inr p ↦ let more = rw p.0 at is in omega (arith, numbered-below xs a y more)
    ]

-- each smaller number has a member
pub numbered-there : {A : Type 0} (xs : List A) (a : ℕ) → a < length xs → (y : A) × (numbered xs a ≡ Some y)
numbered-there [] a below = absurd (omega arith)
numbered-there (x ∷ xs) a below =
    elim (eqb_tells a (length xs)) [
      | inl p ↦ (x, rw p.0)
      | inr p ↦ let rest = numbered-there xs a (omega (arith, p.1)) in (rest.0, rw p.0 rest.1)
    ]

-- a member of a longer list is the new one, or one of those before
pub numbered-either : {A : Type 0} (x : A) (xs : List A) (a : ℕ) (y : A) → numbered (x ∷ xs) a ≡ Some y → ((a ≡ length xs) × (y ≡ x)) ⊎ (numbered xs a ≡ Some y)
numbered-either x xs a y is =
    elim (eqb_tells a (length xs)) [
      | inl p ↦ let same = rw p.0 at is in inl (p.1, cc)
      | inr p ↦ let more = rw p.0 at is in inr more
    ]

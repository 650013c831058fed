-- Numbers below a bound.
use Rattle.std.proofs.Common.{◌≡◌, refl, ap, inl, inr, arith, ℕ, ◌<◌, ◌≤◌, Bool, true, false, nat_eq, nat_lt, eqb, List, [], ◌∷◌, ◌++◌, length, slice_set}
use Rattle.std.proofs.lemmas.Bool.{lt-ltb, and_from, or_cases, eqb-true, ne_eqb}
use Rattle.std.proofs.lemmas.List.Elements.{All-from_recursion, recursion_from_All, All-set}
use Rattle.std.proofs.lemmas.Map.Steps.{length-le_from_distinct_below}
use Rattle.std.specs.List.{AllByRecursion, IsDistinct, list_any}
use Rattle.md_inst.specs.Instantiation.{times}
use Rattle.law_safety.specs.Turns.{AreDistinct}
use Rattle.law_safety.proofs.Handing.{first_times, more_times}
use Rattle.md_flat.specs.Placed.{are_slots_placed, are_targets_placed}
use Rattle.law_flat.proofs.Heads.{fewer_heads}

-- ---- one list and another

pub each_left : {A : Type 0} (P : A → Type 0) (xs ys : List A) → AllByRecursion P (xs ++ ys) → AllByRecursion P xs
each_left P [] ys h = tt
each_left P (x ∷ xs) ys h = (h.0, each_left P xs ys h.1)

pub each_right : {A : Type 0} (P : A → Type 0) (xs ys : List A) → AllByRecursion P (xs ++ ys) → AllByRecursion P ys
each_right P [] ys h = h
each_right P (x ∷ xs) ys h = each_right P xs ys h.1

pub each_both : {A : Type 0} (P : A → Type 0) (xs ys : List A) → AllByRecursion P xs → AllByRecursion P ys → AllByRecursion P (xs ++ ys)
each_both P [] ys h k = k
each_both P (x ∷ xs) ys h k = (h.0, each_both P xs ys h.1 k)

-- ---- numbers below a bound

abbrev pub Below : ℕ → List ℕ → Type 0
Below n ys = AllByRecursion (λ y. y < n) ys

pub below_left : (n : ℕ) (xs ys : List ℕ) → Below n (xs ++ ys) → Below n xs
below_left n xs ys h = each_left (λ y. y < n) xs ys h

pub below_right : (n : ℕ) (xs ys : List ℕ) → Below n (xs ++ ys) → Below n ys
below_right n xs ys h = each_right (λ y. y < n) xs ys h

pub below_from : (n : ℕ) (ys : List ℕ) → ((y : ℕ) → 0 < times y ys → y < n) → Below n ys
below_from n [] h = tt
below_from n (y ∷ ys) h = (h y (first_times y ys), below_from n ys (λ z lt. h z (more_times z y ys lt)))

pub below_at : (n : ℕ) (ys : List ℕ) (x : ℕ) → Below n ys → 0 < times x ys → x < n
below_at n [] x h there = absurd (omega (arith, there))
below_at n (y ∷ ys) x h there = by_value (nat_eq x y) refl (λ more. below_at n ys x h.1 more)
  where
    by_value : (b : Bool) → nat_eq x y ≡ b → (0 < times x ys → x < n) → x < n
    by_value true is later = let same = eqb-true x y is in let lt = h.0 in omega (arith, same, lt)
    by_value false is later = later (let fewer : times x (y ∷ ys) ≡ times x ys = rw is refl in omega (arith, there, fewer))

pub below_set : (n : ℕ) (ts : List ℕ) (i t : ℕ) → t < n → Below n ts → Below n (slice_set ts i t)
below_set n ts i t lt h = recursion_from_All (λ y. y < n) (slice_set ts i t) (All-set (λ y. y < n) ts i t lt (All-from_recursion (λ y. y < n) ts h))

pub slots_placed : (n : ℕ) (ys : List ℕ) → Below n ys → are_slots_placed n ys ≡ true
slots_placed n [] h = refl
slots_placed n (y ∷ ys) h = and_from (nat_lt y n) (are_slots_placed n ys) (lt-ltb y n h.0) (slots_placed n ys h.1)

pub targets_placed : (n : ℕ) (ts : List ℕ) → Below n ts → are_targets_placed n ts ≡ true
targets_placed n [] h = refl
targets_placed n (t ∷ ts) h = and_from (nat_lt t n) (are_targets_placed n ts) (lt-ltb t n h.0) (targets_placed n ts h.1)

-- ---- numbers that differ are no more than the bound

apart : (x : ℕ) (ys : List ℕ) → times x ys ≡ 0 → AllByRecursion (λ y. eqb x y ≡ false) ys
apart x [] h = tt
apart x (y ∷ ys) h = (
  ne_eqb x y (λ e. let there = first_times y ys in let same : times x (y ∷ ys) ≡ times y (y ∷ ys) = ap (λ z. times z (y ∷ ys)) e in omega (arith, there, same, h)),
  apart x ys (fewer_heads x y ys h),
)

different : (ys : List ℕ) → AreDistinct ys → IsDistinct eqb ys
unfolding IsDistinct
different [] h = tt
different (y ∷ ys) h = (apart y ys h.0, different ys h.1)

member_below : (n : ℕ) (ys : List ℕ) (x : ℕ) → Below n ys → list_any (eqb x) ys ≡ true → x < n
member_below n [] x h is = absurd (cc is)
member_below n (y ∷ ys) x h is = elim (or_cases (eqb x y) (list_any (eqb x) ys) is) [
  | inl e ↦ let same = eqb-true x y e in let lt = h.0 in omega (arith, same, lt)
  | inr e ↦ member_below n ys x h.1 e
]

pub few_distinct : (n : ℕ) (ys : List ℕ) → AreDistinct ys → Below n ys → length ys ≤ n
few_distinct n ys d h = length-le_from_distinct_below ys n (different ys d) (λ x is. member_below n ys x h is)

-- Variables in rising order, each with how often it occurs.
use Rattle.std.proofs.Common.{◌≡◌, ◌≢◌, refl, sym, ap, ◌∙◌, arith, subst, ℕ, zero, suc, ◌+◌, ◌-◌, ◌<◌, ◌≤◌, Bool, true, false, cond, ◌&&◌, nat_eq, nat_lt, List, [], ◌∷◌, ◌++◌, length, length-append, get_or, slice_index, inl, inr, take, add-one, get_or-set_same, get_or-set_other, Result, Ok, Err, IfOk}
use Rattle.md_base.specs.declared.number.NoMemory.{NoMemory}
use Rattle.std.specs.List.{sum_by}
use Rattle.std.specs.List.Sorted.{IsPermutation, IsNonDecreasing, IsBinarySearchResult}
use Rattle.std.specs.Ordering.{nat_cmp}
use Rattle.std.specs.Result.{MatchResult}
use Rattle.std.proofs.lemmas.Bool.{cases_eq, cases_lt, eq-eqb, eqb-true, lt-ltb}
use Rattle.std.proofs.lemmas.List.{length-set}
use Rattle.std.proofs.lemmas.List.Sums.{sum_by-cons}
use Rattle.std.proofs.lemmas.List.Sorted.{sum_by-IsPermutation, searched}
use Rattle.md_inst.specs.Instantiation.{times}
use Rattle.md_modes.specs.declared.local.Local.{Local}
use Rattle.md_modes.specs.Views.{Rising}
use Rattle.md_modes.specs.Tally.{IsLocal, IsNoLess, ends_with, last_count, count_last}
use Rattle.md_modes.proofs.Counts.{times-append, times-take}

-- ---- variables in rising order

pub rising-from : (n : ℕ) (xs : List ℕ) (i : ℕ) → Rising n xs → i < length xs → n ≤ slice_index xs i
rising-from n [] i h lt = absurd (omega (arith, lt))
rising-from n (x ∷ xs) zero h lt = h.0
rising-from n (x ∷ xs) (suc i) h lt = let r = rising-from (suc x) xs i h.1 (omega (arith, lt)) in omega (arith, r, h.0)

pub rising-less : (n : ℕ) (xs : List ℕ) (i j : ℕ) → Rising n xs → i < j → j < length xs → slice_index xs i < slice_index xs j
rising-less n [] i j h lt inside = absurd (omega (arith, inside))
rising-less n (x ∷ xs) i zero h lt inside = absurd (omega (arith, lt))
rising-less n (x ∷ xs) zero (suc j) h lt inside = let r = rising-from (suc x) xs j h.1 (omega (arith, inside)) in omega (arith, r)
rising-less n (x ∷ xs) (suc i) (suc j) h lt inside = rising-less (suc x) xs i j h.1 (omega (arith, lt)) (omega (arith, inside))

pub rising-more : (n : ℕ) (xs : List ℕ) (x : ℕ) → Rising n xs → n ≤ x → ((i : ℕ) → i < length xs → slice_index xs i < x) → Rising n (xs ++ x ∷ [])
rising-more n [] x h le less = (le, tt)
rising-more n (y ∷ xs) x h le less =
    let lt : y < x = less 0 (omega arith) in
    (h.0, rising-more (suc y) xs x h.1 (omega (arith, lt)) (λ i inside. less (suc i) (omega (arith, inside))))

-- ---- how often a number occurs

pub times_self : (x : ℕ) → times x (x ∷ []) ≡ 1
times_self x = rw (eq-eqb x x refl) refl

pub apart_cond : (x y : ℕ) (n : ℕ) → x ≢ y → cond (nat_eq x y) (suc n) n ≡ n
apart_cond x y n ne = elim (cases_eq x y) [
  | inl same ↦ absurd (ne same)
  | inr other ↦ grind (arith, other)
]

pub times_other : (x y : ℕ) → x ≢ y → times x (y ∷ []) ≡ 0
times_other x y ne = apart_cond x y 0 ne

rest_zero : (b : Bool) (n : ℕ) → cond b (suc n) n ≡ 0 → n ≡ 0
rest_zero true n e = absurd (omega (arith, e))
rest_zero false n e = e

head_zero : (x : ℕ) (n : ℕ) → cond (nat_eq x x) (suc n) n ≡ 0 → ⊥
head_zero x n e = let same = eq-eqb x x refl in absurd (omega (arith, (subst (λ (b : Bool). cond b (suc n) n ≡ 0) same e)))

pub occurs-at : (xs : List ℕ) (i : ℕ) → i < length xs → times (slice_index xs i) xs ≢ 0
occurs-at [] i lt = absurd (omega (arith, lt))
occurs-at (x ∷ xs) zero lt = λ e. head_zero x (times x xs) e
occurs-at (x ∷ xs) (suc i) lt = λ e. occurs-at xs i (omega (arith, lt)) (rest_zero _ _ e)

pub absent : (x : ℕ) (xs : List ℕ) → ((i : ℕ) → i < length xs → slice_index xs i ≢ x) → times x xs ≡ 0
absent x [] h = refl
absent x (y ∷ ys) h = apart_cond x y (times x ys) (λ e. h 0 (omega arith) (sym e)) ∙ absent x ys (λ i lt. h (suc i) (omega (arith, lt)))

sum_zero : (a b c : ℕ) → a ≡ b + c → a ≡ 0 → (b ≡ 0) × (c ≡ 0)
sum_zero a b c e f = (omega (arith, e, f), omega (arith, e, f))

-- ---- another number

at_front : (xs : List ℕ) (x i : ℕ) → i < length xs → slice_index (xs ++ x ∷ []) i ≡ slice_index xs i
at_front [] x i lt = absurd (omega (arith, lt))
at_front (y ∷ xs) x zero lt = refl
at_front (y ∷ xs) x (suc i) lt = at_front xs x i (omega (arith, lt))

at_back : (xs : List ℕ) (x i : ℕ) → i ≡ length xs → slice_index (xs ++ x ∷ []) i ≡ x
at_back [] x zero e = refl
at_back [] x (suc i) e = absurd (omega (arith, e))
at_back (y ∷ xs) x zero e = absurd (omega (arith, e))
at_back (y ∷ xs) x (suc i) e = at_back xs x i (omega (arith, e))

abbrev AllLess : ℕ → List ℕ → Type 0
AllLess x xs = (i : ℕ) → i < length xs → slice_index xs i < x

counted-more : (places counts vars : List ℕ) (x : ℕ) → IsLocal places counts vars → AllLess x places
    → (i : ℕ) → i < length (places ++ x ∷ []) → slice_index (counts ++ 1 ∷ []) i ≡ times (slice_index (places ++ x ∷ []) i) (vars ++ x ∷ [])
counted-more places counts vars x h less i lt = elim (cases_lt i (length places)) [
  | inl inside ↦
      let y = slice_index places i in
      let other : times y (x ∷ []) ≡ 0 = times_other y x (λ e. absurd (omega (arith, less i inside, e))) in
      let sum = times-append y vars (x ∷ []) in
      rw (at_front places x i inside, at_front counts 1 i (omega (arith, inside, h.room)))
      (h.counted i inside ∙ omega (arith, sum, other))
  | inr past ↦
      let last : i ≡ length places = omega (arith, past, lt, length-append places (x ∷ [])) in
      let none : times x vars ≡ 0 = h.all x (absent x places (λ j inside e. absurd (omega (arith, less j inside, e)))) in
      let sum = times-append x vars (x ∷ []) in
      rw (at_back places x i last, at_back counts 1 i (omega (arith, last, h.room)))
      (omega (arith, sum, none, times_self x))
]

pub new_place : (places counts vars : List ℕ) (x : ℕ) → IsLocal places counts vars → AllLess x places
    → IsLocal (places ++ x ∷ []) (counts ++ 1 ∷ []) (vars ++ x ∷ [])
new_place places counts vars x h less = record {
  rising = rising-more 0 places x h.rising (omega arith) less;
  room = omega (arith, h.room, length-append counts (1 ∷ []), length-append places (x ∷ []));
  counted = counted-more places counts vars x h less;
  all = λ y e.
      let parts = sum_zero _ _ _ (times-append y places (x ∷ [])) e in
      times-append y vars (x ∷ []) ∙ omega (arith, h.all y parts.0, parts.1);
  only = λ y e.
      let parts = sum_zero _ _ _ (times-append y vars (x ∷ [])) e in
      times-append y places (x ∷ []) ∙ omega (arith, h.only y parts.0, parts.1);
}

-- ---- the last number once more

counted-again : (places counts vars : List ℕ) (x m : ℕ) → IsLocal places counts vars → length places ≡ suc m → slice_index places m ≡ x
    → (i : ℕ) → i < length places → slice_index (count_last counts) i ≡ times (slice_index places i) (vars ++ x ∷ [])
counted-again places counts vars x m h size last i lt =
    let at_end : length counts - 1 ≡ m = omega (arith, h.room, size) in
    elim (cases_eq i m) [
      | inl same ↦
          let sum = times-append x vars (x ∷ []) in
          let before : slice_index counts m ≡ times x vars = h.counted m (omega (arith, size)) ∙ ap (λ y. times y vars) last in
          rw (same, at_end, last) (get_or-set_same counts m (slice_index counts m + 1) 0 (omega (arith, h.room, size)) ∙ omega (arith, sum, before, times_self x))
      | inr other ↦
          let y = slice_index places i in
          let less : y < x = subst (λ z. y < z) last (rising-less 0 places i m h.rising (omega (arith, lt, size, other)) (omega (arith, size))) in
          let apart : times y (x ∷ []) ≡ 0 = times_other y x (λ e. absurd (omega (arith, less, e))) in
          let sum = times-append y vars (x ∷ []) in
          rw at_end (get_or-set_other counts m i (slice_index counts m + 1) 0 other ∙ (h.counted i lt ∙ omega (arith, sum, apart)))
    ]

pub same_again : (places counts vars : List ℕ) (x m : ℕ) → IsLocal places counts vars → length places ≡ suc m → slice_index places m ≡ x
    → IsLocal places (count_last counts) (vars ++ x ∷ [])
same_again places counts vars x m h size last = record {
  rising = h.rising;
  room = length-set counts (length counts - 1) (slice_index counts (length counts - 1) + 1) ∙ h.room;
  counted = counted-again places counts vars x m h size last;
  all = λ y e.
      let there : times x places ≢ 0 = subst (λ z. times z places ≢ 0) last (occurs-at places m (omega (arith, size))) in
      let apart : times y (x ∷ []) ≡ 0 = times_other y x (λ (same : y ≡ x). there (subst (λ z. times z places ≡ 0) same e)) in
      times-append y vars (x ∷ []) ∙ omega (arith, h.all y e, apart);
  only = λ y e. h.only y (sum_zero _ _ _ (times-append y vars (x ∷ [])) e).0;
}

-- ---- one number more, none of those so far being greater

and_both : (a b : Bool) → (a && b) ≡ true → (a ≡ true) × (b ≡ true)
and_both true b e = (refl, e)
and_both false b e = absurd (cc)

pub added_again : (places counts vars : List ℕ) (x : ℕ) → ends_with x places ≡ true → IsLocal places counts vars → IsLocal places (count_last counts) (vars ++ x ∷ [])
added_again places counts vars x e h =
    let parts = and_both (nat_lt 0 (length places)) _ e in
    let some : 0 < length places = grind (arith, parts.0) in
    same_again places counts vars x (length places - 1) h (omega (arith, some)) (eqb-true _ _ parts.1)

no_greater : (places counts vars : List ℕ) (x : ℕ) → IsLocal places counts vars → IsNoLess x vars → (i : ℕ) → i < length places → slice_index places i ≤ x
no_greater places counts vars x h bound i lt = bound (slice_index places i) (λ e. occurs-at places i lt (h.only (slice_index places i) e))

not_last : (places : List ℕ) (x m : ℕ) → ends_with x places ≡ false → length places ≡ suc m → slice_index places m ≢ x
not_last places x m e size = λ same.
    let some = lt-ltb 0 (length places) (omega (arith, size)) in
    let at_end : length places - 1 ≡ m = omega (arith, size) in
    let equal : nat_eq (slice_index places (length places - 1)) x ≡ true = rw at_end (eq-eqb _ _ same) in
    let both : ends_with x places ≡ true = rw (some, equal) refl in
    absurd (cc)

all_less : (places counts vars : List ℕ) (x : ℕ) → ends_with x places ≡ false → IsLocal places counts vars → IsNoLess x vars → AllLess x places
all_less places counts vars x e h bound i lt =
    let m = length places - 1 in
    let size : length places ≡ suc m = omega (arith, lt) in
    let last = no_greater places counts vars x h bound m (omega (arith, lt)) in
    let ne = not_last places x m e size in
    elim (cases_eq i m) [
      | inl same ↦ rw same (omega (arith, last, ne))
      | inr other ↦ let less = rising-less 0 places i m h.rising (omega (arith, lt, other)) (omega (arith, lt)) in omega (arith, less, last)
    ]

pub added_new : (places counts vars : List ℕ) (x : ℕ) → ends_with x places ≡ false → IsLocal places counts vars → IsNoLess x vars
    → IsLocal (places ++ x ∷ []) (counts ++ 1 ∷ []) (vars ++ x ∷ [])
added_new places counts vars x e h bound = new_place places counts vars x h (all_less places counts vars x e h bound)

-- ---- a whole list

pub nothing_local : (places counts : List ℕ) → places ≡ [] → counts ≡ [] → IsLocal places counts []
nothing_local places counts e f = rw (e, f) (record { rising = tt; room = refl; counted = λ i lt. absurd (omega (arith, lt)); all = λ x h. refl; only = λ x h. refl })

pub take-more : (xs : List ℕ) (i : ℕ) → i < length xs → take (suc i) xs ≡ take i xs ++ slice_index xs i ∷ []
take-more [] i lt = absurd (omega (arith, lt))
take-more (x ∷ xs) zero lt = refl
take-more (x ∷ xs) (suc i) lt = ap (λ ys. x ∷ ys) (take-more xs i (omega (arith, lt)))

-- numbers before a place of a list in rising order are no greater than the one there
before_no_less : (xs : List ℕ) (i x : ℕ) → ((j : ℕ) → j < i → j < length xs → slice_index xs j ≤ x) → IsNoLess x (take i xs)
before_no_less [] zero x h y ne = absurd (ne refl)
before_no_less [] (suc i) x h y ne = absurd (ne refl)
before_no_less (z ∷ xs) zero x h y ne = absurd (ne refl)
before_no_less (z ∷ xs) (suc i) x h y ne = elim (cases_eq y z) [
  | inl same ↦ rw same (h 0 (omega arith) (omega arith))
  | inr other ↦ before_no_less xs i x (λ j lt inside. h (suc j) (omega (arith, lt)) (omega (arith, inside))) y (λ e. ne (apart_cond y z (times y (take i xs)) other ∙ e))
]

pub all_no_less : (xs : List ℕ) (i : ℕ) → IsNonDecreasing xs → i < length xs → IsNoLess (slice_index xs i) (take i xs)
all_no_less xs i h lt = before_no_less xs i (slice_index xs i) (λ j less inside. h j i 0 (omega (arith, less)) lt)

pub local-step : (places counts xs : List ℕ) (i x : ℕ) → i < length xs → x ≡ slice_index xs i → IsLocal places counts (take i xs ++ x ∷ []) → IsLocal places counts (take (i + 1) xs)
local-step places counts xs i x lt is h = rw (add-one, take-more xs i lt, ← is) h

no_last : (ns : List ℕ) → length ns ≤ length ns - 1 → last_count ns ≡ 0
no_last [] le = refl
no_last (n ∷ ns) le = absurd (omega (arith, le))

-- the last count of the numbers before a place is no greater than that place
pub last-before : (places counts xs : List ℕ) (i : ℕ) → IsLocal places counts (take i xs) → last_count counts ≤ i
last-before places counts xs i h = elim (cases_lt (length counts - 1) (length places)) [
  | inl lt ↦ omega (arith, h.counted (length counts - 1) lt, times-take (slice_index places (length counts - 1)) xs i)
  | inr le ↦ omega (arith, no_last counts (omega (arith, le, h.room)))
]

take-all : (xs : List ℕ) (i : ℕ) → length xs ≤ i → take i xs ≡ xs
take-all [] zero le = refl
take-all [] (suc i) le = refl
take-all (x ∷ xs) zero le = absurd (omega (arith, le))
take-all (x ∷ xs) (suc i) le = ap (λ ys. x ∷ ys) (take-all xs i (omega (arith, le)))

pub local-end : (places counts xs : List ℕ) (i : ℕ) → length xs ≤ i → IsLocal places counts (take i xs) → IsLocal places counts xs
local-end places counts xs i le h = subst (λ (ys : List ℕ). IsLocal places counts ys) (take-all xs i le) h

-- ---- in another order

one_cond : (b : Bool) (n m : ℕ) → n ≡ m → cond b (suc n) n ≡ cond b 1 0 + m
one_cond true n m e = omega (arith, e)
one_cond false n m e = omega (arith, e)

as_sum : (x : ℕ) (xs : List ℕ) → times x xs ≡ sum_by (λ y. cond (nat_eq x y) 1 0) xs
as_sum x [] = refl
as_sum x (y ∷ ys) = one_cond (nat_eq x y) (times x ys) _ (as_sum x ys) ∙ sym (sum_by-cons (λ z. cond (nat_eq x z) 1 0) y ys)

pub times-permuted : (x : ℕ) (xs ys : List ℕ) → IsPermutation xs ys → times x ys ≡ times x xs
times-permuted x xs ys h = as_sum x ys ∙ (sum_by-IsPermutation (λ y. cond (nat_eq x y) 1 0) xs ys h ∙ sym (as_sum x xs))

pub local-permuted : (places counts xs ys : List ℕ) → IsPermutation xs ys → IsLocal places counts ys → IsLocal places counts xs
local-permuted places counts xs ys p h = record {
  rising = h.rising;
  room = h.room;
  counted = λ i lt. h.counted i lt ∙ times-permuted (slice_index places i) xs ys p;
  all = λ x e. sym (times-permuted x xs ys p) ∙ h.all x e;
  only = λ x e. h.only x (times-permuted x xs ys p ∙ e);
}

pub local-permuted_ok : (r : Result Local NoMemory) (xs ys : List ℕ) → IsPermutation xs ys → IfOk r (λ local. IsLocal local.places.items local.counts.items ys)
    → IfOk r (λ local. IsLocal local.places.items local.counts.items xs)
local-permuted_ok (Ok l) xs ys p h = local-permuted l.places.items l.counts.items xs ys p h
local-permuted_ok (Err e) xs ys p h = tt

-- ---- look-ups

pub found_count : (places counts vars : List ℕ) (i x : ℕ) → IsLocal places counts vars → i < length places → slice_index places i ≡ x → slice_index counts i ≡ times x vars
found_count places counts vars i x h lt is = h.counted i lt ∙ ap (λ y. times y vars) is

pub rising-sorted : (places : List ℕ) → Rising 0 places → (i j : ℕ) → i ≤ j → j < length places → get_or places i 0 ≤ get_or places j 0
rising-sorted places h i j le lt = elim (cases_eq i j) [
  | inl same ↦ rw same (omega arith)
  | inr other ↦ let less = rising-less 0 places i j h (omega (arith, le, other)) lt in omega (arith, less)
]

-- a search that ends between what is less and what is greater finds that the number is none of them
pub not_found : (places counts vars : List ℕ) (x : ℕ) (r : Result ℕ ℕ) (i : ℕ) → r ≡ Err i → IsBinarySearchResult (λ y. nat_cmp y x) places r → IsLocal places counts vars → 0 ≡ times x vars
not_found places counts vars x r i is found h =
    let ends = subst (λ (q : Result ℕ ℕ). MatchResult q (λ i. (i < length places) × (get_or places i 0 ≡ x))
    (λ i. (i ≤ length places) × ((k : ℕ) → k < i → get_or places k 0 < x) × ((k : ℕ) → i ≤ k → k < length places → x < get_or places k 0)))
    is (searched places x r found (rising-sorted places h.rising)) in
    sym (h.all x (absent x places (λ j lt same. elim (cases_lt j i) [
      | inl less ↦ let below = ends.1 j less in absurd (omega (arith, below, same))
      | inr more ↦ let above = ends.2 j more lt in absurd (omega (arith, above, same))
    ])))

same_number : (xs : List ℕ) (i j : ℕ) → Rising 0 xs → i < length xs → j < length xs → slice_index xs i ≡ slice_index xs j → i ≡ j
same_number xs i j h lt lt' same = elim (cases_lt i j) [
  | inl less ↦ let apart = rising-less 0 xs i j h less lt' in absurd (omega (arith, apart, same))
  | inr more ↦ elim (cases_eq i j) [
    | inl e ↦ e
    | inr ne ↦ let apart = rising-less 0 xs j i h (omega (arith, more, ne)) lt in absurd (omega (arith, apart, same))
  ]
]

-- a search finds the number of what stands there
pub number_found : (places : List ℕ) (y x : ℕ) (r : Result ℕ ℕ) (i : ℕ) → r ≡ Ok i → IsBinarySearchResult (λ z. nat_cmp z y) places r → Rising 0 places
    → x < length places → slice_index places x ≡ y → i ≡ x
number_found places y x r i is found h lt there =
    let ends = subst (λ (q : Result ℕ ℕ). MatchResult q (λ i. (i < length places) × (get_or places i 0 ≡ y))
    (λ i. (i ≤ length places) × ((k : ℕ) → k < i → get_or places k 0 < y) × ((k : ℕ) → i ≤ k → k < length places → y < get_or places k 0)))
    is (searched places y r found (rising-sorted places h)) in
    same_number places i x h ends.0 lt (ends.1 ∙ sym there)

pub number_there : (places : List ℕ) (y : ℕ) (r : Result ℕ ℕ) (i : ℕ) → r ≡ Ok i → IsBinarySearchResult (λ z. nat_cmp z y) places r → Rising 0 places → slice_index places i ≡ y
number_there places y r i is found h =
    let ends = subst (λ (q : Result ℕ ℕ). MatchResult q (λ i. (i < length places) × (get_or places i 0 ≡ y))
    (λ i. (i ≤ length places) × ((k : ℕ) → k < i → get_or places k 0 < y) × ((k : ℕ) → i ≤ k → k < length places → y < get_or places k 0)))
    is (searched places y r found (rising-sorted places h)) in
    ends.1

pub number_missed : (places : List ℕ) (y x : ℕ) (r : Result ℕ ℕ) (i : ℕ) → r ≡ Err i → IsBinarySearchResult (λ z. nat_cmp z y) places r → Rising 0 places
    → x < length places → slice_index places x ≡ y → ⊥
number_missed places y x r i is found h lt there =
    let ends = subst (λ (q : Result ℕ ℕ). MatchResult q (λ i. (i < length places) × (get_or places i 0 ≡ y))
    (λ i. (i ≤ length places) × ((k : ℕ) → k < i → get_or places k 0 < y) × ((k : ℕ) → i ≤ k → k < length places → y < get_or places k 0)))
    is (searched places y r found (rising-sorted places h)) in
    elim (cases_lt x i) [
      | inl less ↦ let below = ends.1 x less in absurd (omega (arith, below, there))
      | inr more ↦ let above = ends.2 x more lt in absurd (omega (arith, above, there))
    ]

-- The first link that passes a test, as links are added and counted.
use Rattle.std.proofs.Common.{ℕ, zero, suc, ◌+◌, ◌≡◌, Bool, true, false, inl, inr, List, [], ◌∷◌, ◌++◌, length, Some, None, slice_get, set, refl, sym, ap, ◌∙◌, arith}
use Rattle.std.proofs.lemmas.Bool.{cases_Bool}
use Rattle.md_dynamic.specs.declared.link.LinkRow.{LinkRow}
use Rattle.md_dynamic.specs.Links.{number_from, number_of}

-- tests that agree on all links find the same one
pub number-same : (p q : LinkRow → Bool) (n : ℕ) (ls : List LinkRow) → ((k : ℕ) (l : LinkRow) → slice_get ls k ≡ Some l → p l ≡ q l) → number_from p n ls ≡ number_from q n ls
number-same p q n [] same = refl
number-same p q n (l ∷ ls) same =
    let rest = number-same p q (suc n) ls (λ k x is. same (suc k) x is) in
    let here = same 0 l refl in
    elim (cases_Bool (q l)) [
      | inl good ↦ rw (here ∙ good) rw good refl
      | inr bad ↦ rw (here ∙ bad) rw bad rest
    ]

-- what was found passes, and is there
pub number-some : (p : LinkRow → Bool) (n : ℕ) (ls : List LinkRow) (k : ℕ) → number_from p n ls ≡ Some k → (j : ℕ) × (l : LinkRow) × (k ≡ n + j) × (slice_get ls j ≡ Some l) × (p l ≡ true)
number-some p n [] k is = absurd (cc)
number-some p n (l ∷ ls) k is =
    elim (cases_Bool (p l)) [
      | inl good ↦ (let e : Some n ≡ Some k = rw good at is in let f : n ≡ k = cc in (0, l, omega (arith, f), refl, good))
      | inr bad ↦ (let rest = number-some p (suc n) ls k (rw bad at is) in (suc rest.0, rest.1, omega (arith, rest.2), rest.3, rest.4))
    ]

-- where none was found none passes
pub number-none : (p : LinkRow → Bool) (n : ℕ) (ls : List LinkRow) → number_from p n ls ≡ None → (k : ℕ) (l : LinkRow) → slice_get ls k ≡ Some l → p l ≡ false
number-none p n [] is k l at = absurd (cc)
number-none p n (x ∷ ls) is zero l at =
    let e : x ≡ l = cc in
    elim (cases_Bool (p x)) [
      | inl good ↦ absurd (let f : Some n ≡ None = rw good at is in cc)
      | inr bad ↦ ap p (sym e) ∙ bad
    ]
number-none p n (x ∷ ls) is (suc k) l at =
    elim (cases_Bool (p x)) [
      | inl good ↦ absurd (let f : Some n ≡ None = rw good at is in cc)
      | inr bad ↦ number-none p (suc n) ls (rw bad at is) k l at
    ]

pub none-passes : (p : LinkRow → Bool) (n : ℕ) (ls : List LinkRow) → ((k : ℕ) (l : LinkRow) → slice_get ls k ≡ Some l → p l ≡ false) → number_from p n ls ≡ None
none-passes p n [] fails = refl
none-passes p n (l ∷ ls) fails = rw (fails 0 l refl) (none-passes p (suc n) ls (λ k x is. fails (suc k) x is))

-- a link that doesn't pass is put behind the others
pub number-other : (p : LinkRow → Bool) (n : ℕ) (ls : List LinkRow) (l : LinkRow) → p l ≡ false → number_from p n (ls ++ l ∷ []) ≡ number_from p n ls
number-other p n [] l bad = rw bad refl
number-other p n (x ∷ ls) l bad =
    let rest = number-other p (suc n) ls l bad in
    elim (cases_Bool (p x)) [
      | inl good ↦ rw good refl
      | inr fails ↦ rw fails rest
    ]

-- the first stays the first
pub number-first : (p : LinkRow → Bool) (n : ℕ) (ls : List LinkRow) (l : LinkRow) (k : ℕ) → number_from p n ls ≡ Some k → number_from p n (ls ++ l ∷ []) ≡ Some k
number-first p n [] l k is = absurd (cc)
number-first p n (x ∷ ls) l k is =
    elim (cases_Bool (p x)) [
      | inl good ↦ (let e : Some n ≡ Some k = rw good at is in rw good e)
      | inr bad ↦ (let rest = number-first p (suc n) ls l k (rw bad at is) in rw bad rest)
    ]

-- one that passes is the first where there was none
pub number-new : (p : LinkRow → Bool) (n : ℕ) (ls : List LinkRow) (l : LinkRow) → number_from p n ls ≡ None → p l ≡ true → number_from p n (ls ++ l ∷ []) ≡ Some (n + length ls)
number-new p n [] l none good = (let e : n ≡ n + 0 = omega arith in rw good (ap Some e))
number-new p n (x ∷ ls) l none good =
    elim (cases_Bool (p x)) [
      | inl has ↦ absurd (let f : Some n ≡ None = rw has at none in cc)
      | inr fails ↦ (let rest = number-new p (suc n) ls l (rw fails at none) good in let e : suc n + length ls ≡ n + suc (length ls) = omega arith in rw fails (rest ∙ ap Some e))
    ]

-- a link is changed to one that passes exactly where it did
pub number-set : (p : LinkRow → Bool) (n : ℕ) (ls : List LinkRow) (k : ℕ) (l m : LinkRow) → slice_get ls k ≡ Some l → p m ≡ p l → number_from p n (set ls k m) ≡ number_from p n ls
number-set p n [] k l m at same = absurd (cc)
number-set p n (x ∷ ls) zero l m at same =
    let e : x ≡ l = cc in
    elim (cases_Bool (p x)) [
      | inl good ↦ (let f : p m ≡ true = same ∙ ap p (sym e) ∙ good in rw f rw good refl)
      | inr bad ↦ (let f : p m ≡ false = same ∙ ap p (sym e) ∙ bad in rw f rw bad refl)
    ]
number-set p n (x ∷ ls) (suc k) l m at same =
    let rest = number-set p (suc n) ls k l m at same in
    elim (cases_Bool (p x)) [
      | inl good ↦ rw good refl
      | inr bad ↦ rw bad rest
    ]

-- what was found is below the number of links
pub number-below : (p : LinkRow → Bool) (ls : List LinkRow) (k : ℕ) → number_of p ls ≡ Some k → (l : LinkRow) × (slice_get ls k ≡ Some l) × (p l ≡ true)
number-below p ls k is =
    let at = number-some p 0 ls k is in
    let e : k ≡ at.0 = omega (arith, at.2) in
    (at.1, ap (slice_get ls) e ∙ at.3, at.4)

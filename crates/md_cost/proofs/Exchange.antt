-- Sums by key are sums over links: what each context sums over the links whose line has it, a key sums over the links
-- whose line has a context of that key, where no line has two.
use Rattle.std.proofs.Common.{◌≡◌, ℕ, zero, suc, ◌+◌, ◌<◌, ◌≤◌, Bool, true, false, ◌&&◌, ◌||◌, eqb, ltb, cond, List, [], ◌∷◌, get_or, Option, Some, refl, sym, ap, ◌∙◌, inl, inr, arith}
use Rattle.std.specs.List.{list_any, slice_get, sum_by}
use Rattle.std.proofs.lemmas.Bool.{cases_eq, cases_order, cases_Bool, eq-eqb, ne_eqb, lt-ltb, le-ltb, ltb-true, and_parts, false≢true}
use Rattle.std.proofs.lemmas.List.Sums.{sum_by-cons}
use Rattle.md_base.specs.declared.measure.Measure.{Measure}
use Rattle.md_base.specs.Counts.{count_of}
use Rattle.md_trace.specs.Context.{same_option}
use Rattle.md_dynamic.specs.declared.link.LinkRow.{LinkRow}
use Rattle.md_cost.specs.declared.sums.Sums.{Sums}
use Rattle.md_cost.specs.SumOf.{sum_of, zero_sums}
use Rattle.md_cost.specs.Totals.{sum_where}
use Rattle.md_cost.specs.Keys.{key_sum}
use Rattle.md_cost.proofs.SumSteps.{sum_of_both, sum_same}

pub any_same : (p q : ℕ → Bool) (xs : List ℕ) → ((e : ℕ) → p e ≡ q e) → list_any p xs ≡ list_any q xs
any_same p q [] same = refl
any_same p q (x ∷ xs) same = rw (same x, any_same p q xs same) refl

shuffled : (a b c d : Bool) → ((a || b) || (c || d)) ≡ ((a || c) || (b || d))
shuffled true b c d = refl
shuffled false true true d = refl
shuffled false true false d = refl
shuffled false false c d = refl

pub any_or : (p q : ℕ → Bool) (xs : List ℕ) → list_any (λ e. p e || q e) xs ≡ (list_any p xs || list_any q xs)
any_or p q [] = refl
any_or p q (x ∷ xs) = rw (any_or p q xs) (shuffled (p x) (q x) (list_any p xs) (list_any q xs))

pub any_none : (p : ℕ → Bool) (xs : List ℕ) → ((e : ℕ) → p e ≡ false) → list_any p xs ≡ false
any_none p [] none = refl
any_none p (x ∷ xs) none = rw (none x) (any_none p xs none)

-- one that passes, and is on the list
pub any_witness : (p : ℕ → Bool) (xs : List ℕ) → list_any p xs ≡ true → (e : ℕ) × (p e ≡ true) × (list_any (λ x. eqb x e) xs ≡ true)
any_witness p [] h = absurd (false≢true h)
any_witness p (x ∷ xs) h = elim (cases_Bool (p x)) as (λ _. (e : ℕ) × (p e ≡ true) × (list_any (λ y. eqb y e) (x ∷ xs) ≡ true)) [
  | inl holds ↦ (x, holds, rw (eq-eqb x x refl) refl)
  | inr fails ↦ (let r = any_witness p xs (rw fails at h) in (r.0, r.1, rw r.2 (or_true (eqb x r.0))))
]
  where
    or_true : (b : Bool) → (b || true) ≡ true
    or_true true = refl
    or_true false = refl

pub any_member : (p : ℕ → Bool) (xs : List ℕ) (e : ℕ) → list_any (λ x. eqb x e) xs ≡ true → p e ≡ true → list_any p xs ≡ true
any_member p [] e on holds = absurd (false≢true on)
any_member p (x ∷ xs) e on holds = elim (cases_eq x e) [
  | inl same ↦ (let at : p x ≡ true = rw same holds in rw at refl)
  | inr other ↦ (let rest = any_member p xs e (rw (ne_eqb x e other) at on) holds in rw rest (or_true (p x)))
]
  where
    or_true : (b : Bool) → (b || true) ≡ true
    or_true true = refl
    or_true false = refl

nothing : (xs : List LinkRow) → sum_by (λ _. 0) xs ≡ 0
nothing [] = refl
nothing (x ∷ xs) = let first = sum_by-cons (λ (_ : LinkRow). 0) x xs in let rest = nothing xs in omega arith

counted : (b a : Bool) (x : ℕ) → (a ≡ true → b ≡ true → ⊥) → cond (b || a) x 0 ≡ cond b x 0 + cond a x 0
counted true true x apart = absurd (apart refl refl)
counted true false x apart = omega arith
counted false true x apart = omega arith
counted false false x apart = omega arith

module _ (rows : List LinkRow) (line : LinkRow → List ℕ) (key : ℕ → Option ℕ) (values : List Sums) (n : ℕ)
    (values_are : (d : ℕ) (m : Measure) → d < n → sum_of (get_or values d zero_sums) m ≡ sum_where (λ r. list_any (λ e. eqb e d) (line r)) m rows)
    (alone : (i : ℕ) (r : LinkRow) → slice_get rows i ≡ Some r → (q d e : ℕ) → same_option (Some q) (key d) ≡ true → same_option (Some q) (key e) ≡ true → list_any (λ x. eqb x d) (line r) ≡ true → list_any (λ x. eqb x e) (line r) ≡ true → d ≡ e) where
  abbrev has : ℕ → ℕ → Bool
  has q e = same_option (Some q) (key e)

  and_false : (b : Bool) → (b && false) ≡ false
  and_false true = refl
  and_false false = refl

  -- one place further
  same_there : (q i e : ℕ) → has q i ≡ false → (ltb e (suc i) && has q e) ≡ (ltb e i && has q e)
  same_there q i e none = elim (cases_order e i) [
    | inl same ↦ rw same (rw none (and_false (ltb i (suc i)) ∙ sym (and_false (ltb i i))))
    | inr apart ↦ elim apart [
      | inl lower ↦ rw (lt-ltb e (suc i) (omega arith), lt-ltb e i lower) refl
      | inr higher ↦ rw (le-ltb e (suc i) (omega arith), le-ltb e i (omega arith)) refl
    ]
  ]

  more_there : (q i e : ℕ) → has q i ≡ true → (ltb e (suc i) && has q e) ≡ ((ltb e i && has q e) || eqb e i)
  more_there q i e some = elim (cases_order e i) [
    | inl same ↦ rw same (rw (some, lt-ltb i (suc i) (omega arith), le-ltb i i (omega arith), eq-eqb i i refl) refl)
    | inr apart ↦ elim apart [
      | inl lower ↦ rw (lt-ltb e (suc i) (omega arith), lt-ltb e i lower, ne_eqb e i (λ s. absurd (omega arith))) (or_false (has q e))
      | inr higher ↦ rw (le-ltb e (suc i) (omega arith), le-ltb e i (omega arith), ne_eqb e i (λ s. absurd (omega arith))) refl
    ]
  ]
    where
      or_false : (b : Bool) → b ≡ (b || false)
      or_false true = refl
      or_false false = refl

  pub upto : (i q : ℕ) (m : Measure) → i ≤ n → key_sum key values i q m ≡ sum_where (λ r. list_any (λ e. ltb e i && same_option (Some q) (key e)) (line r)) m rows
  upto zero q m le = sym (sum_same (λ r. cond (list_any (λ e. ltb e 0 && has q e) (line r)) (count_of r.own m) 0) (λ _. 0) rows (λ i r at. rw (any_none (λ e. ltb e 0 && has q e) (line r) (λ e. rw (le-ltb e 0 (omega arith)) refl)) refl) ∙ nothing rows)
  upto (suc i) q m le = elim (cases_Bool (has q i)) [
    | inl some ↦ (
        let before = upto i q m (omega arith) in
        let value = values_are i m (omega arith) in
        let both = sum_of_both
        (λ r. cond (list_any (λ e. ltb e (suc i) && has q e) (line r)) (count_of r.own m) 0)
        (λ r. cond (list_any (λ e. ltb e i && has q e) (line r)) (count_of r.own m) 0)
        (λ r. cond (list_any (λ e. eqb e i) (line r)) (count_of r.own m) 0)
        rows
        (λ p r at.
        let split = any_same (λ e. ltb e (suc i) && has q e) (λ e. (ltb e i && has q e) || eqb e i) (line r) (λ e. more_there q i e some) ∙ any_or (λ e. ltb e i && has q e) (λ e. eqb e i) (line r) in
        ap (λ (b : Bool). cond b (count_of r.own m) 0) split
        ∙ counted (list_any (λ e. ltb e i && has q e) (line r)) (list_any (λ e. eqb e i) (line r)) (count_of r.own m)
        (λ on earlier.
        let w = any_witness (λ e. ltb e i && has q e) (line r) earlier in
        let parts = and_parts (ltb w.0 i) (has q w.0) w.1 in
        let same = alone p r at q w.0 i parts.1 some w.2 on in
        let lower = ltb-true w.0 i parts.0 in
        absurd (omega arith))) in
        rw some (omega arith))
    | inr none ↦ (
        let before = upto i q m (omega arith) in
        let same = sum_same
        (λ r. cond (list_any (λ e. ltb e (suc i) && has q e) (line r)) (count_of r.own m) 0)
        (λ r. cond (list_any (λ e. ltb e i && has q e) (line r)) (count_of r.own m) 0)
        rows
        (λ p r at. ap (λ (b : Bool). cond b (count_of r.own m) 0) (any_same (λ e. ltb e (suc i) && has q e) (λ e. ltb e i && has q e) (line r) (λ e. same_there q i e none))) in
        rw none (omega arith))
  ]

-- Items are threaded from the last one down.
use Rattle.std.proofs.Common.{◌≡◌, ◌≢◌, ℕ, zero, suc, ◌+◌, ◌<◌, ◌≤◌, List, [], ◌∷◌, length, get_or, set, map, replicate, Option, Some, None, refl, sym, ap, ◌∙◌, inl, inr, subst, arith}
use Rattle.std.proofs.lemmas.Bool.{cases_eq}
use Rattle.std.proofs.lemmas.List.{get_or-set_same, get_or-set_other, length-set, map-set, get_or-replicate, length-replicate}
use Rattle.md_cost.specs.Walking.{IsFirst, AreThreaded, AreUps, at_bound}

-- the items from i on are threaded
pub record Threaded (n : ℕ) (parent : ℕ → ℕ) (i : ℕ) (first next : List (Option ℕ)) : Type 0 where
  pub each_first : length first ≡ suc n
  pub each_next : length next ≡ n
  pub firsts : (p : ℕ) → p ≤ n → IsFirst n parent p i (get_or first p None)
  pub nexts : (d : ℕ) → i ≤ d → d < n → IsFirst n parent (parent d) (suc d) (get_or next d None)

module _ (n : ℕ) (parent : ℕ → ℕ) where
  wider : (p j : ℕ) (o : Option ℕ) → j ≢ n → parent j ≢ p → IsFirst n parent p (suc j) o → IsFirst n parent p j o
  wider p j None inside other is = λ d le lt. elim (cases_eq d j) [
    | inl same ↦ rw same other
    | inr apart ↦ is d (omega arith) lt
  ]
  wider p j (Some c) inside other is = (
    omega (arith, is.0),
    is.1,
    is.2,
    λ d le lt. elim (cases_eq d j) [
      | inl same ↦ rw same other
      | inr apart ↦ is.3 d (omega arith) lt
    ],
  )

  pub threaded_none : Threaded n parent n (replicate (suc n) None) (replicate n None)
  threaded_none = record {
    each_first = length-replicate (suc n) None;
    each_next = length-replicate n None;
    firsts = λ p le. subst (λ (o : Option ℕ). IsFirst n parent p n o) (sym (get_or-replicate {A = Option ℕ} (suc n) p None None (omega arith))) (λ d past lt. absurd (omega arith));
    nexts = λ d past lt. absurd (omega arith);
  }

  pub threaded_more : (j : ℕ) (first next : List (Option ℕ)) → j < n → parent j ≤ n → Threaded n parent (suc j) first next
      → Threaded n parent j (set first (parent j) (Some j)) (set next j (get_or first (parent j) None))
  threaded_more j first next lt le is = record {
    each_first = length-set first (parent j) (Some j) ∙ is.each_first;
    each_next = length-set next j (get_or first (parent j) None) ∙ is.each_next;
    firsts = λ p within. elim (cases_eq p (parent j)) [
      | inl same ↦ (
          let size = is.each_first in
          let it : get_or (set first (parent j) (Some j)) p None ≡ Some j = rw same (get_or-set_same first (parent j) (Some j) None (omega arith)) in
          subst (λ (o : Option ℕ). IsFirst n parent p j o) (sym it) (omega arith, lt, sym same, λ d le lt. absurd (omega arith)))
      | inr other ↦ (
          let it : get_or (set first (parent j) (Some j)) p None ≡ get_or first p None = get_or-set_other first (parent j) p (Some j) None other in
          subst (λ (o : Option ℕ). IsFirst n parent p j o) (sym it) (wider p j (get_or first p None) (λ e. absurd (omega arith)) (λ e. other (sym e)) (is.firsts p within)))
    ];
    nexts = λ d from there. elim (cases_eq d j) [
      | inl same ↦ (
          let size = is.each_next in
          let it : get_or (set next j (get_or first (parent j) None)) d None ≡ get_or first (parent j) None = rw same (get_or-set_same next j (get_or first (parent j) None) None (omega arith)) in
          subst (λ (o : Option ℕ). IsFirst n parent (parent d) (suc d) o) (sym it) (rw same (is.firsts (parent j) le)))
      | inr other ↦ (
          let it : get_or (set next j (get_or first (parent j) None)) d None ≡ get_or next d None = get_or-set_other next j d (get_or first (parent j) None) None other in
          subst (λ (o : Option ℕ). IsFirst n parent (parent d) (suc d) o) (sym it) (is.nexts d (omega arith) there))
    ];
  }

  pub threaded_all : (first next : List (Option ℕ)) → Threaded n parent 0 first next → AreThreaded n parent first next
  threaded_all first next is = record { each_first = is.each_first; firsts = is.firsts; nexts = record { each = is.each_next; is = λ d lt. is.nexts d (omega arith) lt } }

-- ---- bounds in place of items

pub bound_more : (j : ℕ) → at_bound (j + 1) ≡ Some j
bound_more j = let e : j + 1 ≡ suc j = omega arith in rw e refl

pub bound_at : (xs : List ℕ) (i : ℕ) → get_or (map at_bound xs) i None ≡ at_bound (get_or xs i 0)
bound_at [] i = refl
bound_at (x ∷ xs) zero = refl
bound_at (x ∷ xs) (suc i) = bound_at xs i

no_bounds : (n : ℕ) → map at_bound (replicate n 0) ≡ replicate n None
no_bounds zero = refl
no_bounds (suc n) = ap (λ (os : List (Option ℕ)). None ∷ os) (no_bounds n)

pub bounds_none : (n : ℕ) (parent : ℕ → ℕ) → Threaded n parent n (map at_bound (replicate (n + 1) 0)) (map at_bound (replicate n 0))
bounds_none n parent =
    let e : n + 1 ≡ suc n = omega arith in
    rw (e, no_bounds (suc n), no_bounds n) (threaded_none n parent)

pub bounds_more : (n : ℕ) (parent : ℕ → ℕ) (j : ℕ) (first next : List ℕ) → j < n → parent j ≤ n → Threaded n parent (suc j) (map at_bound first) (map at_bound next)
    → Threaded n parent j (map at_bound (set first (parent j) (j + 1))) (map at_bound (set next j (get_or first (parent j) 0)))
bounds_more n parent j first next lt le is =
    rw (map-set at_bound first (parent j) (j + 1), map-set at_bound next j (get_or first (parent j) 0), bound_more j, ← bound_at first (parent j))
    (threaded_more n parent j (map at_bound first) (map at_bound next) lt le is)

-- the parents from item i on are kept
pub record Upped (n : ℕ) (parent : ℕ → ℕ) (i : ℕ) (up : List ℕ) : Type 0 where
  pub each : length up ≡ n
  pub is : (d : ℕ) → i ≤ d → d < n → get_or up d 0 ≡ parent d

pub upped_none : (n : ℕ) (parent : ℕ → ℕ) → Upped n parent n (replicate n 0)
upped_none n parent = record { each = length-replicate n 0; is = λ d past lt. absurd (omega arith) }

pub upped_more : (n : ℕ) (parent : ℕ → ℕ) (j : ℕ) (up : List ℕ) → j < n → Upped n parent (suc j) up → Upped n parent j (set up j (parent j))
upped_more n parent j up lt is = record {
  each = length-set up j (parent j) ∙ is.each;
  is = λ d from there. elim (cases_eq d j) [
    | inl same ↦ (let size = is.each in rw same (get_or-set_same up j (parent j) 0 (omega arith)))
    | inr other ↦ get_or-set_other up j d (parent j) 0 other ∙ is.is d (omega arith) there
  ];
}

pub upped_all : (n : ℕ) (parent : ℕ → ℕ) (up : List ℕ) → Upped n parent 0 up → AreUps n parent up
upped_all n parent up is = record { each = is.each; is = λ d lt. is.is d (omega arith) lt }

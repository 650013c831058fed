-- A list is gone through, and each member is looked up among those before it.
use Rattle.std.proofs.Common.{◌≡◌, ◌≢◌, ℕ, ◌+◌, ◌<◌, Bool, true, false, not, ◌||◌, cond, List, length, take, get_or, refl, sym, ◌∙◌, ap, arith, inl, inr}
use Rattle.std.proofs.lemmas.List.{get_or-take, length-take-le, get_or_default}
use Rattle.std.proofs.lemmas.List.Folds.{Any-from_list_any, list_any_at, list_any_more}
use Rattle.std.proofs.lemmas.Bool.{cases_lt}
use Rattle.std.specs.List.{list_any}
use Rattle.std.specs.Ordering.{is_eq}
use Rattle.std.specs.declared.cmp.Ordering.{Ordering}
use Rattle.std.specs.declared.cmp.Ordering.TheVariants.{Less, Equal, Greater}
use Rattle.md_base.specs.Distinct.{AllDiffer}

told_equal : (o : Ordering) → is_eq o ≡ true → o ≡ Equal
told_equal Less told = absurd (cc told)
told_equal Equal told = refl
told_equal Greater told = absurd (cc told)

either : (b a : Bool) → cond b true a ≡ (a || b)
either true true = refl
either true false = refl
either false true = refl
either false false = refl

pub was_there : (was added : Bool) → added ≡ not was → added ≡ false → was ≡ true
was_there true added is told = refl
was_there false added is told = cc (is, told)

pub was_not_there : (was added : Bool) → added ≡ not was → added ≡ true → was ≡ false
was_not_there true added is told = cc (is, told)
was_not_there false added is told = refl

module _ {K : Type 0} (cmp : K → K → Ordering) (keys : List K) (i : ℕ) (key : K) (within : i < length keys) (is : key ≡ get_or keys i key) where
  abbrev same_as : K → K → Bool
  same_as q x = is_eq (cmp x q)

  at_any : (d : K) → get_or keys i d ≡ key
  at_any d = get_or_default keys i d key within ∙ sym is

  -- a member that was seen is equal to an earlier one
  pub seen_before : (seen : K → Bool) → ((q : K) → seen q ≡ list_any (same_as q) (take i keys)) → seen key ≡ true → AllDiffer cmp keys → ⊥
  seen_before seen members found differ =
      let any = Any-from_list_any (same_as key) (take i keys) (sym (members key) ∙ found) in
      let size : length (take i keys) ≡ i = length-take-le i keys (omega arith) in
      let before : any.0 < i = omega (arith, any.2, size) in
      let x : K = any.1 in
      let at : get_or keys any.0 key ≡ x = get_or_default keys any.0 key x (omega arith) ∙ sym (get_or-take i keys any.0 x before) ∙ any.3 in
      let same : cmp x key ≡ Equal = told_equal (cmp x key) any.4 in
      differ any.0 i key before within (ap (λ (y : K). cmp y (get_or keys i key)) at ∙ ap (λ (y : K). cmp x y) (sym is) ∙ same)

  -- a member that wasn't seen differs from each earlier one
  pub still_differ : (seen : K → Bool) → ((q : K) → seen q ≡ list_any (same_as q) (take i keys)) → seen key ≡ false
      → ((a b : ℕ) (d : K) → a < b → b < i → cmp (get_or keys a d) (get_or keys b d) ≢ Equal)
      → (a b : ℕ) (d : K) → a < b → b < i + 1 → cmp (get_or keys a d) (get_or keys b d) ≢ Equal
  still_differ seen members new differ a b d less more same = elim (cases_lt b i) [
    | inl before ↦ differ a b d less before same
    | inr now ↦
        let here : b ≡ i = omega arith in
        let size : length (take i keys) ≡ i = length-take-le i keys (omega arith) in
        let equal : cmp (get_or keys a d) key ≡ Equal = ap (λ (y : K). cmp (get_or keys a d) y) (sym (at_any d) ∙ ap (λ (j : ℕ). get_or keys j d) (sym here)) ∙ same in
        let at : get_or (take i keys) a d ≡ get_or keys a d = get_or-take i keys a d (omega arith) in
        let passes : same_as key (get_or (take i keys) a d) ≡ true = ap (λ (y : K). is_eq (cmp y key)) at ∙ ap is_eq equal in
        let found : list_any (same_as key) (take i keys) ≡ true = list_any_at (same_as key) (take i keys) a d (omega arith) passes in
        cc (members key, new, found)
  ]

  -- what is seen after one more
  pub seen_after : (seen now : K → Bool) → ((q : K) → seen q ≡ list_any (same_as q) (take i keys)) → ((q : K) → now q ≡ cond (is_eq (cmp key q)) true (seen q))
      → (q : K) → now q ≡ list_any (same_as q) (take (i + 1) keys)
  seen_after seen now members more q =
      more q ∙ either (is_eq (cmp key q)) (seen q)
      ∙ ap (λ (b : Bool). b || is_eq (cmp key q)) (members q)
      ∙ ap (λ (y : K). list_any (same_as q) (take i keys) || is_eq (cmp y q)) is
      ∙ sym (list_any_more (same_as q) keys i key within)

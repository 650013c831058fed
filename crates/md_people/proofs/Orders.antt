-- A list in order by counts is the one that the numbers ranked give: there is only one such list of the same numbers.
use Rattle.std.proofs.Common.{◌≡◌, ℕ, suc, ◌+◌, ◌<◌, ◌≤◌, Bool, true, false, eqb, cond, List, [], ◌∷◌, map, refl, sym, ap, ◌∙◌, ◌⊎◌, inl, inr, arith}
use Rattle.std.specs.Prelude.{All}
use Rattle.std.specs.List.{sum_by}
use Rattle.std.specs.List.Sorted.{IsPermutation, IsSortedBy}
use Rattle.std.specs.Ordering.{is_lt, nat_cmp, ordering_then}
use Rattle.std.specs.declared.cmp.Reverse.{Reverse}
use Rattle.std.proofs.lemmas.Bool.{cases_eq, cases_lt, cases_Bool, eq-eqb, ne_eqb, lt-ltb, le-ltb}
use Rattle.std.proofs.lemmas.List.Elements.{All-nil, All-cons, All-head, All-tail}
use Rattle.std.proofs.lemmas.List.Sorted.{IsPermutation-map, All-permutation, sum_by-IsPermutation}
use Rattle.std.proofs.lemmas.List.Sums.{sum_by-cons}
use Rattle.md_people.specs.Ranked.{comes_before, ranked_with, ranked}

-- how many times a number is in a list
abbrev pub one_of : ℕ → ℕ → ℕ
one_of z x = cond (eqb x z) 1 0

abbrev pub times : ℕ → List ℕ → ℕ
times z xs = sum_by (one_of z) xs

pub same_one : (z x : ℕ) → x ≡ z → one_of z x ≡ 1
same_one z x e = ap (λ (b : Bool). cond b 1 0) (eq-eqb x z e)

pub other_one : (z x : ℕ) → (x ≡ z → ⊥) → one_of z x ≡ 0
other_one z x ne = ap (λ (b : Bool). cond b 1 0) (ne_eqb x z ne)

module _ (count : ℕ → ℕ) where
  -- x has more than y, or as many and no greater number
  pub record IsAhead (x y : ℕ) : Type 0 where
    pub more : count y ≤ count x
    pub ties : count x ≡ count y → x ≤ y

  abbrev pub Leads : ℕ → List ℕ → Type 0
  Leads x [] = Unit {0}
  Leads x (y ∷ ys) = IsAhead x y × Leads x ys

  abbrev pub InOrder : List ℕ → Type 0
  InOrder [] = Unit {0}
  InOrder (x ∷ xs) = Leads x xs × InOrder xs

  pub ahead_through : (x y z : ℕ) → IsAhead x y → IsAhead y z → IsAhead x z
  ahead_through x y z a b =
      let am = a.more in let bm = b.more in record {
        more = omega arith;
        ties = λ e. (let at = a.ties (omega arith) in let bt = b.ties (omega arith) in omega arith);
      }

  leads_through : (x y : ℕ) (zs : List ℕ) → IsAhead x y → Leads y zs → Leads x zs
  leads_through x y [] a l = tt
  leads_through x y (z ∷ zs) a l = (ahead_through x y z a l.0, leads_through x y zs a l.1)

  leads_at : (x z : ℕ) (ys : List ℕ) → Leads x ys → 0 < times z ys → IsAhead x z
  leads_at x z [] l some = absurd (omega arith)
  leads_at x z (y ∷ ys) l some =
      let split = sum_by-cons (one_of z) y ys in
      elim (cases_eq y z) [
        | inl e ↦ rw (← e) (l.0)
        | inr ne ↦ (let no = other_one z y ne in leads_at x z ys l.1 (omega arith))
      ]

  one_ahead : (x y : ℕ) → IsAhead x y → IsAhead y x → x ≡ y
  one_ahead x y a b =
      let am = a.more in let bm = b.more in let at = a.ties (omega arith) in let bt = b.ties (omega arith) in omega arith

  pub one_order : (xs ys : List ℕ) → InOrder xs → InOrder ys → ((z : ℕ) → times z xs ≡ times z ys) → xs ≡ ys
  one_order [] [] a b same = refl
  one_order [] (y ∷ ys) a b same =
      let e = same y in let split = sum_by-cons (one_of y) y ys in let one = same_one y y refl in absurd (omega arith)
  one_order (x ∷ xs) [] a b same =
      let e = same x in let split = sum_by-cons (one_of x) x xs in let one = same_one x x refl in absurd (omega arith)
  one_order (x ∷ xs) (y ∷ ys) a b same = elim (cases_eq x y) [
    | inl e ↦ (
        let rest = one_order xs ys a.1 b.1 (λ z.
        let s = same z in
        let l = sum_by-cons (one_of z) x xs in
        let r = sum_by-cons (one_of z) y ys in
        let o : one_of z x ≡ one_of z y = ap (one_of z) e in
        omega arith) in
        rw (e, rest) refl)
    | inr ne ↦ (
        let sx = same x in
        let sy = same y in
        let xx = sum_by-cons (one_of x) x xs in
        let xy = sum_by-cons (one_of x) y ys in
        let yx = sum_by-cons (one_of y) x xs in
        let yy = sum_by-cons (one_of y) y ys in
        let x_one = same_one x x refl in
        let y_one = same_one y y refl in
        let no_x = other_one x y (λ e. ne (sym e)) in
        let no_y = other_one y x ne in
        absurd (ne (one_ahead x y (leads_at x y xs a.0 (omega arith)) (leads_at y x ys b.0 (omega arith)))))
  ]

  -- ---- the numbers ranked

  decide : (q r : ℕ) → ((comes_before count q r ≡ true) × IsAhead q r) ⊎ ((comes_before count q r ≡ false) × IsAhead r q)
  decide q r = elim (cases_lt (count r) (count q)) [
    | inl more ↦ inl (rw (lt-ltb (count r) (count q) more) refl, record { more = omega arith; ties = λ e. absurd (omega arith) })
    | inr no_more ↦ elim (cases_eq (count q) (count r)) [
      | inl tie ↦ elim (cases_lt q r) [
        | inl lower ↦ inl (rw (le-ltb (count r) (count q) no_more, eq-eqb (count q) (count r) tie, lt-ltb q r lower) refl, record { more = omega arith; ties = λ e. omega arith })
        | inr higher ↦ inr (rw (le-ltb (count r) (count q) no_more, eq-eqb (count q) (count r) tie, le-ltb q r higher) refl, record { more = omega arith; ties = λ e. higher })
      ]
      | inr apart ↦ inr (rw (le-ltb (count r) (count q) no_more, ne_eqb (count q) (count r) apart) refl, record { more = no_more; ties = λ e. absurd (apart (sym e)) })
    ]
  ]

  leads_with : (x q : ℕ) (rs : List ℕ) → IsAhead x q → Leads x rs → Leads x (ranked_with count q rs)
  leads_with x q [] a l = (a, tt)
  leads_with x q (r ∷ rs) a l = elim (decide q r) [
    | inl d ↦ rw d.0 (a, l)
    | inr d ↦ rw d.0 (l.0, leads_with x q rs a l.1)
  ]

  order_with : (q : ℕ) (rs : List ℕ) → InOrder rs → InOrder (ranked_with count q rs)
  order_with q [] o = (tt, tt)
  order_with q (r ∷ rs) o = elim (decide q r) [
    | inl d ↦ rw d.0 ((d.1, leads_through q r rs d.1 o.0), o)
    | inr d ↦ rw d.0 (leads_with r q rs d.1 o.0, order_with q rs o.1)
  ]

  pub order_ranked : (qs : List ℕ) → InOrder (ranked count qs)
  order_ranked [] = tt
  order_ranked (q ∷ qs) = order_with q (ranked count qs) (order_ranked qs)

  times_with : (z q : ℕ) (rs : List ℕ) → times z (ranked_with count q rs) ≡ one_of z q + times z rs
  times_with z q [] = sum_by-cons (one_of z) q []
  times_with z q (r ∷ rs) =
      let split = sum_by-cons (one_of z) r rs in
      elim (decide q r) [
        | inl d ↦ rw d.0 (sum_by-cons (one_of z) q (r ∷ rs))
        | inr d ↦ (let rest = times_with z q rs in let more = sum_by-cons (one_of z) r (ranked_with count q rs) in rw d.0 (omega arith))
      ]

  pub times_ranked : (z : ℕ) (qs : List ℕ) → times z (ranked count qs) ≡ times z qs
  times_ranked z [] = refl
  times_ranked z (q ∷ qs) = let rest = times_ranked z qs in let with_q = times_with z q (ranked count qs) in let split = sum_by-cons (one_of z) q qs in omega arith

  -- what holds of each number holds of each one ranked
  all_with : (P : ℕ → Type 0) (q : ℕ) (rs : List ℕ) → P q → All P rs → All P (ranked_with count q rs)
  all_with P q [] h all = All-cons P q [] h all
  all_with P q (r ∷ rs) h all = elim (cases_Bool (comes_before count q r)) [
    | inl before ↦ rw before (All-cons P q (r ∷ rs) h all)
    | inr after ↦ rw after (All-cons P r (ranked_with count q rs) (All-head P r rs all) (all_with P q rs h (All-tail P r rs all)))
  ]

  pub all_ranked : (P : ℕ → Type 0) (qs : List ℕ) → All P qs → All P (ranked count qs)
  all_ranked P [] all = All-nil P
  all_ranked P (q ∷ qs) all = all_with P q (ranked count qs) (All-head P q qs all) (all_ranked P qs (All-tail P q qs all))

  -- ---- what a sort gives

  abbrev pub Pair : Type 0
  Pair = Reverse ℕ × ℕ

  abbrev pub less : Pair → Pair → Bool
  less x y = is_lt (ordering_then (nat_cmp y.0.0 x.0.0) (nat_cmp x.1 y.1))

  ahead_from : (x y : Pair) → less y x ≡ false → x.0.0 ≡ count x.1 → y.0.0 ≡ count y.1 → IsAhead x.1 y.1
  ahead_from x y refuses cx cy = elim (cases_lt x.0.0 y.0.0) [
    | inl fewer ↦ (let e : less y x ≡ true = rw (lt-ltb x.0.0 y.0.0 fewer) refl in cc)
    | inr enough ↦ elim (cases_eq x.0.0 y.0.0) [
      | inl tie ↦ elim (cases_lt y.1 x.1) [
        | inl lower ↦ (let e : less y x ≡ true = rw (le-ltb x.0.0 y.0.0 enough, eq-eqb x.0.0 y.0.0 tie, lt-ltb y.1 x.1 lower) refl in cc)
        | inr higher ↦ record { more = omega arith; ties = λ e. higher }
      ]
      | inr apart ↦ record { more = omega arith; ties = λ e. absurd (apart (omega arith)) }
    ]
  ]

  sorted_tail : (x : Pair) (xs : List Pair) → IsSortedBy less (x ∷ xs) → IsSortedBy less xs
  sorted_tail x xs sorted k d low lt = let e : suc k + 1 ≡ suc (k + 1) = omega arith in rw e at (sorted (suc k) d (omega arith) (omega arith))

  leads_from : (x : Pair) (xs : List Pair) → IsSortedBy less (x ∷ xs) → All (λ (p : Pair). p.0.0 ≡ count p.1) (x ∷ xs) → InOrder (map (λ (p : Pair). p.1) xs) → Leads x.1 (map (λ (p : Pair). p.1) xs)
  leads_from x [] sorted counts o = tt
  leads_from x (y ∷ ys) sorted counts o =
      let ahead = ahead_from x y (sorted 0 x (omega arith) (omega arith)) (counts 0 x (omega arith)) (counts 1 x (omega arith)) in
      (ahead, leads_through x.1 y.1 (map (λ (p : Pair). p.1) ys) ahead o.0)

  order_from : (xs : List Pair) → IsSortedBy less xs → All (λ (p : Pair). p.0.0 ≡ count p.1) xs → InOrder (map (λ (p : Pair). p.1) xs)
  order_from [] sorted counts = tt
  order_from (x ∷ xs) sorted counts =
      let rest = order_from xs (sorted_tail x xs sorted) (All-tail (λ (p : Pair). p.0.0 ≡ count p.1) x xs counts) in
      (leads_from x xs sorted counts rest, rest)

  pub ranked_from : (ids : List ℕ) (before after : List Pair) → map (λ (p : Pair). p.1) before ≡ ids → All (λ (p : Pair). p.0.0 ≡ count p.1) before → IsPermutation before after → IsSortedBy less after
      → map (λ (p : Pair). p.1) after ≡ ranked count ids
  ranked_from ids before after are counts moved sorted =
      one_order (map (λ (p : Pair). p.1) after) (ranked count ids) (order_from after sorted (All-permutation (λ (p : Pair). p.0.0 ≡ count p.1) before after moved counts)) (order_ranked ids) (λ z.
      sum_by-IsPermutation (one_of z) (map (λ (p : Pair). p.1) before) (map (λ (p : Pair). p.1) after) (IsPermutation-map (λ (p : Pair). p.1) before after moved) ∙ ap (times z) are ∙ sym (times_ranked z ids))

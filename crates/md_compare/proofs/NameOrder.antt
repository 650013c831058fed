-- A list of names in order is the one that the definition gives: there is only one such list of the same names.
use Rattle.std.proofs.Common.{◌≡◌, ℕ, suc, ◌+◌, ◌<◌, Bool, true, false, ◌&&◌, ◌||◌, eqb, ltb, cond, List, [], ◌∷◌, map, Ordering, Less, Equal, Greater, refl, sym, ap, ◌∙◌, ◌⊎◌, inl, inr, arith}
use Rattle.std.specs.Cmp.{IsTotalOrder}
use Rattle.std.specs.Cmp.Lexicographic.{slice_cmp}
use Rattle.std.specs.Prelude.{All}
use Rattle.std.specs.List.{sum_by}
use Rattle.std.specs.List.Sorted.{IsPermutation, IsSortedBy}
use Rattle.std.specs.Option.{option_cmp}
use Rattle.std.specs.Ordering.{is_eq, is_gt, is_lt, nat_cmp, ordering_reverse, ordering_then}
use Rattle.std.proofs.lemmas.Bool.{cases_Bool, cases_eq, cases_lt, eq-eqb, le-ltb, lt-ltb, ne_eqb}
use Rattle.std.proofs.lemmas.Cmp.{back_total, nat_cmp_total, nat_list_cmp_total, on_total, then_total, tied_back, tied_itself, upto}
use Rattle.std.proofs.lemmas.List.Elements.{All-tail}
use Rattle.std.proofs.lemmas.List.Sorted.{IsPermutation-map, sum_by-IsPermutation}
use Rattle.std.proofs.lemmas.List.Sums.{sum_by-cons}
use Rattle.std.proofs.lemmas.Map.Lookups.{CmpEqualImpliesEq, exact_bytes}
use Rattle.md_base.specs.declared.measure.Measure.{Measure}
use Rattle.md_cost.specs.View.{View}
use Rattle.md_people.specs.Compare.{difference, named_with, names_in_order, precedes}
use Rattle.md_compare.specs.Told.{IsToldOf, name_in}
use Rattle.md_compare.specs.declared.cost.Cost.{Cost}
use Rattle.md_compare.specs.declared.told.Told.{Told}

pub is_equal : (o : Ordering) → is_eq o ≡ true → o ≡ Equal
is_equal Less e = cc
is_equal Equal e = refl
is_equal Greater e = cc

not_above : (o : Ordering) → is_lt o ≡ true → is_gt o ≡ false
not_above Less e = refl
not_above Equal e = cc
not_above Greater e = cc

turned : (o : Ordering) → is_lt o ≡ false → is_gt (ordering_reverse o) ≡ false
turned Less e = cc
turned Equal e = refl
turned Greater e = refl

pub neither_way : (o : Ordering) → is_gt o ≡ false → is_gt (ordering_reverse o) ≡ false → is_eq o ≡ true
neither_way Less a b = cc
neither_way Equal a b = refl
neither_way Greater a b = cc

-- lists in an order that tells all keys apart
module _ {K : Type 0} (R : K → K → Ordering) (total : IsTotalOrder R) (exact : CmpEqualImpliesEq R) where
  -- how many times a key is in a list
  abbrev pub one_of : K → K → ℕ
  one_of z x = cond (is_eq (R x z)) 1 0

  abbrev pub times : K → List K → ℕ
  times z xs = sum_by (one_of z) xs

  abbrev pub IsAhead : K → K → Type 0
  IsAhead x y = is_gt (R x y) ≡ false

  abbrev pub Leads : K → List K → Type 0
  Leads x [] = Unit {0}
  Leads x (y ∷ ys) = IsAhead x y × Leads x ys

  abbrev pub InOrder : List K → Type 0
  InOrder [] = Unit {0}
  InOrder (x ∷ xs) = Leads x xs × InOrder xs

  same_one : (x : K) → one_of x x ≡ 1
  same_one x = ap (λ (o : Ordering). cond (is_eq o) 1 0) (tied_itself total x)

  other_one : (z x : K) → is_eq (R x z) ≡ false → one_of z x ≡ 0
  other_one z x ne = ap (λ (b : Bool). cond b 1 0) ne

  other_way : (x y : K) → is_eq (R x y) ≡ false → is_eq (R y x) ≡ false
  other_way x y ne = elim (cases_Bool (is_eq (R y x))) [
    | inl e ↦ (let tie : is_eq (R x y) ≡ true = ap is_eq (tied_back total y x (is_equal (R y x) e)) in cc)
    | inr fails ↦ fails
  ]

  pub leads_through : (x y : K) (zs : List K) → IsAhead x y → Leads y zs → Leads x zs
  leads_through x y [] a l = tt
  leads_through x y (z ∷ zs) a l = (upto total x y z a l.0, leads_through x y zs a l.1)

  leads_at : (x z : K) (ys : List K) → Leads x ys → 0 < times z ys → IsAhead x z
  leads_at x z [] l some = absurd (omega arith)
  leads_at x z (y ∷ ys) l some =
      let split = sum_by-cons (one_of z) y ys in
      elim (cases_Bool (is_eq (R y z))) [
        | inl e ↦ rw (← exact y z (is_equal (R y z) e)) (l.0)
        | inr ne ↦ (let no = other_one z y ne in leads_at x z ys l.1 (omega arith))
      ]

  pub one_order : (xs ys : List K) → InOrder xs → InOrder ys → ((z : K) → times z xs ≡ times z ys) → xs ≡ ys
  one_order [] [] a b same = refl
  one_order [] (y ∷ ys) a b same = let e = same y in let split = sum_by-cons (one_of y) y ys in let one = same_one y in absurd (omega arith)
  one_order (x ∷ xs) [] a b same = let e = same x in let split = sum_by-cons (one_of x) x xs in let one = same_one x in absurd (omega arith)
  one_order (x ∷ xs) (y ∷ ys) a b same = elim (cases_Bool (is_eq (R x y))) [
    | inl tie ↦ (
        let e : x ≡ y = exact x y (is_equal (R x y) tie) in
        let rest = one_order xs ys a.1 b.1 (λ z.
        let s = same z in
        let l = sum_by-cons (one_of z) x xs in
        let r = sum_by-cons (one_of z) y ys in
        let o : one_of z x ≡ one_of z y = ap (one_of z) e in
        omega arith) in
        rw (e, rest) refl)
    | inr apart ↦ (
        let back : is_eq (R y x) ≡ false = other_way x y apart in
        let sx = same x in
        let sy = same y in
        let xx = sum_by-cons (one_of x) x xs in
        let xy = sum_by-cons (one_of x) y ys in
        let yx = sum_by-cons (one_of y) x xs in
        let yy = sum_by-cons (one_of y) y ys in
        let x_one = same_one x in
        let y_one = same_one y in
        let no_x = other_one x y back in
        let no_y = other_one y x apart in
        let there = leads_at x y xs a.0 (omega arith) in
        let here = leads_at y x ys b.0 (omega arith) in
        let tie : is_eq (R x y) ≡ true = neither_way (R x y) there (sym (ap is_gt (total.antisymm y x)) ∙ here) in
        cc)
  ]

-- ---- the order of names

second_equal : (a b : Ordering) → ordering_then a b ≡ Equal → b ≡ Equal
second_equal Less b e = cc
second_equal Equal b e = e
second_equal Greater b e = cc

-- what comes behind the first two comparisons is nothing to the names
first_two : (a b rest : Ordering) → is_lt (ordering_then a (ordering_then b rest)) ≡ false → is_lt (ordering_then a b) ≡ false
first_two Less b rest e = e
first_two Equal Less rest e = e
first_two Equal Equal rest e = refl
first_two Equal Greater rest e = refl
first_two Greater b rest e = refl

before_told : (m n : ℕ) (o : Ordering) → (ltb m n || (eqb n m && is_lt o)) ≡ is_lt (ordering_then (nat_cmp m n) o)
before_told m n o = elim (cases_lt m n) [
  | inl less ↦ rw (lt-ltb m n less) refl
  | inr enough ↦ elim (cases_eq n m) [
    | inl tie ↦ rw (le-ltb m n enough, eq-eqb n m tie, eq-eqb m n (sym tie)) refl
    | inr apart ↦ rw (le-ltb m n enough, ne_eqb n m apart, ne_eqb m n (λ e. apart (sym e))) refl
  ]
]

module _ (v w : View) (by : Measure) where
  -- the greater difference comes first, and of equal ones the lower name
  abbrev pub order : List ℕ → List ℕ → Ordering
  order x y = ordering_then (nat_cmp (difference v w by y) (difference v w by x)) (slice_cmp nat_cmp x y)

  pub order_total : IsTotalOrder order
  order_total = then_total (back_total (on_total (difference v w by) nat_cmp_total)) nat_list_cmp_total

  pub order_exact : CmpEqualImpliesEq order
  order_exact x y e = exact_bytes x y (second_equal (nat_cmp (difference v w by y) (difference v w by x)) (slice_cmp nat_cmp x y) e)

  abbrev pub Ahead : List ℕ → List ℕ → Type 0
  Ahead = IsAhead order order_total order_exact

  abbrev pub LeadsAll : List ℕ → List (List ℕ) → Type 0
  LeadsAll = Leads order order_total order_exact

  abbrev pub AreInOrder : List (List ℕ) → Type 0
  AreInOrder = InOrder order order_total order_exact

  abbrev how_often : List ℕ → List (List ℕ) → ℕ
  how_often = times order order_total order_exact

  abbrev is_one : List ℕ → List ℕ → ℕ
  is_one = one_of order order_total order_exact

  behind : (x y : List ℕ) → is_lt (order x y) ≡ false → Ahead y x
  behind x y e = ap is_gt (order_total.antisymm y x) ∙ turned (order x y) e

  pub decide : (x y : List ℕ) → ((precedes v w by x y ≡ true) × Ahead x y) ⊎ ((precedes v w by x y ≡ false) × Ahead y x)
  decide x y =
      let told : precedes v w by x y ≡ is_lt (order x y) = before_told (difference v w by y) (difference v w by x) (slice_cmp nat_cmp x y) in
      elim (cases_Bool (is_lt (order x y))) [
        | inl less ↦ inl (told ∙ less, not_above (order x y) less)
        | inr not_less ↦ inr (told ∙ not_less, behind x y not_less)
      ]

  leads_with : (z x : List ℕ) (ys : List (List ℕ)) → Ahead z x → LeadsAll z ys → LeadsAll z (named_with v w by x ys)
  leads_with z x [] a l = (a, tt)
  leads_with z x (y ∷ ys) a l = elim (decide x y) [
    | inl d ↦ rw d.0 (a, l)
    | inr d ↦ rw d.0 (l.0, leads_with z x ys a l.1)
  ]

  order_with : (x : List ℕ) (ys : List (List ℕ)) → AreInOrder ys → AreInOrder (named_with v w by x ys)
  order_with x [] o = (tt, tt)
  order_with x (y ∷ ys) o = elim (decide x y) [
    | inl d ↦ rw d.0 ((d.1, leads_through order order_total order_exact x y ys d.1 o.0), o)
    | inr d ↦ rw d.0 (leads_with y x ys d.1 o.0, order_with x ys o.1)
  ]

  pub names_ordered : (xs : List (List ℕ)) → AreInOrder (names_in_order v w by xs)
  names_ordered [] = tt
  names_ordered (x ∷ xs) = order_with x (names_in_order v w by xs) (names_ordered xs)

  often_with : (z x : List ℕ) (ys : List (List ℕ)) → how_often z (named_with v w by x ys) ≡ is_one z x + how_often z ys
  often_with z x [] = sum_by-cons (is_one z) x []
  often_with z x (y ∷ ys) =
      let split = sum_by-cons (is_one z) y ys in
      elim (decide x y) [
        | inl d ↦ rw d.0 (sum_by-cons (is_one z) x (y ∷ ys))
        | inr d ↦ (let rest = often_with z x ys in let more = sum_by-cons (is_one z) y (named_with v w by x ys) in rw d.0 (omega arith))
      ]

  often_in_order : (z : List ℕ) (xs : List (List ℕ)) → how_often z (names_in_order v w by xs) ≡ how_often z xs
  often_in_order z [] = refl
  often_in_order z (x ∷ xs) =
      let rest = often_in_order z xs in
      let with_x = often_with z x (names_in_order v w by xs) in
      let split = sum_by-cons (is_one z) x xs in
      omega arith

  -- ---- what a sort gives

  module _ (rest : Told → Told → Ordering) where
    abbrev pub less : Told → Told → Bool
    less x y = is_lt (ordering_then (nat_cmp y.difference.0 x.difference.0) (ordering_then (slice_cmp nat_cmp x.name.items y.name.items) (rest x y)))

    ahead_from : (x y : Told) → less y x ≡ false → IsToldOf v w by x → IsToldOf v w by y → Ahead x.name.items y.name.items
    ahead_from x y refuses is_x is_y =
        let two = first_two (nat_cmp x.difference.0 y.difference.0) (slice_cmp nat_cmp y.name.items x.name.items) (rest y x) refuses in
        behind y.name.items x.name.items (rw (is_x.apart, is_y.apart) at two)

    sorted_tail : (x : Told) (xs : List Told) → IsSortedBy less (x ∷ xs) → IsSortedBy less xs
    sorted_tail x xs sorted k d low lt = let e : suc k + 1 ≡ suc (k + 1) = omega arith in rw e at (sorted (suc k) d (omega arith) (omega arith))

    leads_from : (x : Told) (xs : List Told) → IsSortedBy less (x ∷ xs) → All (IsToldOf v w by) (x ∷ xs) → AreInOrder (map name_in xs) → LeadsAll x.name.items (map name_in xs)
    leads_from x [] sorted told o = tt
    leads_from x (y ∷ ys) sorted told o =
        let ahead = ahead_from x y (sorted 0 x (omega arith) (omega arith)) (told 0 x (omega arith)) (told 1 x (omega arith)) in
        (ahead, leads_through order order_total order_exact x.name.items y.name.items (map name_in ys) ahead o.0)

    order_from : (xs : List Told) → IsSortedBy less xs → All (IsToldOf v w by) xs → AreInOrder (map name_in xs)
    order_from [] sorted told = tt
    order_from (x ∷ xs) sorted told =
        let others = order_from xs (sorted_tail x xs sorted) (All-tail (IsToldOf v w by) x xs told) in
        (leads_from x xs sorted told others, others)

    pub sorted_names : (names : List (List ℕ)) (before after : List Told) → map name_in before ≡ names → All (IsToldOf v w by) after → IsPermutation before after → IsSortedBy less after
        → map name_in after ≡ names_in_order v w by names
    sorted_names names before after are told moved sorted =
        one_order order order_total order_exact (map name_in after) (names_in_order v w by names) (order_from after sorted told) (names_ordered names) (λ z.
        sum_by-IsPermutation (is_one z) (map name_in before) (map name_in after) (IsPermutation-map name_in before after moved) ∙ ap (how_often z) are ∙ sym (often_in_order z names))

-- ---- names that tie are not told apart by what they cost

abbrev cost_cmp : Cost → Cost → Ordering
cost_cmp x y = ordering_then (nat_cmp x.own y.own) (nat_cmp x.total y.total)

abbrev pub by_costs : Told → Told → Ordering
by_costs x y = ordering_then (option_cmp cost_cmp x.old y.old) (option_cmp cost_cmp x.new y.new)

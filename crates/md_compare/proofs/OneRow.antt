-- Names that differ are told once each and in order, and of one profile none is told.
use Rattle.std.proofs.Common.{◌≡◌, ℕ, suc, ◌<◌, Bool, true, false, not, List, [], ◌∷◌, ◌++◌, length, get_or, map, refl, sym, ap, ◌∙◌, inl, inr, arith}
use Rattle.std.specs.Prelude.{◌≢◌, All, AllPairs, Option}
use Rattle.std.specs.List.{filter, list_any}
use Rattle.std.specs.Ordering.{is_gt}
use Rattle.std.proofs.lemmas.Bool.{and_right, cases_Bool}
use Rattle.std.proofs.lemmas.List.Elements.{All-append, All-cons, All-head, All-nil, All-tail, All-weaker, filter_passes}
use Rattle.std.proofs.lemmas.List.Folds.{list_any_at}
use Rattle.std.proofs.lemmas.List.Kept.{AllPairs-cons, AllPairs-filter}
use Rattle.std.proofs.lemmas.Slice.Eq.{bytes_eq-Decides}
use Rattle.md_base.specs.declared.measure.Measure.{Measure}
use Rattle.md_cost.specs.View.{View}
use Rattle.md_people.specs.Compare.{all_names, apart, compare_table, difference, is_told, name_row, named_with, names_in_order, names_of, precedes, same_name, told_names, whole_row}
use Rattle.md_static.specs.Sound.{IsSound}
use Rattle.md_compare.proofs.FullNames.{names_differ}
use Rattle.md_compare.proofs.NameOrder.{Ahead, AreInOrder, LeadsAll, decide, is_equal, names_ordered, neither_way, order, order_exact, order_total}

abbrev Name : Type 0
Name = List ℕ

abbrev Differ : List Name → Type 0
Differ = AllPairs (λ (x y : Name). x ≢ y)

abbrev IsFresh : Name → List Name → Type 0
IsFresh x = All (λ (y : Name). x ≢ y)

first_fresh : (x : Name) (ys : List Name) → Differ (x ∷ ys) → IsFresh x ys
first_fresh x ys pairs k d lt = pairs 0 (suc k) d (omega arith) (omega arith)

rest_differ : (x : Name) (ys : List Name) → Differ (x ∷ ys) → Differ ys
rest_differ x ys pairs i j d low lt = pairs (suc i) (suc j) d (omega arith) (omega arith)

differ_append : (xs ys : List Name) → Differ xs → Differ ys → All (λ (x : Name). IsFresh x ys) xs → Differ (xs ++ ys)
differ_append [] ys a b apart = b
differ_append (x ∷ xs) ys a b apart =
    AllPairs-cons (λ (m n : Name). m ≢ n) x (xs ++ ys) (All-append (λ (y : Name). x ≢ y) xs ys (first_fresh x xs a) (All-head (λ (z : Name). IsFresh z ys) x xs apart))
    (differ_append xs ys (rest_differ x xs a) b (All-tail (λ (z : Name). IsFresh z ys) x xs apart))

module _ (v w : View) (by : Measure) where
  all_with : (P : Name → Type 0) (x : Name) (ys : List Name) → P x → All P ys → All P (named_with v w by x ys)
  all_with P x [] h all = All-cons P x [] h all
  all_with P x (y ∷ ys) h all = elim (cases_Bool (precedes v w by x y)) [
    | inl before ↦ rw before (All-cons P x (y ∷ ys) h all)
    | inr behind ↦ rw behind (All-cons P y (named_with v w by x ys) (All-head P y ys all) (all_with P x ys h (All-tail P y ys all)))
  ]

  all_in_order : (P : Name → Type 0) (xs : List Name) → All P xs → All P (names_in_order v w by xs)
  all_in_order P [] all = All-nil P
  all_in_order P (x ∷ xs) all = all_with P x (names_in_order v w by xs) (All-head P x xs all) (all_in_order P xs (All-tail P x xs all))

  differ_with : (x : Name) (ys : List Name) → IsFresh x ys → Differ ys → Differ (named_with v w by x ys)
  differ_with x [] fresh pairs = AllPairs-cons (λ (m n : Name). m ≢ n) x [] fresh pairs
  differ_with x (y ∷ ys) fresh pairs = elim (cases_Bool (precedes v w by x y)) [
    | inl before ↦ rw before (AllPairs-cons (λ (m n : Name). m ≢ n) x (y ∷ ys) fresh pairs)
    | inr behind ↦ (
        let other : y ≢ x = λ e. All-head (λ (z : Name). x ≢ z) y ys fresh (sym e) in
        rw behind
        (AllPairs-cons (λ (m n : Name). m ≢ n) y (named_with v w by x ys) (all_with (λ (z : Name). y ≢ z) x ys other (first_fresh y ys pairs))
        (differ_with x ys (All-tail (λ (z : Name). x ≢ z) y ys fresh) (rest_differ y ys pairs))))
  ]

  differ_in_order : (xs : List Name) → Differ xs → Differ (names_in_order v w by xs)
  differ_in_order [] pairs = pairs
  differ_in_order (x ∷ xs) pairs =
      differ_with x (names_in_order v w by xs) (all_in_order (λ (z : Name). x ≢ z) xs (first_fresh x xs pairs)) (differ_in_order xs (rest_differ x xs pairs))

  abbrev is_new : Name → Bool
  is_new name = not (list_any (same_name name) (names_of v))

  -- a name that the old profile doesn't have is none of its names
  new_apart : (k : ℕ) (d y : Name) → k < length (names_of v) → is_new y ≡ true → get_or (names_of v) k d ≢ y
  new_apart k d y lt new e =
      let same : same_name y (get_or (names_of v) k d) ≡ true = (bytes_eq-Decides y (get_or (names_of v) k d)).1 (sym e) in
      let there = list_any_at (same_name y) (names_of v) k d lt same in
      let not_new : is_new y ≡ false = ap not there in
      cc

  names_once : IsSound v.statics → IsSound w.statics → Differ (all_names v w)
  names_once old new =
      differ_append (names_of v) (filter is_new (names_of w)) (names_differ v.statics old) (AllPairs-filter (λ (m n : Name). m ≢ n) is_new (names_of w) (names_differ w.statics new))
      (λ k d lt. All-weaker (λ (y : Name). is_new y ≡ true) (λ (y : Name). get_or (names_of v) k d ≢ y) (λ y passes. new_apart k d y lt passes) (filter is_new (names_of w)) (filter_passes is_new (names_of w)))

  pub told_once : (least : ℕ) → IsSound v.statics → IsSound w.statics → Differ (told_names v w by least)
  told_once least old new = differ_in_order (filter (is_told v w by least) (all_names v w)) (AllPairs-filter (λ (m n : Name). m ≢ n) (is_told v w by least) (all_names v w) (names_once old new))

-- ---- the order of the rows

module _ (v w : View) (by : Measure) where
  -- of two names that differ, the one that isn't behind the other precedes it
  ahead_precedes : (x y : Name) → Ahead v w by x y → x ≢ y → precedes v w by x y ≡ true
  ahead_precedes x y ahead other = elim (decide v w by x y) [
    | inl d ↦ d.0
    | inr d ↦ (
        let tie = neither_way (order v w by x y) ahead (sym (ap is_gt ((order_total v w by).antisymm y x)) ∙ d.1) in
        absurd (other (order_exact v w by x y (is_equal (order v w by x y) tie))))
  ]

  first_precedes : (x : Name) (ys : List Name) → LeadsAll v w by x ys → IsFresh x ys → All (λ (y : Name). precedes v w by x y ≡ true) ys
  first_precedes x [] leads fresh = All-nil (λ (y : Name). precedes v w by x y ≡ true)
  first_precedes x (y ∷ ys) leads fresh =
      All-cons (λ (z : Name). precedes v w by x z ≡ true) y ys (ahead_precedes x y leads.0 (All-head (λ (z : Name). x ≢ z) y ys fresh)) (first_precedes x ys leads.1 (All-tail (λ (z : Name). x ≢ z) y ys fresh))

  each_precedes : (xs : List Name) → AreInOrder v w by xs → Differ xs → AllPairs (λ (x y : Name). precedes v w by x y ≡ true) xs
  each_precedes [] ordered pairs = λ i j d low lt. absurd (omega arith)
  each_precedes (x ∷ xs) ordered pairs =
      AllPairs-cons (λ (m n : Name). precedes v w by m n ≡ true) x xs (first_precedes x xs ordered.0 (first_fresh x xs pairs)) (each_precedes xs ordered.1 (rest_differ x xs pairs))

  pub rows_ordered : (least : ℕ) → IsSound v.statics → IsSound w.statics → AllPairs (λ (x y : Name). precedes v w by x y ≡ true) (told_names v w by least)
  rows_ordered least old new = each_precedes (told_names v w by least) (names_ordered v w by (filter (is_told v w by least) (all_names v w))) (told_once v w by least old new)

-- ---- one profile

none_apart : (a : Option ℕ) → apart a a ≡ 0
none_apart a = omega arith

none_passes : (p : Name → Bool) → ((x : Name) → p x ≡ false) → (xs : List Name) → filter p xs ≡ []
none_passes p fails [] = refl
none_passes p fails (x ∷ xs) = rw (fails x) (none_passes p fails xs)

no_difference : (v : View) (by : Measure) (name : Name) → difference v v by name ≡ 0
no_difference v by name = omega arith

none_told : (v : View) (by : Measure) (least : ℕ) (name : Name) → is_told v v by least name ≡ false
none_told v by least name = rw (no_difference v by name) (and_right _ false refl)

pub as_itself : (v : View) (by : Measure) (least : ℕ) → (compare_table v v by least).rows ≡ whole_row v v by ∷ []
as_itself v by least =
    ap (λ (names : List Name). whole_row v v by ∷ map (name_row v v by) (names_in_order v v by names)) (none_passes (is_told v v by least) (none_told v by least) (all_names v v))

-- A clique's own counts and the totals of its children add up to its total, and the own counts of all contexts to the whole: each link's
-- path comes into a clique by one of its children, or begins there.
use Rattle.std.proofs.Common.{◌≡◌, ℕ, zero, suc, ◌+◌, ◌<◌, ◌≤◌, Bool, true, false, not, ◌&&◌, ◌||◌, eqb, ltb, cond, List, [], ◌∷◌, length, get_or, Option, Some, refl, sym, ap, ◌∙◌, inl, inr, arith}
use Rattle.std.specs.Prelude.{unwrap_or}
use Rattle.std.specs.List.{filter, list_any, range_with_len, slice_get, sum_by}
use Rattle.std.proofs.lemmas.Bool.{cases_eq, cases_lt, cases_Bool, eq-eqb, eqb-true, ne_eqb, lt-ltb, le-ltb}
use Rattle.std.proofs.lemmas.List.Sums.{sum_by-cons}
use Rattle.md_base.specs.declared.measure.Measure.{Measure}
use Rattle.md_base.specs.Counts.{count_of}
use Rattle.md_dynamic.specs.declared.link.LinkRow.{LinkRow}
use Rattle.md_dynamic.specs.Profile.{ProfileRows}
use Rattle.md_clique.specs.Cliques.{clique_count, members_of}
use Rattle.md_clique.specs.Places.{places_from}
use Rattle.md_clique.proofs.Naming.{lt_clique_count}
use Rattle.md_cost.specs.FileView.{IsFileView}
use Rattle.md_cost.specs.Paths.{path_of, path_to, start_of}
use Rattle.md_cost.specs.Sound.{AreSound}
use Rattle.md_cost.specs.Tree.{IsTree}
use Rattle.md_cost.specs.View.{View, OfContext, OfClique}
use Rattle.md_cost.proofs.PathSteps.{any_one, path_stops, path_goes}
use Rattle.md_cost.proofs.SumSteps.{sum_of_both, sum_same}
use Rattle.md_cost.proofs.ViewSteps.{callee_there, view_cliques, view_own, view_total}
use Rattle.md_people.specs.Context.{entered_from}
use Rattle.md_people.specs.Counts.{own_counts, whole_of}
use Rattle.md_people.specs.Flame.{burning}
use Rattle.md_people.specs.Ranked.{comes_before, ranked, ranked_with}
use Rattle.md_people.specs.Tree.{children, clique_own, clique_total, is_child}
use Rattle.md_people.proofs.StationSteps.{clique_told, entered_told, start_lower, start_there}

-- ---- sums over lists

pub no_sum : {Y : Type 0} (ys : List Y) → sum_by (λ _. 0) ys ≡ 0
no_sum [] = refl
no_sum {Y} (y ∷ ys) = let first = sum_by-cons (λ (_ : Y). 0) y ys in let rest = no_sum ys in omega arith

exchange : {X Y : Type 0} (h : X → Y → ℕ) (xs : List X) (ys : List Y) → sum_by (λ x. sum_by (h x) ys) xs ≡ sum_by (λ y. sum_by (λ x. h x y) xs) ys
exchange h [] ys = sym (no_sum ys)
exchange {X} {Y} h (x ∷ xs) ys =
    sum_by-cons (λ (z : X). sum_by (h z) ys) x xs ∙ ap (λ (n : ℕ). sum_by (h x) ys + n) (exchange h xs ys)
    ∙ sym (sum_of_both (λ (y : Y). sum_by (λ (z : X). h z y) (x ∷ xs)) (h x) (λ (y : Y). sum_by (λ (z : X). h z y) xs) ys (λ i y at. sum_by-cons (λ (z : X). h z y) x xs))

-- ranked numbers have the same sum
sum_with : (count f : ℕ → ℕ) (q : ℕ) (rs : List ℕ) → sum_by f (ranked_with count q rs) ≡ f q + sum_by f rs
sum_with count f q [] = sum_by-cons f q []
sum_with count f q (r ∷ rs) =
    let split = sum_by-cons f r rs in
    elim (cases_Bool (comes_before count q r)) [
      | inl before ↦ rw before (sum_by-cons f q (r ∷ rs))
      | inr after ↦ (let rest = sum_with count f q rs in let more = sum_by-cons f r (ranked_with count q rs) in rw after (omega arith))
    ]

sum_ranked : (count f : ℕ → ℕ) (qs : List ℕ) → sum_by f (ranked count qs) ≡ sum_by f qs
sum_ranked count f [] = refl
sum_ranked count f (q ∷ qs) = let rest = sum_ranked count f qs in let with_q = sum_with count f q (ranked count qs) in let split = sum_by-cons f q qs in omega arith

-- what is 0 may be left out
sum_some : (f : ℕ → ℕ) (xs : List ℕ) → sum_by f (filter (λ x. not (eqb (f x) 0)) xs) ≡ sum_by f xs
sum_some f [] = refl
sum_some f (x ∷ xs) =
    let rest = sum_some f xs in
    let split = sum_by-cons f x xs in
    elim (cases_eq (f x) 0) [
      | inl none ↦ rw (eq-eqb (f x) 0 none) (omega arith)
      | inr some ↦ (let more = sum_by-cons f x (filter (λ y. not (eqb (f y) 0)) xs) in rw (ne_eqb (f x) 0 some) (omega arith))
    ]

module _ (w : ℕ) where
  -- one number of a range, where it passes
  filter_none : (p : ℕ → Bool) (i n x : ℕ) → x < i → sum_by (λ j. cond (eqb x j) w 0) (filter p (range_with_len i n)) ≡ 0
  filter_none p i zero x lt = refl
  filter_none p i (suc n) x lt =
      let rest = filter_none p (i + 1) n x (omega arith) in
      elim (cases_Bool (p i)) [
        | inl holds ↦ (
            let split = sum_by-cons (λ (j : ℕ). cond (eqb x j) w 0) i (filter p (range_with_len (i + 1) n)) in
            let other : cond (eqb x i) w 0 ≡ 0 = rw (ne_eqb x i (λ e. absurd (omega arith))) refl in
            rw holds (omega arith))
        | inr fails ↦ rw fails rest
      ]

  filter_one : (p : ℕ → Bool) (i n x : ℕ) → i ≤ x → x < i + n → sum_by (λ j. cond (eqb x j) w 0) (filter p (range_with_len i n)) ≡ cond (p x) w 0
  filter_one p i zero x le lt = absurd (omega arith)
  filter_one p i (suc n) x le lt = elim (cases_eq x i) [
    | inl here ↦ (
        let rest = filter_none p (i + 1) n x (omega arith) in
        elim (cases_Bool (p i)) [
          | inl holds ↦ (
              let split = sum_by-cons (λ (j : ℕ). cond (eqb x j) w 0) i (filter p (range_with_len (i + 1) n)) in
              let one : cond (eqb x i) w 0 ≡ w = rw (eq-eqb x i here) refl in
              let at : cond (p x) w 0 ≡ w = rw (here, holds) refl in
              rw holds (omega arith))
          | inr fails ↦ (let at : cond (p x) w 0 ≡ 0 = rw (here, fails) refl in rw fails (omega arith))
        ])
    | inr later ↦ (
        let rest = filter_one p (i + 1) n x (omega arith) (omega arith) in
        elim (cases_Bool (p i)) [
          | inl holds ↦ (
              let split = sum_by-cons (λ (j : ℕ). cond (eqb x j) w 0) i (filter p (range_with_len (i + 1) n)) in
              let other : cond (eqb x i) w 0 ≡ 0 = rw (ne_eqb x i later) refl in
              rw holds (omega arith))
          | inr fails ↦ rw fails rest
        ])
  ]

  -- one number of a range
  range_none : (i n x : ℕ) → x < i → sum_by (λ j. cond (eqb x j) w 0) (range_with_len i n) ≡ 0
  range_none i zero x lt = refl
  range_none i (suc n) x lt =
      let rest = range_none (i + 1) n x (omega arith) in
      let split = sum_by-cons (λ (j : ℕ). cond (eqb x j) w 0) i (range_with_len (i + 1) n) in
      let other : cond (eqb x i) w 0 ≡ 0 = rw (ne_eqb x i (λ e. absurd (omega arith))) refl in
      omega arith

  pub range_one : (i n x : ℕ) → i ≤ x → x < i + n → sum_by (λ j. cond (eqb x j) w 0) (range_with_len i n) ≡ w
  range_one i zero x le lt = absurd (omega arith)
  range_one i (suc n) x le lt =
      let split = sum_by-cons (λ (j : ℕ). cond (eqb x j) w 0) i (range_with_len (i + 1) n) in
      elim (cases_eq x i) [
        | inl here ↦ (let rest = range_none (i + 1) n x (omega arith) in let one : cond (eqb x i) w 0 ≡ w = rw (eq-eqb x i here) refl in omega arith)
        | inr later ↦ (let rest = range_one (i + 1) n x (omega arith) (omega arith) in let other : cond (eqb x i) w 0 ≡ 0 = rw (ne_eqb x i later) refl in omega arith)
      ]

  -- one place of a list, where its element passes
  place_none : (p : ℕ → Bool) (i : ℕ) (xs : List ℕ) (c : ℕ) → c < i → sum_by (λ y. cond (eqb c y) w 0) (places_from p i xs) ≡ 0
  place_none p i [] c lt = refl
  place_none p i (x ∷ xs) c lt =
      let rest = place_none p (i + 1) xs c (omega arith) in
      elim (cases_Bool (p x)) [
        | inl holds ↦ (
            let split = sum_by-cons (λ (y : ℕ). cond (eqb c y) w 0) i (places_from p (i + 1) xs) in
            let other : cond (eqb c i) w 0 ≡ 0 = rw (ne_eqb c i (λ e. absurd (omega arith))) refl in
            rw holds (omega arith))
        | inr fails ↦ rw fails rest
      ]

  place_one : (p : ℕ → Bool) (i : ℕ) (xs : List ℕ) (k c : ℕ) → c ≡ i + k → k < length xs → sum_by (λ y. cond (eqb c y) w 0) (places_from p i xs) ≡ cond (p (get_or xs k 0)) w 0
  place_one p i [] k c at lt = absurd (omega arith)
  place_one p i (x ∷ xs) zero c at lt =
      let rest = place_none p (i + 1) xs c (omega arith) in
      elim (cases_Bool (p x)) [
        | inl holds ↦ (
            let split = sum_by-cons (λ (y : ℕ). cond (eqb c y) w 0) i (places_from p (i + 1) xs) in
            let one : cond (eqb c i) w 0 ≡ w = rw (eq-eqb c i (omega arith)) refl in
            rw holds (omega arith))
        | inr fails ↦ rw fails rest
      ]
  place_one p i (x ∷ xs) (suc k) c at lt =
      let rest = place_one p (i + 1) xs k c (omega arith) (omega arith) in
      elim (cases_Bool (p x)) [
        | inl holds ↦ (
            let split = sum_by-cons (λ (y : ℕ). cond (eqb c y) w 0) i (places_from p (i + 1) xs) in
            let other : cond (eqb c i) w 0 ≡ 0 = rw (ne_eqb c i (λ e. absurd (omega arith))) refl in
            rw holds (omega arith))
        | inr fails ↦ rw fails rest
      ]

-- ---- paths

module _ (cliques : List ℕ) (starts : ℕ → ℕ) (lower : (k : ℕ) → 0 < k → k < clique_count cliques → get_or cliques (starts k) 0 < k) (started : (k : ℕ) → 0 < k → k < clique_count cliques → starts k < length cliques) where
  abbrev meets : ℕ → List ℕ → Bool
  meets j ds = list_any (λ d. eqb (get_or cliques d 0) j) ds

  -- a path meets no clique above that of its context
  none_above : (n c j : ℕ) → c < length cliques → get_or cliques c 0 ≤ n → get_or cliques c 0 < j → list_any (λ d. eqb (get_or cliques d 0) j) (path_to cliques starts 0 n c) ≡ false
  none_above zero c j there le lt = any_one (λ d. eqb (get_or cliques d 0) j) c ∙ ne_eqb (get_or cliques c 0) j (λ e. absurd (omega arith))
  none_above (suc n) c j there le lt = elim (cases_lt 0 (get_or cliques c 0)) [
    | inl some ↦ (
        let below = lt_clique_count cliques c there in
        let low = lower (get_or cliques c 0) some below in
        let rest = none_above n (starts (get_or cliques c 0)) j (started (get_or cliques c 0) some below) (omega arith) (omega arith) in
        rw (path_goes cliques starts 0 n c some, ne_eqb (get_or cliques c 0) j (λ e. absurd (omega arith)), rest) refl)
    | inr none ↦ rw (path_stops cliques starts 0 (suc n) c none, any_one) (ne_eqb (get_or cliques c 0) j (λ e. absurd (omega arith)))
  ]

  -- each path meets clique 0
  meets_first : (n c : ℕ) → c < length cliques → get_or cliques c 0 ≤ n → list_any (λ d. eqb (get_or cliques d 0) 0) (path_to cliques starts 0 n c) ≡ true
  meets_first zero c there le = any_one (λ d. eqb (get_or cliques d 0) 0) c ∙ eq-eqb (get_or cliques c 0) 0 (omega arith)
  meets_first (suc n) c there le = elim (cases_lt 0 (get_or cliques c 0)) [
    | inl some ↦ (
        let below = lt_clique_count cliques c there in
        let low = lower (get_or cliques c 0) some below in
        let rest = meets_first n (starts (get_or cliques c 0)) (started (get_or cliques c 0) some below) (omega arith) in
        rw (path_goes cliques starts 0 n c some, ne_eqb (get_or cliques c 0) 0 (λ e. absurd (omega arith)), rest) refl)
    | inr none ↦ rw (path_stops cliques starts 0 (suc n) c none, any_one) (eq-eqb (get_or cliques c 0) 0 (omega arith))
  ]

  -- it meets a clique at its first context or behind it
  first_or_rest : (w : ℕ) (a b : Bool) → (a ≡ true → b ≡ false) → cond (a || b) w 0 ≡ cond a w 0 + cond b w 0
  first_or_rest w true b apart = rw (apart refl) (omega arith)
  first_or_rest w false b apart = omega arith

  module _ (w k : ℕ) (J : List ℕ) (one : (x : ℕ) → x < clique_count cliques → sum_by (λ j. cond (eqb x j) w 0) J ≡ cond (ltb 0 x && eqb (get_or cliques (starts x) 0) k) w 0) where
    -- a path that meets clique k begins there, or comes in by one child: where it has one context alone, and where it goes on
    stopped : (n c : ℕ) → c < length cliques → get_or cliques c 0 ≡ 0 → path_to cliques starts 0 n c ≡ c ∷ []
        → cond (list_any (λ d. eqb (get_or cliques d 0) k) (path_to cliques starts 0 n c)) w 0
        ≡ cond (eqb (get_or cliques c 0) k) w 0 + sum_by (λ j. cond (list_any (λ d. eqb (get_or cliques d 0) j) (path_to cliques starts 0 n c)) w 0) J
    stopped n c there none stop =
        let below = lt_clique_count cliques c there in
        let none_enter : cond (ltb 0 (get_or cliques c 0) && eqb (get_or cliques (starts (get_or cliques c 0)) 0) k) w 0 ≡ 0 = rw (le-ltb 0 (get_or cliques c 0) (omega arith)) refl in
        let sum : sum_by (λ j. cond (list_any (λ d. eqb (get_or cliques d 0) j) (c ∷ [])) w 0) J ≡ 0 =
        sum_same (λ j. cond (list_any (λ d. eqb (get_or cliques d 0) j) (c ∷ [])) w 0) (λ j. cond (eqb (get_or cliques c 0) j) w 0) J (λ i j at. ap (λ (b : Bool). cond b w 0) (any_one (λ d. eqb (get_or cliques d 0) j) c))
        ∙ one (get_or cliques c 0) below ∙ none_enter in
        let first : cond (list_any (λ d. eqb (get_or cliques d 0) k) (c ∷ [])) w 0 ≡ cond (eqb (get_or cliques c 0) k) w 0 = ap (λ (b : Bool). cond b w 0) (any_one (λ d. eqb (get_or cliques d 0) k) c) in
        rw stop (omega arith)

    by_a_child : (n c : ℕ) → c < length cliques → get_or cliques c 0 ≤ n
        → cond (list_any (λ d. eqb (get_or cliques d 0) k) (path_to cliques starts 0 n c)) w 0
        ≡ cond (eqb (get_or cliques c 0) k) w 0 + sum_by (λ j. cond (list_any (λ d. eqb (get_or cliques d 0) j) (path_to cliques starts 0 n c)) w 0) J
    by_a_child zero c there le = stopped zero c there (omega arith) refl
    by_a_child (suc n) c there le = elim (cases_lt 0 (get_or cliques c 0)) [
      | inl some ↦ (
          let x = get_or cliques c 0 in
          let below = lt_clique_count cliques c there in
          let low = lower (get_or cliques c 0) some below in
          let b = starts (get_or cliques c 0) in
          let b_there = started (get_or cliques c 0) some below in
          let ps = path_to cliques starts 0 n (starts (get_or cliques c 0)) in
          let rest = by_a_child n (starts (get_or cliques c 0)) b_there (omega arith) in
          let split : (j : ℕ) → cond (eqb (get_or cliques c 0) j || list_any (λ d. eqb (get_or cliques d 0) j) (path_to cliques starts 0 n (starts (get_or cliques c 0)))) w 0
          ≡ cond (eqb (get_or cliques c 0) j) w 0 + cond (list_any (λ d. eqb (get_or cliques d 0) j) (path_to cliques starts 0 n (starts (get_or cliques c 0)))) w 0 =
          λ j. first_or_rest w (eqb (get_or cliques c 0) j) (list_any (λ d. eqb (get_or cliques d 0) j) (path_to cliques starts 0 n (starts (get_or cliques c 0))))
          (λ is. (let e = eqb-true (get_or cliques c 0) j is in none_above n (starts (get_or cliques c 0)) j b_there (omega arith) (omega arith))) in
          let all = sum_of_both
          (λ j. cond (eqb (get_or cliques c 0) j || list_any (λ d. eqb (get_or cliques d 0) j) (path_to cliques starts 0 n (starts (get_or cliques c 0)))) w 0)
          (λ j. cond (eqb (get_or cliques c 0) j) w 0)
          (λ j. cond (list_any (λ d. eqb (get_or cliques d 0) j) (path_to cliques starts 0 n (starts (get_or cliques c 0)))) w 0)
          J (λ i j at. split j) in
          let enter = one (get_or cliques c 0) below in
          let enters : cond (ltb 0 (get_or cliques c 0) && eqb (get_or cliques (starts (get_or cliques c 0)) 0) k) w 0 ≡ cond (eqb (get_or cliques (starts (get_or cliques c 0)) 0) k) w 0 = rw (lt-ltb 0 (get_or cliques c 0) some) refl in
          let at_k = split k in
          rw (path_goes cliques starts 0 n c some) (omega arith))
      | inr none ↦ stopped (suc n) c there (omega arith) (path_stops cliques starts 0 (suc n) c none)
    ]

module _ (f : ProfileRows) (sound : AreSound (length f.nodes) f.links) (cliques found : List ℕ) (tree : IsTree (length f.nodes) f.links cliques found) (v : View) (viewed : IsFileView f v) (by : Measure) where
  abbrev starts : ℕ → ℕ
  starts j = start_of f.links found j

  -- the sum over links whose path meets a clique, and over those that lead to a context
  abbrev meeting : ℕ → ℕ
  meeting j = sum_by (λ (r : LinkRow). cond (list_any (λ d. eqb (get_or cliques d 0) j) (path_of cliques found f.links r.callee)) (count_of r.own by) 0) f.links

  abbrev leading : ℕ → ℕ
  leading c = sum_by (λ (r : LinkRow). cond (eqb r.callee c) (count_of r.own by) 0) f.links

  total_told : (j : ℕ) → clique_total v by j ≡ meeting j
  total_told j = ap (λ (o : Option ℕ). unwrap_or o 0) (view_total f sound cliques found tree v viewed (OfClique j) by)

  own_told : (c : ℕ) → own_counts v (OfContext c) by ≡ leading c
  own_told c = ap (λ (o : Option ℕ). unwrap_or o 0) (view_own f sound cliques found tree v viewed (OfContext c) by)

  pub child_told : (k j : ℕ) → is_child v k j ≡ (ltb 0 j && eqb (get_or cliques (start_of f.links found j) 0) k)
  child_told k j =
      ap (λ (p : ℕ). ltb 0 j && eqb p k) (
      clique_told f sound cliques found tree v viewed (entered_from v j)
      ∙ ap (λ (c : ℕ). get_or cliques c 0) (entered_told f sound cliques found tree v viewed j))

  pub cliques_told : clique_count v.cliques ≡ clique_count cliques
  cliques_told = ap (λ (ks : List ℕ). clique_count ks) (view_cliques f sound cliques found tree v viewed)

  one_child : (w k x : ℕ) → x < clique_count cliques → sum_by (λ j. cond (eqb x j) w 0) (children v by k) ≡ cond (ltb 0 x && eqb (get_or cliques (start_of f.links found x) 0) k) w 0
  one_child w k x lt =
      sum_ranked (clique_total v by) (λ j. cond (eqb x j) w 0) (filter (is_child v k) (range_with_len 0 (clique_count v.cliques)))
      ∙ ap (λ (n : ℕ). sum_by (λ j. cond (eqb x j) w 0) (filter (is_child v k) (range_with_len 0 n))) cliques_told
      ∙ filter_one w (is_child v k) 0 (clique_count cliques) x (omega arith) (omega arith)
      ∙ ap (λ (b : Bool). cond b w 0) (child_told k x)

  one_member : (w k c : ℕ) → c < length cliques → sum_by (λ y. cond (eqb c y) w 0) (members_of v.cliques k) ≡ cond (eqb (get_or cliques c 0) k) w 0
  one_member w k c lt =
      ap (λ (ks : List ℕ). sum_by (λ y. cond (eqb c y) w 0) (members_of ks k)) (view_cliques f sound cliques found tree v viewed)
      ∙ place_one w (λ n. eqb n k) 0 cliques c c (omega arith) lt

  pub adds_up : (k : ℕ) → clique_total v by k ≡ clique_own v by k + sum_by (clique_total v by) (children v by k)
  adds_up k =
      let each : (i : ℕ) (r : LinkRow) → slice_get f.links i ≡ Some r
      → cond (list_any (λ d. eqb (get_or cliques d 0) k) (path_of cliques found f.links r.callee)) (count_of r.own by) 0
      ≡ sum_by (λ y. cond (eqb r.callee y) (count_of r.own by) 0) (members_of v.cliques k) + sum_by (λ j. cond (list_any (λ d. eqb (get_or cliques d 0) j) (path_of cliques found f.links r.callee)) (count_of r.own by) 0) (children v by k) =
      λ i r at.
      (let there = callee_there f sound cliques found tree i r at in
      by_a_child cliques (start_of f.links found) (start_lower f sound cliques found tree) (start_there f sound cliques found tree) (count_of r.own by) k (children v by k) (one_child (count_of r.own by) k) (get_or cliques r.callee 0) r.callee there (omega arith)
      ∙ ap (λ (n : ℕ). n + sum_by (λ j. cond (list_any (λ d. eqb (get_or cliques d 0) j) (path_of cliques found f.links r.callee)) (count_of r.own by) 0) (children v by k)) (sym (one_member (count_of r.own by) k r.callee there))) in
      let owns : sum_by (λ (r : LinkRow). sum_by (λ y. cond (eqb r.callee y) (count_of r.own by) 0) (members_of v.cliques k)) f.links ≡ clique_own v by k =
      exchange (λ (r : LinkRow) (y : ℕ). cond (eqb r.callee y) (count_of r.own by) 0) f.links (members_of v.cliques k)
      ∙ sum_same leading (λ c. own_counts v (OfContext c) by) (members_of v.cliques k) (λ i c at. sym (own_told c)) in
      let below : sum_by (λ (r : LinkRow). sum_by (λ j. cond (list_any (λ d. eqb (get_or cliques d 0) j) (path_of cliques found f.links r.callee)) (count_of r.own by) 0) (children v by k)) f.links ≡ sum_by (clique_total v by) (children v by k) =
      exchange (λ (r : LinkRow) (j : ℕ). cond (list_any (λ d. eqb (get_or cliques d 0) j) (path_of cliques found f.links r.callee)) (count_of r.own by) 0) f.links (children v by k)
      ∙ sum_same meeting (clique_total v by) (children v by k) (λ i j at. sym (total_told j)) in
      total_told k
      ∙ sum_of_both
      (λ (r : LinkRow). cond (list_any (λ d. eqb (get_or cliques d 0) k) (path_of cliques found f.links r.callee)) (count_of r.own by) 0)
      (λ (r : LinkRow). sum_by (λ y. cond (eqb r.callee y) (count_of r.own by) 0) (members_of v.cliques k))
      (λ (r : LinkRow). sum_by (λ j. cond (list_any (λ d. eqb (get_or cliques d 0) j) (path_of cliques found f.links r.callee)) (count_of r.own by) 0) (children v by k))
      f.links each
      ∙ ap (λ (n : ℕ). n + sum_by (λ (r : LinkRow). sum_by (λ j. cond (list_any (λ d. eqb (get_or cliques d 0) j) (path_of cliques found f.links r.callee)) (count_of r.own by) 0) (children v by k)) f.links) owns
      ∙ ap (λ (n : ℕ). clique_own v by k + n) below

  -- all own counts together are the whole
  pub burns_whole : sum_by (λ c. own_counts v (OfContext c) by) (burning v by) ≡ whole_of v by
  burns_whole =
      let size : length v.nodes ≡ length cliques = ap (λ (w : View). length w.nodes) viewed.is ∙ sym tree.cliques_are.each in
      let all : sum_by (λ (r : LinkRow). sum_by (λ c. cond (eqb r.callee c) (count_of r.own by) 0) (range_with_len 0 (length cliques))) f.links ≡ meeting 0 =
      sum_same
      (λ (r : LinkRow). sum_by (λ c. cond (eqb r.callee c) (count_of r.own by) 0) (range_with_len 0 (length cliques)))
      (λ (r : LinkRow). cond (list_any (λ d. eqb (get_or cliques d 0) 0) (path_of cliques found f.links r.callee)) (count_of r.own by) 0)
      f.links
      (λ i r at.
      (let there = callee_there f sound cliques found tree i r at in
      range_one (count_of r.own by) 0 (length cliques) r.callee (omega arith) (omega arith)
      ∙ sym (ap (λ (b : Bool). cond b (count_of r.own by) 0) (meets_first cliques (start_of f.links found) (start_lower f sound cliques found tree) (start_there f sound cliques found tree) (get_or cliques r.callee 0) r.callee there (omega arith))))) in
      sum_some (λ c. own_counts v (OfContext c) by) (range_with_len 0 (length v.nodes))
      ∙ ap (λ (n : ℕ). sum_by (λ c. own_counts v (OfContext c) by) (range_with_len 0 n)) size
      ∙ sum_same (λ c. own_counts v (OfContext c) by) leading (range_with_len 0 (length cliques)) (λ i c at. own_told c)
      ∙ sym (exchange (λ (r : LinkRow) (c : ℕ). cond (eqb r.callee c) (count_of r.own by) 0) f.links (range_with_len 0 (length cliques)))
      ∙ all ∙ sym (total_told 0)

-- No clique has two boxes: of the cliques above it, each has one parent, and so there is one way down to it.
use Rattle.std.proofs.Common.{◌≡◌, ℕ, zero, suc, ◌+◌, ◌<◌, ◌≤◌, Bool, true, false, ◌||◌, eqb, cond, List, [], ◌∷◌, length, map, Option, Some, None, refl, sym, ap, ◌∙◌, inl, inr, arith}
use Rattle.std.specs.Prelude.{All, count_by}
use Rattle.std.specs.List.{filter, range_with_len, sum_by}
use Rattle.std.proofs.lemmas.Bool.{cases_Bool, cases_eq, cases_lt, eq-eqb, lt-ltb, ne_eqb}
use Rattle.std.proofs.lemmas.List.Elements.{All-head, All-tail, All-weaker, filter_passes}
use Rattle.std.proofs.lemmas.List.Sums.{sum_by-cons, sum_by-le-sum_by}
use Rattle.md_base.specs.declared.measure.Measure.{Measure}
use Rattle.md_dynamic.specs.Profile.{ProfileRows}
use Rattle.md_dynamic.specs.Valid.{IsValid}
use Rattle.md_clique.specs.Cliques.{clique_count}
use Rattle.md_cost.specs.FileView.{IsFileView}
use Rattle.md_cost.specs.View.{View}
use Rattle.md_cost.proofs.SumSteps.{sum_of_both, sum_same}
use Rattle.md_cost.proofs.ValidSteps.{valid_sound}
use Rattle.md_people.specs.Counts.{whole_of}
use Rattle.md_people.specs.Tree.{children, clique_total, is_child, is_shown, parent_of, shown_children}
use Rattle.md_people.proofs.Orders.{one_of, other_one, same_one, times, times_ranked}
use Rattle.md_people.proofs.StationSteps.{start_lower}
use Rattle.md_tree.specs.declared.picture.CliqueBox.{CliqueBox}
use Rattle.md_tree.specs.Picture.{boxes_beside, boxes_from, picture, width_of}
use Rattle.md_tree.proofs.Complete.{HasBox, first_has_box, has_append, has_box}
use Rattle.md_tree.proofs.Lower.{view_lower}
use Rattle.md_tree.proofs.Parents.{parent_told}
use Rattle.md_tree.proofs.Widths.{sum_of_some}

-- ---- how many times a number is in a list

one_turned : (a b : ℕ) → one_of a b ≡ one_of b a
one_turned a b = elim (cases_eq a b) [
  | inl e ↦ same_one a b (sym e) ∙ sym (same_one b a e)
  | inr ne ↦ other_one a b (λ e. ne (sym e)) ∙ sym (other_one b a ne)
]

no_times : (ks : List ℕ) → sum_by (λ (j : ℕ). times j []) ks ≡ 0
no_times [] = refl
no_times (k ∷ ks) = let rest = no_times ks in let split = sum_by-cons (λ (j : ℕ). times j []) k ks in omega arith

-- to look for each of these among those is to look for each of those among these
times_turned : (ks us : List ℕ) → sum_by (λ (j : ℕ). times j us) ks ≡ sum_by (λ (u : ℕ). times u ks) us
times_turned ks [] = no_times ks
times_turned ks (u ∷ us) =
    let rest = times_turned ks us in
    let both = sum_of_both (λ (j : ℕ). times j (u ∷ us)) (λ (j : ℕ). one_of j u) (λ (j : ℕ). times j us) ks (λ i j at. sum_by-cons (one_of j) u us) in
    let first = sum_same (λ (j : ℕ). one_of j u) (one_of u) ks (λ i j at. one_turned j u) in
    let split = sum_by-cons (λ (w : ℕ). times w ks) u us in
    omega arith

below_range : (i n u : ℕ) → u < i → times u (range_with_len i n) ≡ 0
below_range i zero u lt = refl
below_range i (suc n) u lt =
    let rest = below_range (i + 1) n u (omega arith) in
    let split = sum_by-cons (one_of u) i (range_with_len (i + 1) n) in
    let other = other_one u i (λ e. absurd (omega arith)) in
    omega arith

once_in_range : (i n u : ℕ) → times u (range_with_len i n) ≤ 1
once_in_range i zero u = omega arith
once_in_range i (suc n) u =
    let split = sum_by-cons (one_of u) i (range_with_len (i + 1) n) in
    elim (cases_eq i u) [
      | inl here ↦ (let one = same_one u i here in let rest = below_range (i + 1) n u (omega arith) in omega arith)
      | inr other ↦ (let none = other_one u i other in let rest = once_in_range (i + 1) n u in omega arith)
    ]

never_in : (p : ℕ → Bool) (u : ℕ) (ks : List ℕ) → p u ≡ false → times u (filter p ks) ≡ 0
never_in p u [] fails = refl
never_in p u (k ∷ ks) fails =
    let rest = never_in p u ks fails in
    elim (cases_Bool (p k)) as (λ _. times u (filter p (k ∷ ks)) ≡ 0) [
      | inl holds ↦ (
          let more : times u (filter p (k ∷ ks)) ≡ one_of u k + times u (filter p ks) = rw holds (sum_by-cons (one_of u) k (filter p ks)) in
          let other = other_one u k (λ e. (let both : true ≡ false = sym holds ∙ ap p e ∙ fails in cc)) in
          omega arith)
      | inr misses ↦ (let same : times u (filter p (k ∷ ks)) ≡ times u (filter p ks) = rw misses refl in omega arith)
    ]

module _ (v : View) (by : Measure) (least : ℕ) (lower : (j : ℕ) → 0 < j → j < clique_count v.cliques → parent_of v j < j) where
  -- a clique and those above it, up to clique 0
  abbrev ups : (steps : ℕ) → ℕ → List ℕ
  ups zero j = j ∷ []
  ups (suc n) j = j ∷ cond (eqb j 0) [] (ups n (parent_of v j))

  abbrev enters : ℕ → ℕ → ℕ
  enters p u = cond (is_child v p u) 1 0

  enters_some : (p u : ℕ) → 0 < u → enters p u ≡ one_of p (parent_of v u)
  enters_some p u some = rw (lt-ltb 0 u some) refl

  -- each of them but the first is the parent of the one before it
  each_enters : (p n j : ℕ) → j ≤ n → j < clique_count v.cliques → one_of p j + sum_by (enters p) (ups n j) ≡ times p (ups n j)
  each_enters p zero j le lt =
      let first : j ≡ 0 = omega arith in
      let none : enters p j ≡ 0 = rw first refl in
      let split = sum_by-cons (enters p) j [] in
      let count = sum_by-cons (one_of p) j [] in
      omega arith
  each_enters p (suc n) j le lt = elim (cases_lt 0 j) as (λ _. one_of p j + sum_by (enters p) (ups (suc n) j) ≡ times p (ups (suc n) j)) [
    | inl some ↦ (
        let low = lower j some lt in
        let rest = each_enters p n (parent_of v j) (omega arith) (omega arith) in
        let its = enters_some p j some in
        let whole : ups (suc n) j ≡ j ∷ ups n (parent_of v j) = rw (ne_eqb j 0 (λ e. absurd (omega arith))) refl in
        let split = sum_by-cons (enters p) j (ups n (parent_of v j)) in
        let count = sum_by-cons (one_of p) j (ups n (parent_of v j)) in
        rw whole (omega arith))
    | inr none ↦ (
        let first : j ≡ 0 = omega arith in
        let its : enters p j ≡ 0 = rw first refl in
        let whole : ups (suc n) j ≡ j ∷ [] = rw (eq-eqb j 0 first) refl in
        let split = sum_by-cons (enters p) j [] in
        let count = sum_by-cons (one_of p) j [] in
        rw whole (omega arith))
  ]

  -- clique 0 is the last one
  once_first : (n j : ℕ) → times 0 (ups n j) ≤ 1
  once_first zero j =
      let count = sum_by-cons (one_of 0) j [] in
      elim (cases_eq j 0) [
        | inl is ↦ (let one = same_one 0 j is in omega arith)
        | inr other ↦ (let none = other_one 0 j other in omega arith)
      ]
  once_first (suc n) j = elim (cases_eq j 0) as (λ _. times 0 (ups (suc n) j) ≤ 1) [
    | inl is ↦ (
        let whole : ups (suc n) j ≡ j ∷ [] = rw (eq-eqb j 0 is) refl in
        let count = sum_by-cons (one_of 0) j [] in
        let one = same_one 0 j is in
        rw whole (omega arith))
    | inr other ↦ (
        let whole : ups (suc n) j ≡ j ∷ ups n (parent_of v j) = rw (ne_eqb j 0 other) refl in
        let rest = once_first n (parent_of v j) in
        let none = other_one 0 j other in
        let count = sum_by-cons (one_of 0) j (ups n (parent_of v j)) in
        rw whole (omega arith))
  ]

  child_once : (p u : ℕ) → times u (shown_children v by least p) ≤ enters p u
  child_once p u =
      let fewer = sum_of_some (one_of u) (is_shown v by least) (children v by p) in
      let same = times_ranked (clique_total v by) u (filter (is_child v p) (range_with_len 0 (clique_count v.cliques))) in
      elim (cases_Bool (is_child v p u)) as (λ _. times u (shown_children v by least p) ≤ enters p u) [
        | inl holds ↦ (
            let one : enters p u ≡ 1 = rw holds refl in
            let some = sum_of_some (one_of u) (is_child v p) (range_with_len 0 (clique_count v.cliques)) in
            let once = once_in_range 0 (clique_count v.cliques) u in
            omega arith)
        | inr fails ↦ (
            let none = never_in (is_child v p) u (range_with_len 0 (clique_count v.cliques)) fails in
            omega arith)
      ]

  module _ (k : ℕ) where
    abbrev drawn : List CliqueBox → ℕ
    drawn bs = times k (map (λ (b : CliqueBox). b.clique) bs)

    drawn_beside : (boxes : (left place j : ℕ) → List CliqueBox) (most : ℕ → ℕ) → ((left place j : ℕ) → drawn (boxes left place j) ≤ most j) → (left place : ℕ) (ks : List ℕ) → drawn (boxes_beside (width_of v by) boxes left place ks) ≤ sum_by most ks
    drawn_beside boxes most le left place [] = omega arith
    drawn_beside boxes most le left place (j ∷ ks) =
        let others = boxes_beside (width_of v by) boxes (left + width_of v by j) (place + length (boxes left place j)) ks in
        let both = has_append k (boxes left place j) others in
        let one = le left place j in
        let rest = drawn_beside boxes most le (left + width_of v by j) (place + length (boxes left place j)) ks in
        let split = sum_by-cons most j ks in
        omega arith

    drawn_once : k < clique_count v.cliques → (n level : ℕ) (parent : Option ℕ) (left place p : ℕ) → drawn (boxes_from v by least n level parent left place p) ≤ times p (ups k k)
    drawn_once lt zero level parent left place p = omega arith
    drawn_once lt (suc n) level parent left place p =
        let us = ups k k in
        let ks = shown_children v by least p in
        let others = boxes_beside (width_of v by) (boxes_from v by least n (suc level) (Some place)) left (place + 1) (shown_children v by least p) in
        let below = drawn_beside (boxes_from v by least n (suc level) (Some place)) (λ (j : ℕ). times j (ups k k)) (drawn_once lt n (suc level) (Some place)) left (place + 1) (shown_children v by least p) in
        let turned = times_turned (shown_children v by least p) (ups k k) in
        let each = sum_by-le-sum_by (λ (u : ℕ). times u (shown_children v by least p)) (enters p) (ups k k) (child_once p) in
        let all = each_enters p k k (omega arith) lt in
        let same = one_turned k p in
        let count = sum_by-cons (one_of k) p (map (λ (b : CliqueBox). b.clique) others) in
        omega arith

    never_beside : (boxes : (left place j : ℕ) → List CliqueBox) → ((left place j : ℕ) → (j ≡ k → ⊥) → drawn (boxes left place j) ≡ 0) → (left place : ℕ) (ks : List ℕ) → All (λ (j : ℕ). j ≡ k → ⊥) ks → drawn (boxes_beside (width_of v by) boxes left place ks) ≡ 0
    never_beside boxes none left place [] all = refl
    never_beside boxes none left place (j ∷ ks) all =
        let others = boxes_beside (width_of v by) boxes (left + width_of v by j) (place + length (boxes left place j)) ks in
        let both = has_append k (boxes left place j) others in
        let one = none left place j (All-head (λ (i : ℕ). i ≡ k → ⊥) j ks all) in
        let rest = never_beside boxes none (left + width_of v by j) (place + length (boxes left place j)) ks (All-tail (λ (i : ℕ). i ≡ k → ⊥) j ks all) in
        omega arith

    -- where a clique isn't shown, nothing below another one is its box
    drawn_never : is_shown v by least k ≡ false → (n level : ℕ) (parent : Option ℕ) (left place p : ℕ) → (p ≡ k → ⊥) → drawn (boxes_from v by least n level parent left place p) ≡ 0
    drawn_never hidden zero level parent left place p other = refl
    drawn_never hidden (suc n) level parent left place p other =
        let others = boxes_beside (width_of v by) (boxes_from v by least n (suc level) (Some place)) left (place + 1) (shown_children v by least p) in
        let apart : All (λ (j : ℕ). j ≡ k → ⊥) (shown_children v by least p) =
        All-weaker (λ (j : ℕ). is_shown v by least j ≡ true) (λ (j : ℕ). j ≡ k → ⊥) (λ j shown e. (let both : true ≡ false = sym shown ∙ ap (is_shown v by least) e ∙ hidden in cc)) (shown_children v by least p)
        (filter_passes (is_shown v by least) (children v by p)) in
        let below = never_beside (boxes_from v by least n (suc level) (Some place)) (drawn_never hidden n (suc level) (Some place)) left (place + 1) (shown_children v by least p) apart in
        let none = other_one k p other in
        let count = sum_by-cons (one_of k) p (map (λ (b : CliqueBox). b.clique) others) in
        omega arith

count_drawn : (k : ℕ) (bs : List CliqueBox) → count_by (λ (b : CliqueBox). eqb b.clique k) bs ≡ times k (map (λ (b : CliqueBox). b.clique) bs)
count_drawn k [] = refl
count_drawn k (b ∷ bs) =
    let rest = count_drawn k bs in
    let left = sum_by-cons (λ (x : CliqueBox). one_of k x.clique) b bs in
    let right = sum_by-cons (one_of k) b.clique (map (λ (x : CliqueBox). x.clique) bs) in
    omega arith

module _ (f : ProfileRows) (valid : IsValid f) (v : View) (viewed : IsFileView f v) (by : Measure) (least : ℕ) where
  parents_lower : (j : ℕ) → 0 < j → j < clique_count v.cliques → parent_of v j < j
  parents_lower j some lt =
      let sound = (valid_sound f valid).links in
      let low = start_lower f sound v.cliques v.entries viewed.tree j some lt in
      let is = parent_told f sound v.cliques v.entries viewed.tree v viewed j in
      omega arith

  -- how many boxes a clique has
  abbrev due : ℕ → ℕ
  due k = cond (eqb k 0 || is_shown v by least k) 1 0

  pub one_box : (k : ℕ) → 0 < whole_of v by → k < clique_count v.cliques → count_by (λ (b : CliqueBox). eqb b.clique k) (picture v by least) ≡ due k
  one_box k some lt =
      let W = boxes_from v by least (clique_count v.cliques) 0 None 0 0 0 in
      let count = count_drawn k W in
      let first = once_first v by least parents_lower k k in
      let once = drawn_once v by least parents_lower k lt (clique_count v.cliques) 0 None 0 0 0 in
      rw (ne_eqb (whole_of v by) 0 (λ e. absurd (omega arith))) (
      elim (cases_eq k 0) as (λ _. count_by (λ (b : CliqueBox). eqb b.clique k) W ≡ due k) [
        | inl zeroth ↦ (
            let its : due k ≡ 1 = rw (eq-eqb k 0 zeroth) refl in
            let has : HasBox k W = rw zeroth (first_has_box f valid v viewed by least (view_lower f valid v viewed by least) (omega arith)) in
            omega arith)
        | inr other ↦ elim (cases_Bool (is_shown v by least k)) as (λ _. count_by (λ (b : CliqueBox). eqb b.clique k) W ≡ due k) [
          | inl shown ↦ (
              let its : due k ≡ 1 = rw (ne_eqb k 0 other, shown) refl in
              let has = has_box f valid v viewed by least (view_lower f valid v viewed by least) k lt shown in
              omega arith)
          | inr hidden ↦ (
              let its : due k ≡ 0 = rw (ne_eqb k 0 other, hidden) refl in
              let none = drawn_never v by least parents_lower k hidden (clique_count v.cliques) 0 None 0 0 0 (λ e. other (sym e)) in
              omega arith)
        ]
      ])

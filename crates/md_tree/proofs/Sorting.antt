-- The children of all cliques, sorted: those of each clique stand in the order of the tree.
use Rattle.std.proofs.Common.{◌≡◌, ℕ, suc, ◌+◌, ◌-◌, ◌^◌, ◌<◌, ◌≤◌, Bool, true, false, eqb, cond, List, [], ◌∷◌, length, get_or, map, refl, sym, ap, ◌∙◌, inl, inr, arith}
use Rattle.std.specs.Prelude.{All}
use Rattle.std.specs.List.{filter, range_with_len, sum_by}
use Rattle.std.specs.List.Sorted.{IsNonDecreasingBy, IsPermutation, IsSortedBy}
use Rattle.std.specs.Ordering.{is_lt, nat_cmp, ordering_then}
use Rattle.std.proofs.lemmas.Bool.{cases_Bool, cases_eq, cases_lt, eq-eqb, le-ltb, lt-ltb, ne_eqb}
use Rattle.std.proofs.lemmas.List.{length-map}
use Rattle.std.proofs.lemmas.List.Elements.{All-head, All-tail}
use Rattle.std.proofs.lemmas.List.FromFn.{length-range_with_len}
use Rattle.std.proofs.lemmas.List.Sorted.{All-permutation, IsNonDecreasingBy-from_all_adjacent, length_permutation, sum_by-IsPermutation}
use Rattle.std.proofs.lemmas.List.Sums.{sum_by-cons}
use Rattle.md_base.specs.declared.measure.Measure.{Measure}
use Rattle.md_clique.specs.Cliques.{clique_count}
use Rattle.md_cost.specs.View.{View}
use Rattle.md_people.specs.Tree.{children, clique_total, is_child, parent_of}
use Rattle.md_people.proofs.Orders.{IsAhead, InOrder, Leads, ahead_through, one_of, one_order, order_ranked, times, times_ranked}
use Rattle.md_tree.specs.Children.{AreChildren, AreChildrenOf, Child, cliques_below}

-- what a sort goes by
abbrev pub less : Child → Child → Bool
less x y = is_lt (ordering_then (ordering_then (nat_cmp x.0 y.0) (nat_cmp y.1.0 x.1.0)) (nat_cmp x.2 y.2))

parents_up : (x y : Child) → less y x ≡ false → x.0 ≤ y.0
parents_up x y refuses = elim (cases_lt y.0 x.0) [
  | inl lower ↦ (let e : less y x ≡ true = rw (lt-ltb y.0 x.0 lower) refl in cc)
  | inr up ↦ up
]

parents_rise : (cs : List Child) → IsSortedBy less cs → IsNonDecreasingBy (λ (c : Child). c.0) cs
parents_rise cs sorted = IsNonDecreasingBy-from_all_adjacent (λ (c : Child). c.0) cs (λ k d lt. parents_up (get_or cs k d) (get_or cs (k + 1) d) (sorted k d (omega arith) lt))

sorted_tail : (x : Child) (xs : List Child) → IsSortedBy less (x ∷ xs) → IsSortedBy less xs
sorted_tail x xs sorted k d low lt = let e : suc k + 1 ≡ suc (k + 1) = omega arith in rw e at (sorted (suc k) d (omega arith) (omega arith))

module _ (count : ℕ → ℕ) where
  -- a child has a lower parent than another one, or comes before it or is it
  record IsNoLater (x y : Child) : Type 0 where
    pub up : x.0 ≤ y.0
    pub ahead : x.0 ≡ y.0 → IsAhead count x.2 y.2

  abbrev Begins : Child → List Child → Type 0
  Begins x [] = Unit {0}
  Begins x (y ∷ ys) = IsNoLater x y × Begins x ys

  abbrev Rise : List Child → Type 0
  Rise [] = Unit {0}
  Rise (x ∷ xs) = Begins x xs × Rise xs

  no_later_through : (x y z : Child) → IsNoLater x y → IsNoLater y z → IsNoLater x z
  no_later_through x y z a b =
      let au = a.up in let bu = b.up in record {
        up = omega arith;
        ahead = λ e. ahead_through count x.2 y.2 z.2 (a.ahead (omega arith)) (b.ahead (omega arith));
      }

  begins_through : (x y : Child) (zs : List Child) → IsNoLater x y → Begins y zs → Begins x zs
  begins_through x y [] a l = tt
  begins_through x y (z ∷ zs) a l = (no_later_through x y z a l.0, begins_through x y zs a l.1)

  ahead_from : (x y : Child) → less y x ≡ false → x.0 ≡ y.0 → x.1.0 ≡ count x.2 → y.1.0 ≡ count y.2 → IsAhead count x.2 y.2
  ahead_from x y refuses same cx cy = elim (cases_lt x.1.0 y.1.0) [
    | inl fewer ↦ (let e : less y x ≡ true = rw (le-ltb y.0 x.0 (omega arith), eq-eqb y.0 x.0 (sym same), lt-ltb x.1.0 y.1.0 fewer) refl in cc)
    | inr enough ↦ elim (cases_eq x.1.0 y.1.0) [
      | inl tie ↦ elim (cases_lt y.2 x.2) [
        | inl lower ↦ (let e : less y x ≡ true = rw (le-ltb y.0 x.0 (omega arith), eq-eqb y.0 x.0 (sym same), le-ltb x.1.0 y.1.0 enough, eq-eqb x.1.0 y.1.0 tie, lt-ltb y.2 x.2 lower) refl in cc)
        | inr higher ↦ record { more = omega arith; ties = λ e. higher }
      ]
      | inr apart ↦ record { more = omega arith; ties = λ e. absurd (apart (omega arith)) }
    ]
  ]

  begins_from : (x : Child) (xs : List Child) → IsSortedBy less (x ∷ xs) → All (λ (c : Child). c.1.0 ≡ count c.2) (x ∷ xs) → Rise xs → Begins x xs
  begins_from x [] sorted counts r = tt
  begins_from x (y ∷ ys) sorted counts r =
      let refuses = sorted 0 x (omega arith) (omega arith) in
      let first : IsNoLater x y = record {
        up = parents_up x y refuses;
        ahead = λ e. ahead_from x y refuses e (counts 0 x (omega arith)) (counts 1 x (omega arith));
      } in
      (first, begins_through x y ys first r.0)

  rise_from : (xs : List Child) → IsSortedBy less xs → All (λ (c : Child). c.1.0 ≡ count c.2) xs → Rise xs
  rise_from [] sorted counts = tt
  rise_from (x ∷ xs) sorted counts =
      let rest = rise_from xs (sorted_tail x xs sorted) (All-tail (λ (c : Child). c.1.0 ≡ count c.2) x xs counts) in
      (begins_from x xs sorted counts rest, rest)

  -- those of one parent are in order
  leads_below : (k : ℕ) (x : Child) (cs : List Child) → x.0 ≡ k → Begins x cs → Leads count x.2 (cliques_below cs k)
  leads_below k x [] its b = tt
  leads_below k x (c ∷ cs) its b =
      let rest = leads_below k x cs its b.1 in
      elim (cases_eq c.0 k) as (λ _. Leads count x.2 (cliques_below (c ∷ cs) k)) [
        | inl same ↦ rw (eq-eqb c.0 k same) (b.0.ahead (omega arith), rest)
        | inr other ↦ rw (ne_eqb c.0 k other) rest
      ]

  order_below : (k : ℕ) (cs : List Child) → Rise cs → InOrder count (cliques_below cs k)
  order_below k [] r = tt
  order_below k (c ∷ cs) r =
      let rest = order_below k cs r.1 in
      elim (cases_eq c.0 k) as (λ _. InOrder count (cliques_below (c ∷ cs) k)) [
        | inl same ↦ rw (eq-eqb c.0 k same) (leads_below k c cs same r.0, rest)
        | inr other ↦ rw (ne_eqb c.0 k other) rest
      ]

-- ---- how many times a clique is there

times_below : (z k : ℕ) (cs : List Child) → times z (cliques_below cs k) ≡ sum_by (λ (c : Child). cond (eqb c.0 k) (one_of z c.2) 0) cs
times_below z k [] = refl
times_below z k (c ∷ cs) =
    let rest = times_below z k cs in
    let split = sum_by-cons (λ (d : Child). cond (eqb d.0 k) (one_of z d.2) 0) c cs in
    elim (cases_Bool (eqb c.0 k)) [
      | inl holds ↦ (
          let first : cond (eqb c.0 k) (one_of z c.2) 0 ≡ one_of z c.2 = rw holds refl in
          let more : times z (cliques_below (c ∷ cs) k) ≡ one_of z c.2 + times z (cliques_below cs k) = rw holds (sum_by-cons (one_of z) c.2 (cliques_below cs k)) in
          omega arith)
      | inr fails ↦ (
          let first : cond (eqb c.0 k) (one_of z c.2) 0 ≡ 0 = rw fails refl in
          let same : times z (cliques_below (c ∷ cs) k) ≡ times z (cliques_below cs k) = rw fails refl in
          omega arith)
    ]

times_passing : (z : ℕ) (p : ℕ → Bool) (xs : List ℕ) → times z (filter p xs) ≡ sum_by (λ j. cond (p j) (one_of z j) 0) xs
times_passing z p [] = refl
times_passing z p (x ∷ xs) =
    let rest = times_passing z p xs in
    let split = sum_by-cons (λ j. cond (p j) (one_of z j) 0) x xs in
    elim (cases_Bool (p x)) [
      | inl holds ↦ (
          let first : cond (p x) (one_of z x) 0 ≡ one_of z x = rw holds refl in
          let more : times z (filter p (x ∷ xs)) ≡ one_of z x + times z (filter p xs) = rw holds (sum_by-cons (one_of z) x (filter p xs)) in
          omega arith)
      | inr fails ↦ (
          let first : cond (p x) (one_of z x) 0 ≡ 0 = rw fails refl in
          let same : times z (filter p (x ∷ xs)) ≡ times z (filter p xs) = rw fails refl in
          omega arith)
    ]

sum_through : {X : Type 0} (f : X → ℕ) (g : ℕ → ℕ) (h : X → ℕ) (xs : List X) → All (λ x. f x ≡ g (h x)) xs → sum_by f xs ≡ sum_by g (map h xs)
sum_through f g h [] all = refl
sum_through {X} f g h (x ∷ xs) all =
    let rest = sum_through f g h xs (All-tail (λ (y : X). f y ≡ g (h y)) x xs all) in
    let first = All-head (λ (y : X). f y ≡ g (h y)) x xs all in
    let left = sum_by-cons f x xs in
    let right = sum_by-cons g (h x) (map h xs) in
    omega arith

-- ---- what a sort of all cliques but clique 0 gives

module _ (n : ℕ) (some : 0 < n) (small : n < 2 ^ 32) (before after : List Child) (are : map (λ (c : Child). c.2) before ≡ range_with_len 1 (n - 1)) (lower : All (λ (c : Child). (c.0 < c.2) × (c.2 < n)) before) (moved : IsPermutation before after) (sorted : IsSortedBy less after) where
  pub sorted_children : AreChildren n after
  sorted_children = record {
    small = small;
    few =
        (let size = length_permutation before after moved in
        let each : length (map (λ (c : Child). c.2) before) ≡ n - 1 = ap (λ (xs : List ℕ). length xs) are ∙ length-range_with_len 1 (n - 1) in
        let same = length-map before (λ (c : Child). c.2) in
        omega arith);
    by_parent = parents_rise after sorted;
    lower = All-permutation (λ (c : Child). (c.0 < c.2) × (c.2 < n)) before after moved lower;
  }

  module _ (v : View) (by : Measure) (count_is : n ≡ clique_count v.cliques) (told : All (λ (c : Child). (c.0 ≡ parent_of v c.2) × (c.1.0 ≡ clique_total v by c.2)) before) where
    totals_told : All (λ (c : Child). c.1.0 ≡ clique_total v by c.2) after
    totals_told = All-permutation (λ (c : Child). c.1.0 ≡ clique_total v by c.2) before after moved (λ i d lt. (told i d lt).1)

    child_told : (z k : ℕ) (c : Child) → c.0 < c.2 → c.0 ≡ parent_of v c.2 → cond (eqb c.0 k) (one_of z c.2) 0 ≡ cond (is_child v k c.2) (one_of z c.2) 0
    child_told z k c low its = rw (lt-ltb 0 c.2 (omega arith), ← its) refl

    times_told : (k z : ℕ) → times z (cliques_below after k) ≡ times z (children v by k)
    times_told k z =
        let g = λ (j : ℕ). cond (is_child v k j) (one_of z j) 0 in
        let f = λ (c : Child). cond (eqb c.0 k) (one_of z c.2) 0 in
        let first = sum_by-cons (λ (j : ℕ). cond (is_child v k j) (one_of z j) 0) 0 (range_with_len 1 (n - 1)) in
        let whole : suc (n - 1) ≡ n = omega arith in
        let with_first : sum_by (λ (j : ℕ). cond (is_child v k j) (one_of z j) 0) (range_with_len 1 (n - 1)) ≡ sum_by (λ (j : ℕ). cond (is_child v k j) (one_of z j) 0) (range_with_len 0 (suc (n - 1))) = omega arith in
        times_below z k after
        ∙ sum_by-IsPermutation f before after moved
        ∙ sum_through f g (λ (c : Child). c.2) before (λ i d lt. child_told z k (get_or before i d) (lower i d lt).0 (told i d lt).0)
        ∙ ap (λ (xs : List ℕ). sum_by g xs) are
        ∙ with_first
        ∙ ap (λ (m : ℕ). sum_by g (range_with_len 0 m)) (whole ∙ count_is)
        ∙ sym (times_passing z (is_child v k) (range_with_len 0 (clique_count v.cliques)))
        ∙ sym (times_ranked (clique_total v by) z (filter (is_child v k) (range_with_len 0 (clique_count v.cliques))))

    pub sorted_of_view : AreChildrenOf v by after
    sorted_of_view = record {
      totals = totals_told;
      below = λ k.
          one_order (clique_total v by) (cliques_below after k) (children v by k)
          (order_below (clique_total v by) k after (rise_from (clique_total v by) after sorted totals_told))
          (order_ranked (clique_total v by) (filter (is_child v k) (range_with_len 0 (clique_count v.cliques))))
          (times_told k);
    }

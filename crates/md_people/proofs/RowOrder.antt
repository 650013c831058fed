-- Rows sorted by their keys are the rows in order. A total and calls are told as one number, so that the order is that of numbers ranked.
use Rattle.std.proofs.Common.{◌≡◌, ℕ, suc, ◌+◌, ◌*◌, ◌^◌, ◌<◌, ◌≤◌, Bool, true, false, not, ◌&&◌, ◌||◌, eqb, ltb, List, [], ◌∷◌, length, get_or, map, Option, Some, None, refl, sym, ap, ◌∙◌, inl, inr, arith}
use Rattle.std.specs.Prelude.{All}
use Rattle.std.specs.List.{range_with_len}
use Rattle.std.specs.List.Sorted.{IsPermutation, IsSortedBy}
use Rattle.std.specs.Option.{option_cmp}
use Rattle.std.proofs.Common.{Ordering}
use Rattle.std.specs.Ordering.{is_lt, nat_cmp, ordering_then}
use Rattle.std.specs.declared.cmp.Reverse.{Reverse}
use Rattle.std.proofs.lemmas.Bool.{cases_eq, cases_lt, cases_Bool, eq-eqb, ne_eqb, lt-ltb, le-ltb}
use Rattle.std.proofs.lemmas.List.{get_or-map, get_or_past, length-map}
use Rattle.std.proofs.lemmas.List.Elements.{All-head, All-tail}
use Rattle.std.proofs.lemmas.List.FromFn.{length-range_with_len, get_or-range_with_len}
use Rattle.std.proofs.lemmas.List.Sorted.{IsPermutation-map}
use Rattle.md_trace.specs.Context.{same_option}
use Rattle.md_people.specs.Callers.{comes_first, in_order, is_above, placed_with}
use Rattle.md_people.specs.Order.{IsKeyOf, Key}
use Rattle.md_people.specs.Ports.{PortsRow}
use Rattle.md_people.specs.Ranked.{comes_before, ranked, ranked_with}
use Rattle.md_people.proofs.Orders.{all_ranked, less, ranked_from}

-- greater totals weigh more, and of equal ones, or where there is none, more calls
abbrev pub weight : (total : Option ℕ) (calls : ℕ) → ℕ
weight None c = c
weight (Some n) c = (n + 1) * 18446744073709551616 + c

no_less : (x y : ℕ) → (x ≡ y → ⊥) → y ≤ x → (ltb x y ≡ false) × (eqb x y ≡ false)
no_less x y ne le = (le-ltb x y le, ne_eqb x y ne)

-- one comparison of weights is one of totals, and of calls where these are equal
weights_compare : (t u : Option ℕ) (a b : ℕ) → a < 2 ^ 64 → b < 2 ^ 64 → ordering_then (option_cmp nat_cmp t u) (nat_cmp a b) ≡ nat_cmp (weight t a) (weight u b)
weights_compare None None a b la lb = refl
weights_compare None (Some m) a b la lb = rw (lt-ltb a ((m + 1) * 18446744073709551616 + b) (omega arith)) refl
weights_compare (Some n) None a b la lb = rw (le-ltb ((n + 1) * 18446744073709551616 + a) b (omega arith), ne_eqb ((n + 1) * 18446744073709551616 + a) b (λ e. absurd (omega arith))) refl
weights_compare (Some n) (Some m) a b la lb = elim (cases_lt n m) [
  | inl less_total ↦ rw (lt-ltb n m less_total, lt-ltb ((n + 1) * 18446744073709551616 + a) ((m + 1) * 18446744073709551616 + b) (omega arith)) refl
  | inr enough ↦ elim (cases_eq n m) [
    | inl tie ↦ elim (cases_lt a b) [
      | inl fewer ↦ rw (le-ltb n m enough, eq-eqb n m tie, lt-ltb a b fewer, lt-ltb ((n + 1) * 18446744073709551616 + a) ((m + 1) * 18446744073709551616 + b) (omega arith)) refl
      | inr many ↦ elim (cases_eq a b) [
        | inl same ↦ rw (le-ltb n m enough, eq-eqb n m tie, le-ltb a b many, eq-eqb a b same, le-ltb ((n + 1) * 18446744073709551616 + a) ((m + 1) * 18446744073709551616 + b) (omega arith), eq-eqb ((n + 1) * 18446744073709551616 + a) ((m + 1) * 18446744073709551616 + b) (omega arith)) refl
        | inr other ↦ rw (le-ltb n m enough, eq-eqb n m tie, le-ltb a b many, ne_eqb a b other, le-ltb ((n + 1) * 18446744073709551616 + a) ((m + 1) * 18446744073709551616 + b) (omega arith), ne_eqb ((n + 1) * 18446744073709551616 + a) ((m + 1) * 18446744073709551616 + b) (λ e. other (omega arith))) refl
      ]
    ]
    | inr apart ↦ rw (le-ltb n m enough, ne_eqb n m apart, le-ltb ((n + 1) * 18446744073709551616 + a) ((m + 1) * 18446744073709551616 + b) (omega arith), ne_eqb ((n + 1) * 18446744073709551616 + a) ((m + 1) * 18446744073709551616 + b) (λ e. apart (omega arith))) refl
  ]
]

first_weighs_more : (t u : Option ℕ) (a b : ℕ) → a < 2 ^ 64 → b < 2 ^ 64 → (is_above t u || (same_option t u && ltb b a)) ≡ ltb (weight u b) (weight t a)
first_weighs_more None None a b la lb = refl
first_weighs_more None (Some m) a b la lb = sym (le-ltb ((m + 1) * 18446744073709551616 + b) a (omega arith))
first_weighs_more (Some n) None a b la lb = sym (lt-ltb b ((n + 1) * 18446744073709551616 + a) (omega arith))
first_weighs_more (Some n) (Some m) a b la lb = elim (cases_lt m n) [
  | inl more ↦ rw (lt-ltb m n more, lt-ltb ((m + 1) * 18446744073709551616 + b) ((n + 1) * 18446744073709551616 + a) (omega arith)) refl
  | inr no_more ↦ elim (cases_eq n m) [
    | inl tie ↦ elim (cases_lt b a) [
      | inl calls ↦ rw (le-ltb m n no_more, eq-eqb n m tie, lt-ltb b a calls, lt-ltb ((m + 1) * 18446744073709551616 + b) ((n + 1) * 18446744073709551616 + a) (omega arith)) refl
      | inr few ↦ rw (le-ltb m n no_more, eq-eqb n m tie, le-ltb b a few, le-ltb ((m + 1) * 18446744073709551616 + b) ((n + 1) * 18446744073709551616 + a) (omega arith)) refl
    ]
    | inr apart ↦ rw (le-ltb m n no_more, ne_eqb n m apart, le-ltb ((m + 1) * 18446744073709551616 + b) ((n + 1) * 18446744073709551616 + a) (omega arith)) refl
  ]
]

abbrev pub Pair : Type 0
Pair = Reverse ℕ × ℕ

-- a key with its weight
abbrev pub weighed : Key → Pair
weighed key = (record { 0 = weight key.0.0 key.1.0 }, key.2)

abbrev pub less_key : Key → Key → Bool
less_key x y = is_lt (ordering_then (ordering_then (option_cmp nat_cmp y.0.0 x.0.0) (nat_cmp y.1.0 x.1.0)) (nat_cmp x.2 y.2))

less_weighed : (x y : Key) → x.1.0 < 2 ^ 64 → y.1.0 < 2 ^ 64 → less_key x y ≡ false → is_lt (ordering_then (nat_cmp (weight y.0.0 y.1.0) (weight x.0.0 x.1.0)) (nat_cmp x.2 y.2)) ≡ false
less_weighed x y lx ly h = ap (λ (o : Ordering). is_lt (ordering_then o (nat_cmp x.2 y.2))) (sym (weights_compare y.0.0 x.0.0 y.1.0 x.1.0 ly lx)) ∙ h

range_above : (i n : ℕ) → All (λ q. i < q) (range_with_len (i + 1) n)
range_above i n k d lt = let size = length-range_with_len (i + 1) n in let at = get_or-range_with_len (i + 1) n k d (omega arith) in omega arith

module _ (rows : List PortsRow) (d : PortsRow) (small : (p : ℕ) → (get_or rows p d).own.calls < 2 ^ 64) where
  abbrev row_at : ℕ → PortsRow
  row_at p = get_or rows p d

  abbrev count : ℕ → ℕ
  count p = weight (get_or rows p d).total (get_or rows p d).own.calls

  before_told : (p q : ℕ) → p < q → comes_before count p q ≡ not (comes_first (get_or rows q d) (get_or rows p d))
  before_told p q lt =
      let first = first_weighs_more (get_or rows q d).total (get_or rows p d).total (get_or rows q d).own.calls (get_or rows p d).own.calls (small q) (small p) in
      elim (cases_lt (count p) (count q)) [
        | inl more ↦ rw (first, lt-ltb (count p) (count q) more, le-ltb (count q) (count p) (omega arith), ne_eqb (count p) (count q) (λ e. absurd (omega arith))) refl
        | inr no_more ↦ elim (cases_eq (count p) (count q)) [
          | inl tie ↦ rw (first, le-ltb (count p) (count q) no_more, le-ltb (count q) (count p) (omega arith), eq-eqb (count p) (count q) tie, lt-ltb p q lt) refl
          | inr apart ↦ rw (first, le-ltb (count p) (count q) no_more, lt-ltb (count q) (count p) (omega arith)) refl
        ]
      ]

  placed_told : (p : ℕ) (qs : List ℕ) → All (λ q. p < q) qs → placed_with (get_or rows p d) (map (λ q. get_or rows q d) qs) ≡ map (λ q. get_or rows q d) (ranked_with count p qs)
  placed_told p [] all = refl
  placed_told p (q ∷ qs) all =
      let told = before_told p q (All-head (λ x. p < x) q qs all) in
      elim (cases_Bool (comes_first (get_or rows q d) (get_or rows p d))) [
        | inl first ↦ (let later : comes_before count p q ≡ false = told ∙ ap not first in rw (first, later) (ap (λ (rs : List PortsRow). get_or rows q d ∷ rs) (placed_told p qs (All-tail (λ x. p < x) q qs all))))
        | inr not_first ↦ (let before : comes_before count p q ≡ true = told ∙ ap not not_first in rw (not_first, before) refl)
      ]

  order_told : (i : ℕ) (xs : List PortsRow) → ((k : ℕ) → k < length xs → get_or rows (i + k) d ≡ get_or xs k d) → in_order xs ≡ map (λ q. get_or rows q d) (ranked count (range_with_len i (length xs)))
  order_told i [] at = refl
  order_told i (x ∷ xs) at =
      let head : get_or rows i d ≡ x = (let place : i + 0 ≡ i = omega arith in rw place at (at 0 (omega arith))) in
      let rest = order_told (i + 1) xs (λ k lt. (let place : i + suc k ≡ i + 1 + k = omega arith in rw place at (at (suc k) (omega arith)))) in
      ap (λ (r : PortsRow). placed_with r (in_order xs)) (sym head) ∙ ap (λ (rs : List PortsRow). placed_with (get_or rows i d) rs) rest
      ∙ placed_told i (ranked count (range_with_len (i + 1) (length xs))) (all_ranked count (λ q. i < q) (range_with_len (i + 1) (length xs)) (range_above i (length xs)))

  module _ (before after : List Key) (places : map (λ (x : Key). x.2) before ≡ range_with_len 0 (length rows)) (keys : All (IsKeyOf rows) before) (all : All (IsKeyOf rows) after) where
    weighed_count : (x : Key) → IsKeyOf rows x → (weighed x).0.0 ≡ count (weighed x).1
    weighed_count x is = ap (λ (t : Option ℕ). weight t x.1.0) (sym (is.total d)) ∙ ap (λ (n : ℕ). weight (get_or rows x.2 d).total n) (sym (is.calls d))

    all_weighed : All (λ (p : Pair). p.0.0 ≡ count p.1) (map weighed before)
    all_weighed k e lt =
        let size = length-map before weighed in
        let some : Key = (record { 0 = None }, record { 0 = 0 }, 0) in
        let at = get_or-map weighed before k some e (omega arith) in
        rw at (weighed_count (get_or before k some) (keys k some (omega arith)))

    places_weighed : (ks : List Key) → map (λ (p : Pair). p.1) (map weighed ks) ≡ map (λ (x : Key). x.2) ks
    places_weighed [] = refl
    places_weighed (k ∷ ks) = ap (λ (xs : List ℕ). k.2 ∷ xs) (places_weighed ks)

    sorted_weighed : IsSortedBy less_key after → IsSortedBy (less count) (map weighed after)
    sorted_weighed sorted k e low lt =
        let size = length-map after weighed in
        let some : Key = (record { 0 = None }, record { 0 = 0 }, 0) in
        let at = get_or-map weighed after k some e (omega arith) in
        let next = get_or-map weighed after (k + 1) some e (omega arith) in
        rw (at, next) (less_weighed (get_or after (k + 1) some) (get_or after k some) (all (k + 1) some (omega arith)).small (all k some (omega arith)).small (sorted k some low (omega arith)))

    rows_of_keys : (ks : List Key) → map (λ (x : Key). get_or rows x.2 d) ks ≡ map (λ q. get_or rows q d) (map (λ (x : Key). x.2) ks)
    rows_of_keys [] = refl
    rows_of_keys (k ∷ ks) = ap (λ (rs : List PortsRow). get_or rows k.2 d ∷ rs) (rows_of_keys ks)

    pub sorted_rows : IsPermutation before after → IsSortedBy less_key after → map (λ (x : Key). get_or rows x.2 d) after ≡ in_order rows
    sorted_rows moved sorted =
        rows_of_keys after
        ∙ ap (λ (qs : List ℕ). map (λ q. get_or rows q d) qs) (
        sym (places_weighed after)
        ∙ ranked_from count (range_with_len 0 (length rows)) (map weighed before) (map weighed after) (places_weighed before ∙ places) all_weighed (IsPermutation-map weighed before after moved) (sorted_weighed sorted))
        ∙ sym (order_told 0 rows (λ k lt. (let place : 0 + k ≡ k = omega arith in ap (λ (p : ℕ). get_or rows p d) place)))

-- every calls are small where the keys tell them
pub small_calls : (rows : List PortsRow) (d : PortsRow) (keys : List Key) → map (λ (x : Key). x.2) keys ≡ range_with_len 0 (length rows) → All (IsKeyOf rows) keys → d.own.calls ≡ 0 → (p : ℕ) → (get_or rows p d).own.calls < 2 ^ 64
small_calls rows d keys places all none p = elim (cases_lt p (length rows)) [
  | inl lt ↦ (
      let some : Key = (record { 0 = None }, record { 0 = 0 }, 0) in
      let size : length keys ≡ length rows = sym (length-map keys (λ (x : Key). x.2)) ∙ ap (λ (xs : List ℕ). length xs) places ∙ length-range_with_len 0 (length rows) in
      let is = all p some (omega arith) in
      let start : 0 + p ≡ p = omega arith in
      let at : (get_or keys p some).2 ≡ p = sym (get_or-map (λ (x : Key). x.2) keys p some 0 (omega arith)) ∙ ap (λ (xs : List ℕ). get_or xs p 0) places ∙ get_or-range_with_len 0 (length rows) p 0 lt ∙ start in
      let few = is.small in
      let calls : (get_or rows p d).own.calls ≡ (get_or keys p some).1.0 = ap (λ (q : ℕ). (get_or rows q d).own.calls) (sym at) ∙ is.calls d in
      omega arith)
  | inr past ↦ (let e : get_or rows p d ≡ d = get_or_past rows p d past in let calls : (get_or rows p d).own.calls ≡ 0 = ap (λ (r : PortsRow). r.own.calls) e ∙ none in omega arith)
]

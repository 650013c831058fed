-- Each clique of a total that is large enough has a box: its parent's total is no less, so all cliques above it have boxes too.
use Rattle.std.proofs.Common.{◌≡◌, ℕ, zero, suc, ◌+◌, ◌*◌, ◌<◌, ◌≤◌, Bool, true, false, ◌&&◌, ◌||◌, eqb, ltb, leb, List, [], ◌∷◌, ◌++◌, length, map, Option, Some, None, refl, ap, ◌∙◌, inl, inr, arith}
use Rattle.std.specs.List.{filter, range_with_len, sum_by}
use Rattle.std.proofs.lemmas.Bool.{cases_Bool, cases_eq, cases_lt, eq-eqb, le-leb, leb-true, lt-ltb, ltb-true}
use Rattle.std.proofs.lemmas.List.{map-append}
use Rattle.std.proofs.lemmas.List.Sums.{sum_by-append, sum_by-cons}
use Rattle.md_base.specs.declared.measure.Measure.{Measure}
use Rattle.md_dynamic.specs.Profile.{ProfileRows}
use Rattle.md_dynamic.specs.Valid.{IsValid}
use Rattle.md_clique.specs.Cliques.{clique_count}
use Rattle.md_cost.specs.FileView.{IsFileView}
use Rattle.md_cost.specs.View.{View}
use Rattle.md_cost.proofs.ValidSteps.{valid_sound}
use Rattle.md_people.specs.Counts.{whole_of}
use Rattle.md_people.specs.Tree.{children, clique_total, is_child, is_shown, parent_of, shown_children}
use Rattle.md_people.proofs.Adding.{adds_up}
use Rattle.md_people.proofs.Orders.{one_of, other_one, same_one, times, times_ranked}
use Rattle.md_people.proofs.StationSteps.{start_lower}
use Rattle.md_tree.specs.declared.picture.CliqueBox.{CliqueBox}
use Rattle.md_tree.specs.Picture.{boxes_beside, boxes_from, width_of}
use Rattle.md_tree.proofs.Boxes.{boxes_below}
use Rattle.md_tree.proofs.Parents.{parent_told}
use Rattle.md_tree.proofs.Rows.{AreLower}

-- ---- a number that is in a list

abbrev pub IsIn : ℕ → List ℕ → Type 0
IsIn k ks = 0 < times k ks

in_range : (i n k : ℕ) → i ≤ k → k < i + n → IsIn k (range_with_len i n)
in_range i zero k le lt = absurd (omega arith)
in_range i (suc n) k le lt =
    let split = sum_by-cons (one_of k) i (range_with_len (i + 1) n) in
    elim (cases_eq i k) [
      | inl here ↦ (let one = same_one k i here in omega arith)
      | inr later ↦ (let rest = in_range (i + 1) n k (omega arith) (omega arith) in omega arith)
    ]

in_passing : (p : ℕ → Bool) (k : ℕ) (ks : List ℕ) → p k ≡ true → IsIn k ks → IsIn k (filter p ks)
in_passing p k [] passes is = absurd (omega arith)
in_passing p k (j ∷ ks) passes is =
    let split = sum_by-cons (one_of k) j ks in
    elim (cases_eq j k) as (λ _. IsIn k (filter p (j ∷ ks))) [
      | inl here ↦ (
          let one = same_one k j here in
          let more : times k (filter p (j ∷ ks)) ≡ one_of k j + times k (filter p ks) = rw (ap p here ∙ passes) (sum_by-cons (one_of k) j (filter p ks)) in
          omega arith)
      | inr other ↦ (
          let none = other_one k j other in
          let rest : IsIn k (filter p ks) = in_passing p k ks passes (omega arith) in
          elim (cases_Bool (p j)) as (λ _. IsIn k (filter p (j ∷ ks))) [
            | inl holds ↦ (
                let more : times k (filter p (j ∷ ks)) ≡ one_of k j + times k (filter p ks) = rw holds (sum_by-cons (one_of k) j (filter p ks)) in
                omega arith)
            | inr fails ↦ (
                let same : times k (filter p (j ∷ ks)) ≡ times k (filter p ks) = rw fails refl in
                omega arith)
          ])
    ]

le_sum : (f : ℕ → ℕ) (k : ℕ) (ks : List ℕ) → IsIn k ks → f k ≤ sum_by f ks
le_sum f k [] is = absurd (omega arith)
le_sum f k (j ∷ ks) is =
    let count = sum_by-cons (one_of k) j ks in
    let split = sum_by-cons f j ks in
    elim (cases_eq j k) [
      | inl here ↦ (let same = ap f here in omega arith)
      | inr other ↦ (let none = other_one k j other in let rest = le_sum f k ks (omega arith) in omega arith)
    ]

-- ---- a clique that has a box

abbrev pub HasBox : ℕ → List CliqueBox → Type 0
HasBox k bs = IsIn k (map (λ (b : CliqueBox). b.clique) bs)

pub has_append : (k : ℕ) (firsts bs : List CliqueBox) → times k (map (λ (b : CliqueBox). b.clique) (firsts ++ bs)) ≡ times k (map (λ (b : CliqueBox). b.clique) firsts) + times k (map (λ (b : CliqueBox). b.clique) bs)
has_append k firsts bs = ap (λ (ks : List ℕ). times k ks) (map-append (λ (b : CliqueBox). b.clique) firsts bs) ∙ sum_by-append (one_of k) (map (λ (b : CliqueBox). b.clique) firsts) (map (λ (b : CliqueBox). b.clique) bs)

has_beside : (width : ℕ → ℕ) (boxes : (left place k : ℕ) → List CliqueBox) (j k : ℕ) → ((left place : ℕ) → HasBox k (boxes left place j)) → (left place : ℕ) (ks : List ℕ) → IsIn j ks → HasBox k (boxes_beside width boxes left place ks)
has_beside width boxes j k has left place [] is = absurd (omega arith)
has_beside width boxes j k has left place (i ∷ ks) is =
    let first = boxes left place i in
    let others = boxes_beside width boxes (left + width i) (place + length (boxes left place i)) ks in
    let both = has_append k first others in
    let split = sum_by-cons (one_of j) i ks in
    elim (cases_eq i j) as (λ _. HasBox k (boxes_beside width boxes left place (i ∷ ks))) [
      | inl here ↦ (let its : HasBox k (boxes left place i) = rw here (has left place) in omega arith)
      | inr other ↦ (let none = other_one j i other in let rest = has_beside width boxes j k has (left + width i) (place + length (boxes left place i)) ks (omega arith) in omega arith)
    ]

-- a total that is large enough, and one that is no less
shown_rises : (enough t u : ℕ) (all : Bool) → t ≤ u → (leb enough (1000 * t) && (all || ltb 0 t)) ≡ true → (leb enough (1000 * u) && (all || ltb 0 u)) ≡ true
shown_rises enough t u all le shown = elim (cases_Bool (leb enough (1000 * t))) as (λ _. (leb enough (1000 * u) && (all || ltb 0 u)) ≡ true) [
  | inl holds ↦ (
      let low = leb-true enough (1000 * t) holds in
      rw (le-leb enough (1000 * u) (omega arith)) (some_rises all t u le (rw holds at shown)))
  | inr fails ↦ (let never : false ≡ true = rw fails at shown in cc)
]
  where
    some_rises : (all : Bool) (t u : ℕ) → t ≤ u → (all || ltb 0 t) ≡ true → (all || ltb 0 u) ≡ true
    some_rises true t u le some = refl
    some_rises false t u le some = let low = ltb-true 0 t some in lt-ltb 0 u (omega arith)

module _ (f : ProfileRows) (valid : IsValid f) (v : View) (viewed : IsFileView f v) (by : Measure) (least : ℕ) (lower : AreLower v by least) where
  -- the ways from a clique down to another one by cliques that have boxes
  data Reaches : (from to : ℕ) → Type 0 where
    at_once : (k : ℕ) → Reaches k k
    by_child : (p j k : ℕ) → j < clique_count v.cliques → IsIn j (shown_children v by least p) → Reaches j k → Reaches p k

  one_more : {p k : ℕ} (j : ℕ) → j < clique_count v.cliques → IsIn j (shown_children v by least k) → Reaches p k → Reaches p j
  one_more j lt is (at_once k) = by_child k j j lt is (at_once j)
  one_more j lt is (by_child p i k there its on) = by_child p i j there its (one_more j lt is on)

  reached : {p k : ℕ} → p < clique_count v.cliques → Reaches p k → (level : ℕ) (parent : Option ℕ) (left place : ℕ) → HasBox k (boxes_from v by least (clique_count v.cliques) level parent left place p)
  reached lt (at_once k) level parent left place =
      let others = boxes_beside (width_of v by) (boxes_from v by least (clique_count v.cliques) (level + 1) (Some place)) left (place + 1) (shown_children v by least k) in
      let one = same_one k k refl in
      let split = sum_by-cons (one_of k) k (map (λ (b : CliqueBox). b.clique) others) in
      rw (boxes_below v by least lower level parent left place k lt) (omega arith)
  reached lt (by_child p j k there is on) level parent left place =
      let others = boxes_beside (width_of v by) (boxes_from v by least (clique_count v.cliques) (level + 1) (Some place)) left (place + 1) (shown_children v by least p) in
      let split = sum_by-cons (one_of k) p (map (λ (b : CliqueBox). b.clique) others) in
      let below : HasBox k others = has_beside (width_of v by) (boxes_from v by least (clique_count v.cliques) (level + 1) (Some place)) j k (λ l q. reached there on (level + 1) (Some place) l q) left (place + 1) (shown_children v by least p) is in
      rw (boxes_below v by least lower level parent left place p lt) (omega arith)

  -- a clique is a child of its parent, and counts no more
  its_child : (k : ℕ) → 0 < k → k < clique_count v.cliques → IsIn k (children v by (parent_of v k))
  its_child k some lt =
      let p = parent_of v k in
      let passes : is_child v (parent_of v k) k ≡ true = rw (lt-ltb 0 k some, eq-eqb (parent_of v k) (parent_of v k) refl) refl in
      let same = times_ranked (clique_total v by) k (filter (is_child v (parent_of v k)) (range_with_len 0 (clique_count v.cliques))) in
      let among : IsIn k (filter (is_child v (parent_of v k)) (range_with_len 0 (clique_count v.cliques))) = in_passing (is_child v (parent_of v k)) k (range_with_len 0 (clique_count v.cliques)) passes (in_range 0 (clique_count v.cliques) k (omega arith) (omega arith)) in
      omega arith

  parent_shown : (k : ℕ) → 0 < k → k < clique_count v.cliques → is_shown v by least k ≡ true → is_shown v by least (parent_of v k) ≡ true
  parent_shown k some lt shown =
      let adds = adds_up f (valid_sound f valid).links v.cliques v.entries viewed.tree v viewed by (parent_of v k) in
      let part = le_sum (clique_total v by) k (children v by (parent_of v k)) (its_child k some lt) in
      shown_rises (least * whole_of v by) (clique_total v by k) (clique_total v by (parent_of v k)) (eqb least 0) (omega arith) shown

  reach : (m k : ℕ) → k < m → k < clique_count v.cliques → is_shown v by least k ≡ true → Reaches 0 k
  reach zero k le lt shown = absurd (omega arith)
  reach (suc m) k le lt shown = elim (cases_lt 0 k) [
    | inl some ↦ (
        let sound = (valid_sound f valid).links in
        let low = start_lower f sound v.cliques v.entries viewed.tree k some lt in
        let is = parent_told f sound v.cliques v.entries viewed.tree v viewed k in
        let above = reach m (parent_of v k) (omega arith) (omega arith) (parent_shown k some lt shown) in
        one_more k lt (in_passing (is_shown v by least) k (children v by (parent_of v k)) shown (its_child k some lt)) above)
    | inr none ↦ (let first : k ≡ 0 = omega arith in rw first (at_once 0))
  ]

  pub has_box : (k : ℕ) → k < clique_count v.cliques → is_shown v by least k ≡ true → HasBox k (boxes_from v by least (clique_count v.cliques) 0 None 0 0 0)
  has_box k lt shown = reached (omega arith) (reach (suc k) k (omega arith) lt shown) 0 None 0 0

  pub first_has_box : 0 < clique_count v.cliques → HasBox 0 (boxes_from v by least (clique_count v.cliques) 0 None 0 0 0)
  first_has_box lt = reached lt (at_once 0) 0 None 0 0

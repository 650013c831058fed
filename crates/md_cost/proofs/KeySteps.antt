-- Sums by key, one value more.
use Rattle.std.proofs.Common.{◌≡◌, ℕ, zero, suc, ◌+◌, ◌-◌, ◌<◌, ◌≤◌, ◌^◌, cond, List, [], ◌∷◌, ◌++◌, length, take, get_or, set, replicate, Option, Some, None, IfSome, refl, sym, ap, ◌∙◌, inl, inr, arith, add-one}
use Rattle.std.proofs.lemmas.Bool.{cases_eq, eq-eqb, ne_eqb}
use Rattle.std.proofs.lemmas.List.{get_or-set_same, get_or-set_other, length-replicate, length-set, length-take, length_push, take_all}
use Rattle.std.proofs.lemmas.List.Sums.{sum_by_push}
use Rattle.md_base.specs.declared.measure.Measure.{Measure}
use Rattle.md_base.specs.Counts.{count_of}
use Rattle.md_trace.specs.Context.{same_option}
use Rattle.md_dynamic.specs.declared.link.LinkRow.{LinkRow}
use Rattle.md_cost.specs.declared.sums.Sums.{Sums}
use Rattle.md_cost.specs.SumOf.{sum_of, zero_sums}
use Rattle.md_cost.specs.Totals.{sum_where}
use Rattle.md_cost.specs.Climbing.{AreSmall}
use Rattle.md_cost.specs.Keys.{AreOwnBy, HasRoom, IsAdded, key_sum}
use Rattle.md_cost.proofs.OwnSteps.{part_le, zeros}

added_at : (sums : List Sums) (key : ℕ) (sum more : Sums) → key < length sums
    → ((m : Measure) → sum_of sum m ≡ sum_of (get_or sums key zero_sums) m + sum_of more m)
    → (q : ℕ) (m : Measure) → q < length sums → sum_of (get_or (set sums key sum) q zero_sums) m ≡ sum_of (get_or sums q zero_sums) m + cond (same_option (Some q) (Some key)) (sum_of more m) 0
added_at sums key sum more there is q m lt = elim (cases_eq q key) [
  | inl same ↦ rw (eq-eqb q key same) (rw same (rw (get_or-set_same sums key sum zero_sums there) (is m)))
  | inr other ↦ (let same : get_or (set sums key sum) q zero_sums ≡ get_or sums q zero_sums = get_or-set_other sums key q sum zero_sums other in rw (ne_eqb q key other, same) (omega arith))
]

-- a sum with one more
pub added_to : (sums : List Sums) (key : ℕ) (sum more : Sums) → key < length sums
    → ((m : Measure) → sum_of sum m ≡ sum_of (get_or sums key zero_sums) m + sum_of more m)
    → IsAdded sums (Some key) more (set sums key sum)
added_to sums key sum more there is = record { each = length-set sums key sum; is = λ q m lt. added_at sums key sum more there is q m lt }

pub added_none : (sums : List Sums) (more : Sums) → IsAdded sums None more sums
added_none sums more = record { each = refl; is = λ q m lt. omega arith }

pub key_sum_le : (key : ℕ → Option ℕ) (values : List Sums) (i k q : ℕ) (m : Measure) → key_sum key values i q m ≤ key_sum key values (i + k) q m
key_sum_le key values i zero q m = let same : i + zero ≡ i = omega arith in rw same (omega arith)
key_sum_le key values i (suc k) q m =
    let more : i + suc k ≡ suc (i + k) = omega arith in
    let before = key_sum_le key values i k q m in
    rw more (omega arith)

-- after the first i values
pub record Grouped (key : ℕ → Option ℕ) (values : List Sums) (count i : ℕ) (sums : List Sums) : Type 0 where
  pub each : length sums ≡ count
  pub is : (q : ℕ) (m : Measure) → q < count → sum_of (get_or sums q zero_sums) m ≡ key_sum key values i q m

pub grouped_none : (key : ℕ → Option ℕ) (values : List Sums) (count : ℕ) → Grouped key values count 0 (replicate count zero_sums)
grouped_none key values count = record { each = length-replicate count zero_sums; is = λ q m lt. zeros count q m }

module _ (key : ℕ → Option ℕ) (values : List Sums) (count i : ℕ) (sums : List Sums) (is : Grouped key values count i sums) where
  pub grouped_more : (now : List Sums) → IsAdded sums (key i) (get_or values i zero_sums) now → Grouped key values count (i + 1) now
  grouped_more now more = record {
    each = more.each ∙ is.each;
    is = λ q m lt. (let size = is.each in let before = is.is q m lt in rw add-one (more.is q m (omega arith) ∙ ap (λ (s : ℕ). s + cond (same_option (Some q) (key i)) (sum_of (get_or values i zero_sums) m) 0) before));
  }

  pub grouped_room : (n : ℕ) → i < n → ((d q : ℕ) → d < n → key d ≡ Some q → q < count)
      → ((q : ℕ) (m : Measure) → key_sum key values n q m < 2 ^ 64)
      → (o : Option ℕ) → o ≡ key i → HasRoom sums o (get_or values i zero_sums)
  grouped_room n lt below room None e = tt
  grouped_room n lt below room (Some q) e = let size = is.each in let inside = below i q lt (sym e) in (
    omega arith,
    λ m.
        let there = below i q lt (sym e) in
        let now = is.is q m there in
        let step : key_sum key values (suc i) q m ≡ key_sum key values i q m + sum_of (get_or values i zero_sums) m = rw (← e) (rw (eq-eqb q q refl) refl) in
        let rest : suc i + (n - suc i) ≡ n = omega arith in
        let le = rw rest at (key_sum_le key values (suc i) (n - suc i) q m) in
        let all = room q m in
        omega arith,
  )

-- the own counts of the first i links by a key of theirs
pub record ByLinks (key : LinkRow → Option ℕ) (rows : List LinkRow) (count i : ℕ) (sums : List Sums) : Type 0 where
  pub each : length sums ≡ count
  pub is : (s : ℕ) (m : Measure) → s < count → sum_of (get_or sums s zero_sums) m ≡ sum_where (λ r. same_option (Some s) (key r)) m (take i rows)

pub by_links_none : (key : LinkRow → Option ℕ) (rows : List LinkRow) (count : ℕ) → ByLinks key rows count 0 (replicate count zero_sums)
by_links_none key rows count = record { each = length-replicate count zero_sums; is = λ q m lt. zeros count q m }

module _ (key : LinkRow → Option ℕ) (rows : List LinkRow) (count i : ℕ) (sums : List Sums) (is : ByLinks key rows count i sums) (row : LinkRow) (next : take (i + 1) rows ≡ take i rows ++ row ∷ []) (own : Sums) (own_is : (m : Measure) → sum_of own m ≡ count_of row.own m) where
  grows : (s : ℕ) (m : Measure) → sum_where (λ r. same_option (Some s) (key r)) m (take (i + 1) rows) ≡ sum_where (λ r. same_option (Some s) (key r)) m (take i rows) + cond (same_option (Some s) (key row)) (sum_of own m) 0
  grows s m = rw (next, own_is m) (sum_by_push (λ (r : LinkRow). cond (same_option (Some s) (key r)) (count_of r.own m) 0) (take i rows) row)

  pub by_links_more : (now : List Sums) → IsAdded sums (key row) own now → ByLinks key rows count (i + 1) now
  by_links_more now more = record {
    each = more.each ∙ is.each;
    is = λ s m lt. (let size = is.each in let before = is.is s m lt in let g = grows s m in let a = more.is s m (omega arith) in omega arith);
  }

  pub by_links_room : i + 1 < 4294967296 → AreSmall (take i rows) → ((m : Measure) → sum_of own m < 4294967296) → length (take i rows) ≤ i → (o : Option ℕ) → o ≡ key row → IfSome o (λ s. s < count)
      → HasRoom sums o own
  by_links_room few small its le None e below = tt
  by_links_room few small its le (Some s) e below = let size = is.each in (
    omega arith,
    λ m.
        let now = is.is s m below in
        let g : sum_where (λ r. same_option (Some s) (key r)) m (take (i + 1) rows) ≡ sum_where (λ r. same_option (Some s) (key r)) m (take i rows) + sum_of own m = grows s m ∙ (rw (← e) (rw (eq-eqb s s refl) refl)) in
        let part = part_le (λ r. same_option (Some s) (key r)) m (take i rows) in
        let all = small m in
        let own_small = its m in
        omega arith,
  )

pub length-take-le-n : {X : Type 0} (n : ℕ) (xs : List X) → length (take n xs) ≤ n
length-take-le-n n xs = let size = length-take n xs in omega arith

pub small_more : (rows : List LinkRow) (i : ℕ) (row : LinkRow) → take (i + 1) rows ≡ take i rows ++ row ∷ [] → (own : Sums) → ((m : Measure) → sum_of own m ≡ count_of row.own m) → ((m : Measure) → sum_of own m < 4294967296) → AreSmall (take i rows) → AreSmall (take (i + 1) rows)
small_more rows i row next own own_is its small = λ m.
    let s = small m in
    let o = own_is m in
    let b = its m in
    let size = length_push (take i rows) row in
    let more = sum_by_push (λ (r : LinkRow). count_of r.own m) (take i rows) row in
    rw next (omega arith)

pub by_links_all : (key : LinkRow → Option ℕ) (rows : List LinkRow) (count : ℕ) (sums : List Sums) → ByLinks key rows count (length rows) sums → AreOwnBy key rows count sums
by_links_all key rows count sums is = record { each = is.each; is = λ s m lt. rw (take_all (length rows) rows (omega arith)) at (is.is s m lt) }

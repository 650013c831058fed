-- Boxes of one level stand from left to right: all that is below a clique lies between the edges of its box.
use Rattle.std.proofs.Common.{ℕ, zero, suc, ◌+◌, ◌≤◌, List, [], ◌∷◌, ◌++◌, length, Option, Some, None, inl, inr, arith}
use Rattle.std.specs.Prelude.{All}
use Rattle.std.specs.List.{AllPairs, sum_by}
use Rattle.std.proofs.lemmas.Bool.{cases_eq, eq-eqb, ne_eqb}
use Rattle.std.proofs.lemmas.List.Elements.{All-append, All-cons, All-head, All-nil, All-tail, All-weaker}
use Rattle.std.proofs.lemmas.List.Kept.{AllPairs-cons}
use Rattle.std.proofs.lemmas.List.Sums.{sum_by-cons}
use Rattle.md_base.specs.declared.measure.Measure.{Measure}
use Rattle.md_dynamic.specs.Profile.{ProfileRows}
use Rattle.md_dynamic.specs.Valid.{IsValid}
use Rattle.md_clique.specs.Cliques.{clique_count}
use Rattle.md_cost.specs.FileView.{IsFileView}
use Rattle.md_cost.specs.View.{View}
use Rattle.md_people.specs.Counts.{whole_of}
use Rattle.md_people.specs.Tree.{shown_children}
use Rattle.md_tree.specs.declared.picture.CliqueBox.{CliqueBox}
use Rattle.md_tree.specs.Picture.{IsBeside, boxes_beside, boxes_from, picture, width_of}
use Rattle.md_tree.proofs.Boxes.{box_of}
use Rattle.md_tree.proofs.Widths.{widths_within}

-- a box of this level or a deeper one, between two edges
record IsBetween (level low high : ℕ) (b : CliqueBox) : Type 0 where
  pub deep : level ≤ b.level
  pub left : low ≤ b.left
  pub right : b.left + b.width ≤ high

between_wider : (level up low high left right : ℕ) → up ≤ level → left ≤ low → high ≤ right → (bs : List CliqueBox) → All (IsBetween level low high) bs → All (IsBetween up left right) bs
between_wider level up low high left right higher le ri bs all =
    All-weaker (IsBetween level low high) (IsBetween up left right) (λ b is. (let d = is.deep in let l = is.left in let r = is.right in record { deep = omega arith; left = omega arith; right = omega arith })) bs all

abbrev Apart : List CliqueBox → Type 0
Apart [] = Unit {0}
Apart (b ∷ bs) = All (IsBeside b) bs × Apart bs

apart_pairs : (bs : List CliqueBox) → Apart bs → AllPairs IsBeside bs
apart_pairs [] a = λ i j d lt end. absurd (omega arith)
apart_pairs (b ∷ bs) a = AllPairs-cons IsBeside b bs a.0 (apart_pairs bs a.1)

-- boxes that end before others begin
apart_append : (edge level up low high : ℕ) (xs ys : List CliqueBox) → Apart xs → Apart ys → All (IsBetween level low edge) xs → All (IsBetween up edge high) ys → Apart (xs ++ ys)
apart_append edge level up low high [] ys ax ay bx by = ay
apart_append edge level up low high (x ∷ xs) ys ax ay bx by =
    let right = (All-head (IsBetween level low edge) x xs bx).right in
    let beside : All (IsBeside x) ys = All-weaker (IsBetween up edge high) (IsBeside x) (λ y is same. (let left = is.left in omega arith)) ys by in
    (All-append (IsBeside x) xs ys ax.0 beside, apart_append edge level up low high xs ys ax.1 ay (All-tail (IsBetween level low edge) x xs bx) by)

module _ (v : View) (by : Measure) (least : ℕ) (fit : (k : ℕ) → sum_by (width_of v by) (shown_children v by least k) ≤ width_of v by k) where
  abbrev Draws : (n level : ℕ) (parent : Option ℕ) → Type 0
  Draws n level parent =
      (left place k : ℕ) → All (IsBetween level left (left + width_of v by k)) (boxes_from v by least n level parent left place k) × Apart (boxes_from v by least n level parent left place k)

  beside_apart : (n level : ℕ) (parent : Option ℕ) → Draws n level parent → (left place : ℕ) (ks : List ℕ)
      → All (IsBetween level left (left + sum_by (width_of v by) ks)) (boxes_beside (width_of v by) (boxes_from v by least n level parent) left place ks)
      × Apart (boxes_beside (width_of v by) (boxes_from v by least n level parent) left place ks)
  beside_apart n level parent draws left place [] = (All-nil (IsBetween level left (left + 0)), tt)
  beside_apart n level parent draws left place (k ∷ ks) =
      let first = boxes_from v by least n level parent left place k in
      let edge = left + width_of v by k in
      let others = boxes_beside (width_of v by) (boxes_from v by least n level parent) (left + width_of v by k) (place + length first) ks in
      let split = sum_by-cons (width_of v by) k ks in
      let one = draws left place k in
      let rest = beside_apart n level parent draws (left + width_of v by k) (place + length first) ks in (
        All-append (IsBetween level left (left + sum_by (width_of v by) (k ∷ ks))) first others
            (between_wider level level left edge left (left + sum_by (width_of v by) (k ∷ ks)) (omega arith) (omega arith) (omega arith) first one.0)
            (between_wider level level edge (edge + sum_by (width_of v by) ks) left (left + sum_by (width_of v by) (k ∷ ks)) (omega arith) (omega arith) (omega arith) others rest.0),
        apart_append edge level level left (edge + sum_by (width_of v by) ks) first others one.1 rest.1 one.0 rest.0,
      )

  all_apart : (n level : ℕ) (parent : Option ℕ) → Draws n level parent
  all_apart zero level parent left place k = (All-nil (IsBetween level left (left + width_of v by k)), tt)
  all_apart (suc n) level parent left place k =
      let box = box_of v by level parent left k in
      let others = boxes_beside (width_of v by) (boxes_from v by least n (suc level) (Some place)) left (place + 1) (shown_children v by least k) in
      let below = beside_apart n (suc level) (Some place) (all_apart n (suc level) (Some place)) left (place + 1) (shown_children v by least k) in
      let within = fit k in
      let its : IsBetween level left (left + width_of v by k) box = record { deep = omega arith; left = omega arith; right = omega arith } in
      let beside : All (IsBeside box) others =
      All-weaker (IsBetween (suc level) left (left + sum_by (width_of v by) (shown_children v by least k))) (IsBeside box) (λ b is same. (let deep = is.deep in absurd (omega arith))) others below.0 in (
        All-cons (IsBetween level left (left + width_of v by k)) box others its
            (between_wider (suc level) level left (left + sum_by (width_of v by) (shown_children v by least k)) left (left + width_of v by k) (omega arith) (omega arith) (omega arith) others below.0),
        (beside, below.1),
      )

pub boxes_apart : (f : ProfileRows) (v : View) (by : Measure) (least : ℕ) → IsValid f → IsFileView f v → AllPairs IsBeside (picture v by least)
boxes_apart f v by least valid viewed = elim (cases_eq (whole_of v by) 0) as (λ _. AllPairs IsBeside (picture v by least)) [
  | inl none ↦ rw (eq-eqb (whole_of v by) 0 none) (apart_pairs [] tt)
  | inr some ↦ (
      let drawn = all_apart v by least (widths_within f valid v viewed by (omega arith) least) (clique_count v.cliques) 0 None 0 0 0 in
      rw (ne_eqb (whole_of v by) 0 some) (apart_pairs (boxes_from v by least (clique_count v.cliques) 0 None 0 0 0) drawn.1))
]

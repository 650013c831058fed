-- Each box lies within that of its parent: it begins where the ones before it end, and together they are no wider than their parent's.
use Rattle.std.proofs.Common.{◌≡◌, ℕ, zero, suc, ◌+◌, ◌≤◌, Bool, true, false, ◌&&◌, eqb, ltb, List, [], ◌∷◌, ◌++◌, length, Option, Some, None, refl, sym, ap, ◌∙◌, inl, inr, arith}
use Rattle.std.specs.Prelude.{All}
use Rattle.std.specs.List.{filter, range_with_len, slice_get, sum_by}
use Rattle.std.proofs.lemmas.Bool.{and_parts, cases_eq, eqb-true, eq-eqb, ne_eqb}
use Rattle.std.proofs.lemmas.List.{append_assoc, append-nil, length-append, length_push}
use Rattle.std.proofs.lemmas.List.Elements.{All-append, All-cons, All-filter, All-head, All-nil, All-tail, All-weaker, filter_passes}
use Rattle.std.proofs.lemmas.List.Sums.{sum_by-cons}
use Rattle.md_base.specs.declared.measure.Measure.{Measure}
use Rattle.md_dynamic.specs.Profile.{ProfileRows}
use Rattle.md_dynamic.specs.Valid.{IsValid}
use Rattle.md_clique.specs.Cliques.{clique_count}
use Rattle.md_cost.specs.FileView.{IsFileView}
use Rattle.md_cost.specs.View.{View}
use Rattle.md_people.specs.Counts.{whole_of}
use Rattle.md_people.specs.Tree.{children, clique_total, is_child, is_shown, parent_of, shown_children}
use Rattle.md_people.proofs.Orders.{all_ranked}
use Rattle.md_tree.specs.declared.picture.CliqueBox.{CliqueBox}
use Rattle.md_tree.specs.Picture.{IsHeld, boxes_beside, boxes_from, picture, width_of}
use Rattle.md_tree.proofs.Boxes.{box_of}
use Rattle.md_tree.proofs.Widths.{widths_within}

-- what stands behind a front
at_length : {X : Type 0} (before : List X) (x : X) (after : List X) → slice_get (before ++ x ∷ after) (length before) ≡ Some x
at_length [] x after = refl
at_length (y ∷ before) x after = at_length before x after

-- the children of a clique have it as their parent
pub own_children : (v : View) (by : Measure) (k : ℕ) → All (λ (j : ℕ). parent_of v j ≡ k) (children v by k)
own_children v by k =
    all_ranked (clique_total v by) (λ (j : ℕ). parent_of v j ≡ k) (filter (is_child v k) (range_with_len 0 (clique_count v.cliques)))
    (All-weaker (λ (j : ℕ). is_child v k j ≡ true) (λ (j : ℕ). parent_of v j ≡ k)
    (λ j is. eqb-true (parent_of v j) k (and_parts (ltb 0 j) (eqb (parent_of v j) k) is).1)
    (filter (is_child v k) (range_with_len 0 (clique_count v.cliques)))
    (filter_passes (is_child v k) (range_with_len 0 (clique_count v.cliques))))

module _ (v : View) (by : Measure) (least : ℕ) (fit : (k : ℕ) → sum_by (width_of v by) (shown_children v by least k) ≤ width_of v by k) (W : List CliqueBox) where
  -- all that is below a clique is held, where its own box is
  abbrev AllHeld : (n level : ℕ) → Type 0
  AllHeld n level =
      (parent : Option ℕ) (left place k : ℕ) (before after : List CliqueBox) → W ≡ before ++ (boxes_from v by least n level parent left place k ++ after) → length before ≡ place
      → IsHeld v W (box_of v by level parent left k) → All (IsHeld v W) (boxes_from v by least n level parent left place k)

  -- the boxes side by side within that of their parent, which has place p
  held_beside : (n level : ℕ) → AllHeld n level → (p : ℕ) (outer : CliqueBox) → slice_get W p ≡ Some outer → level ≡ outer.level + 1
      → (left place : ℕ) (ks : List ℕ) (before after : List CliqueBox) → outer.left ≤ left → left + sum_by (width_of v by) ks ≤ outer.left + outer.width → All (λ (j : ℕ). parent_of v j ≡ outer.clique) ks
      → W ≡ before ++ (boxes_beside (width_of v by) (boxes_from v by least n level (Some p)) left place ks ++ after) → length before ≡ place
      → All (IsHeld v W) (boxes_beside (width_of v by) (boxes_from v by least n level (Some p)) left place ks)
  held_beside n level below p outer there up left place [] before after low room own is at = All-nil (IsHeld v W)
  held_beside n level below p outer there up left place (j ∷ js) before after low room own is at =
      let first = boxes_from v by least n level (Some p) left place j in
      let others = boxes_beside (width_of v by) (boxes_from v by least n level (Some p)) (left + width_of v by j) (place + length first) js in
      let split = sum_by-cons (width_of v by) j js in
      let size = length-append before first in
      let held : IsHeld v W (box_of v by level (Some p) left j) = λ some. record {
        place = p;
        outer = outer;
        parent = refl;
        there = there;
        its = sym (All-head (λ (i : ℕ). parent_of v i ≡ outer.clique) j js own);
        within = record { level = up; left = low; right = omega arith };
      } in
      let one : W ≡ before ++ (first ++ (others ++ after)) = is ∙ ap (λ (bs : List CliqueBox). before ++ bs) (append_assoc first others after) in
      All-append (IsHeld v W) first others
      (below (Some p) left place j before (others ++ after) one at held)
      (held_beside n level below p outer there up (left + width_of v by j) (place + length first) js (before ++ first) after (omega arith) (omega arith)
      (All-tail (λ (i : ℕ). parent_of v i ≡ outer.clique) j js own) (one ∙ sym (append_assoc before first (others ++ after))) (omega arith))

  all_held : (n level : ℕ) → AllHeld n level
  all_held zero level parent left place k before after is at held = All-nil (IsHeld v W)
  all_held (suc n) level parent left place k before after is at held =
      let box = box_of v by level parent left k in
      let others = boxes_beside (width_of v by) (boxes_from v by least n (suc level) (Some place)) left (place + 1) (shown_children v by least k) in
      let there : slice_get W place ≡ Some box = ap (λ (bs : List CliqueBox). slice_get bs place) is ∙ ap (λ (p : ℕ). slice_get (before ++ box ∷ (others ++ after)) p) (sym at) ∙ at_length before box (others ++ after) in
      let size = length_push before box in
      let within = fit k in
      All-cons (IsHeld v W) box others held
      (held_beside n (suc level) (all_held n (suc level)) place box there (omega arith) left (place + 1) (shown_children v by least k) (before ++ box ∷ []) after (omega arith) (omega arith)
      (All-filter (is_shown v by least) (λ (j : ℕ). parent_of v j ≡ k) (children v by k) (own_children v by k))
      (is ∙ sym (append_assoc before (box ∷ []) (others ++ after))) (omega arith))

pub boxes_held : (f : ProfileRows) (v : View) (by : Measure) (least : ℕ) → IsValid f → IsFileView f v → All (IsHeld v (picture v by least)) (picture v by least)
boxes_held f v by least valid viewed = elim (cases_eq (whole_of v by) 0) as (λ _. All (IsHeld v (picture v by least)) (picture v by least)) [
  | inl none ↦ rw (eq-eqb (whole_of v by) 0 none) (All-nil (IsHeld v []))
  | inr some ↦ (
      let W = boxes_from v by least (clique_count v.cliques) 0 None 0 0 0 in
      let first : IsHeld v W (box_of v by 0 None 0 0) = λ lt. absurd (omega arith) in
      rw (ne_eqb (whole_of v by) 0 some) (
      all_held v by least (widths_within f valid v viewed by (omega arith) least) W (clique_count v.cliques) 0 None 0 0 0 [] [] (sym (append-nil W)) refl first))
]

-- Boxes side by side are no wider together than their parent's: parts that are each rounded down add up to no more than their sum.
use Rattle.std.proofs.Common.{◌≡◌, ℕ, ◌+◌, ◌*◌, ◌/◌, ◌<◌, ◌≤◌, Bool, List, [], ◌∷◌, refl, ap, ◌∙◌, inl, inr, arith}
use Rattle.std.specs.List.{filter, sum_by}
use Rattle.std.proofs.lemmas.Bool.{cases_Bool}
use Rattle.std.proofs.lemmas.Nat.{div-mul-add, le-div}
use Rattle.std.proofs.lemmas.List.Sums.{sum_by-cons}
use Rattle.md_base.specs.declared.measure.Measure.{Measure}
use Rattle.md_dynamic.specs.Profile.{ProfileRows}
use Rattle.md_dynamic.specs.Valid.{IsValid}
use Rattle.md_cost.specs.FileView.{IsFileView}
use Rattle.md_cost.specs.View.{View}
use Rattle.md_cost.proofs.ValidSteps.{valid_sound}
use Rattle.md_people.specs.Counts.{whole_of}
use Rattle.md_people.specs.Tree.{children, clique_total, is_shown, shown_children}
use Rattle.md_people.proofs.Adding.{adds_up}
use Rattle.md_tree.specs.Picture.{millionths, width_of}

parts_add : (a b w : ℕ) → 0 < w → a / w + b / w ≤ (a + b) / w
parts_add a b w some = le-div (a / w + b / w) (a + b) w some (omega arith)

parts_rise : (a b w : ℕ) → 0 < w → a ≤ b → a / w ≤ b / w
parts_rise a b w some le = le-div (a / w) b w some (omega arith)

sum_of_parts : (f : ℕ → ℕ) (w : ℕ) (ks : List ℕ) → 0 < w → sum_by (λ k. millionths (f k) w) ks ≤ millionths (sum_by f ks) w
sum_of_parts f w [] some = omega arith
sum_of_parts f w (k ∷ ks) some =
    let rest = sum_of_parts f w ks some in
    let split = sum_by-cons (λ (j : ℕ). millionths (f j) w) k ks in
    let whole = sum_by-cons f k ks in
    let both = parts_add (1000000 * f k) (1000000 * sum_by f ks) w some in
    let same : 1000000 * f k + 1000000 * sum_by f ks ≡ 1000000 * sum_by f (k ∷ ks) = omega arith in
    let all : (1000000 * f k + 1000000 * sum_by f ks) / w ≡ millionths (sum_by f (k ∷ ks)) w = ap (λ (n : ℕ). n / w) same in
    omega arith

pub sum_of_some : (f : ℕ → ℕ) (p : ℕ → Bool) (ks : List ℕ) → sum_by f (filter p ks) ≤ sum_by f ks
sum_of_some f p [] = omega arith
sum_of_some f p (k ∷ ks) =
    let rest = sum_of_some f p ks in
    let split = sum_by-cons f k ks in
    elim (cases_Bool (p k)) as (λ _. sum_by f (filter p (k ∷ ks)) ≤ sum_by f (k ∷ ks)) [
      | inl holds ↦ (
          let more : sum_by f (filter p (k ∷ ks)) ≡ f k + sum_by f (filter p ks) = rw holds (sum_by-cons f k (filter p ks)) in
          omega arith)
      | inr fails ↦ (
          let same : sum_by f (filter p (k ∷ ks)) ≡ sum_by f (filter p ks) = rw fails refl in
          omega arith)
    ]

module _ (f : ProfileRows) (valid : IsValid f) (v : View) (viewed : IsFileView f v) (by : Measure) (some : 0 < whole_of v by) where
  pub widths_within : (least k : ℕ) → sum_by (width_of v by) (shown_children v by least k) ≤ width_of v by k
  widths_within least k =
      let adds = adds_up f (valid_sound f valid).links v.cliques v.entries viewed.tree v viewed by k in
      let fewer = sum_of_some (clique_total v by) (is_shown v by least) (children v by k) in
      let parts = sum_of_parts (clique_total v by) (whole_of v by) (shown_children v by least k) some in
      let up = parts_rise (1000000 * sum_by (clique_total v by) (shown_children v by least k)) (1000000 * clique_total v by k) (whole_of v by) some (omega arith) in
      omega arith

-- clique 0 is the whole
pub whole_width : (v : View) (by : Measure) → 0 < whole_of v by → width_of v by 0 ≡ 1000000
whole_width v by some =
    let same : 1000000 * whole_of v by ≡ 1000000 * whole_of v by + 0 = omega arith in
    ap (λ (n : ℕ). n / whole_of v by) same ∙ div-mul-add 1000000 (whole_of v by) 0 some

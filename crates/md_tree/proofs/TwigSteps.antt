-- What a step does to the twigs under way.
use Rattle.std.proofs.Common.{◌≡◌, ℕ, ◌+◌, ◌^◌, ◌<◌, ◌≤◌, true, false, List, [], ◌∷◌, ◌++◌, length, reverse, Some, refl, sym, ap, ◌∙◌, arith}
use Rattle.std.specs.Prelude.{All}
use Rattle.std.specs.List.{filter, sum_by}
use Rattle.std.proofs.lemmas.List.{append_assoc, length-append, length_push, reverse-append}
use Rattle.std.proofs.lemmas.List.Elements.{All-push}
use Rattle.std.proofs.lemmas.List.Sums.{sum_by-cons, sum_by_push}
use Rattle.md_base.specs.declared.measure.Measure.{Measure}
use Rattle.md_dynamic.specs.Profile.{ProfileRows}
use Rattle.md_dynamic.specs.Valid.{IsValid}
use Rattle.md_clique.specs.Cliques.{clique_count}
use Rattle.md_cost.specs.FileView.{IsFileView}
use Rattle.md_cost.specs.View.{View}
use Rattle.md_people.specs.Counts.{whole_of}
use Rattle.md_people.specs.Tree.{is_shown, shown_children}
use Rattle.md_tree.specs.declared.picture.CliqueBox.{CliqueBox}
use Rattle.md_tree.specs.declared.picture.Twig.{Twig}
use Rattle.md_tree.specs.declared.rest.Rest.{Rest}
use Rattle.md_tree.specs.Children.{AreChildren, AreChildrenOf, Child}
use Rattle.md_tree.specs.Picture.{boxes_beside, boxes_from, width_of}
use Rattle.md_tree.specs.Rests.{IsNext, HasAllOf, cliques_left}
use Rattle.md_tree.specs.Twigs.{Fits, IsTwig, all_work, open_boxes, past_box, shown_left, twig_boxes, twig_work}
use Rattle.md_tree.proofs.Boxes.{box_of, boxes_below}
use Rattle.md_tree.proofs.RestSteps.{next_left, next_lower, next_there, past_rest, whole_rest, work_of_next, work_past}
use Rattle.md_tree.proofs.Steps.{lower_told}
use Rattle.md_tree.proofs.Widths.{widths_within}

-- a twig below the box of another one's child, of which nothing was looked at
abbrev pub twig_at : Twig → Rest → (place : ℕ) → Twig
twig_at t below place = record { rest = below; level = t.level + 1; place = place; left = t.left }

module _ (n : ℕ) (cs : List Child) (are : AreChildren n cs) (t : Twig) (is : IsTwig n cs t) (c : Child) (next : IsNext cs t.rest c) where
  pub room_below : t.level + 1 < 2 ^ 32
  room_below =
      let low = next_lower n cs are t.rest c next in
      let there = next_there n cs are t.rest c next in
      let level = is.level in
      let small = are.small in
      omega arith

  past_twig : (w : ℕ) → IsTwig n cs (past_box t w)
  past_twig w = record { rest = past_rest n cs are t.rest c next is.rest; level = is.level }

  below_twig : (below : Rest) (place : ℕ) → HasAllOf cs c.2 below → IsTwig n cs (twig_at t below place)
  below_twig below place whole =
      let low = next_lower n cs are t.rest c next in
      let its = whole.parent in
      let level = is.level in record {
        rest = whole_rest n cs are c.2 below whole (next_there n cs are t.rest c next);
        level = omega arith;
      }

  module _ (before after : List Twig) (all : All (IsTwig n cs) before) where
    pub twigs_shown : (d : Twig) (w place : ℕ) → HasAllOf cs c.2 d.rest → d ≡ twig_at t d.rest place → after ≡ (before ++ past_box t w ∷ []) ++ d ∷ [] → All (IsTwig n cs) after
    twigs_shown d w place whole d_is after_is =
        let at : IsTwig n cs d = rw d_is (below_twig d.rest place whole) in
        rw after_is (All-push (IsTwig n cs) (before ++ past_box t w ∷ []) d (All-push (IsTwig n cs) before (past_box t w) all (past_twig w)) at)

    pub twigs_hidden : after ≡ before ++ past_box t 0 ∷ [] → All (IsTwig n cs) after
    twigs_hidden after_is = rw after_is (All-push (IsTwig n cs) before (past_box t 0) all (past_twig 0))

    pub fewer_shown : (d : Twig) (w : ℕ) → HasAllOf cs c.2 d.rest → after ≡ (before ++ past_box t w ∷ []) ++ d ∷ [] → all_work cs n after < twig_work cs n t + all_work cs n before
    fewer_shown d w whole after_is =
        let work = work_of_next n cs are t.rest d.rest c next whole in
        let first = sum_by_push (twig_work cs n) before (past_box t w) in
        let second = sum_by_push (twig_work cs n) (before ++ past_box t w ∷ []) d in
        rw after_is (omega arith)

    pub fewer_hidden : after ≡ before ++ past_box t 0 ∷ [] → all_work cs n after < twig_work cs n t + all_work cs n before
    fewer_hidden after_is =
        let work = work_past n cs are t.rest c next in
        let first = sum_by_push (twig_work cs n) before (past_box t 0) in
        rw after_is (omega arith)

-- ---- the boxes are the same, and there is room for them

module _ (v : View) (by : Measure) (least : ℕ) (cs : List Child) (t : Twig) (c : Child) (next : IsNext cs t.rest c) where
  shown_more : (w : ℕ) → is_shown v by least c.2 ≡ true → shown_left v by least cs t ≡ c.2 ∷ shown_left v by least cs (past_box t w)
  shown_more w shown = ap (λ (ks : List ℕ). filter (is_shown v by least) ks) (next_left cs t.rest c next) ∙ rw shown refl

  shown_same : is_shown v by least c.2 ≡ false → shown_left v by least cs t ≡ shown_left v by least cs (past_box t 0)
  shown_same hidden = ap (λ (ks : List ℕ). filter (is_shown v by least) ks) (next_left cs t.rest c next) ∙ rw hidden refl

  boxes_hidden : (place : ℕ) → is_shown v by least c.2 ≡ false → twig_boxes v by least cs place t ≡ twig_boxes v by least cs place (past_box t 0)
  boxes_hidden place hidden =
      let same : t.left ≡ t.left + 0 = omega arith in
      ap (λ (ks : List ℕ). boxes_beside (width_of v by) (boxes_from v by least (clique_count v.cliques) t.level (Some t.place)) t.left place ks) (shown_same hidden)
      ∙ ap (λ (left : ℕ). boxes_beside (width_of v by) (boxes_from v by least (clique_count v.cliques) t.level (Some t.place)) left place (shown_left v by least cs (past_box t 0))) same

  pub open_hidden : (boxes : List CliqueBox) (before after : List Twig) → is_shown v by least c.2 ≡ false → after ≡ before ++ past_box t 0 ∷ []
      → boxes ++ open_boxes v by least cs (length boxes) (reverse after) ≡ boxes ++ open_boxes v by least cs (length boxes) (t ∷ reverse before)
  open_hidden boxes before after hidden after_is =
      ap (λ (ts : List Twig). boxes ++ open_boxes v by least cs (length boxes) (reverse ts)) after_is
      ∙ ap (λ (ts : List Twig). boxes ++ open_boxes v by least cs (length boxes) ts) (reverse-append before (past_box t 0 ∷ []))
      ∙ ap (λ (bs : List CliqueBox). boxes ++ (bs ++ open_boxes v by least cs (length boxes + length bs) (reverse before))) (sym (boxes_hidden (length boxes) hidden))

  pub fits_hidden : (before after : List Twig) → Fits v by least cs t → All (Fits v by least cs) before → is_shown v by least c.2 ≡ false → after ≡ before ++ past_box t 0 ∷ [] → All (Fits v by least cs) after
  fits_hidden before after fits all hidden after_is =
      let same : sum_by (width_of v by) (shown_left v by least cs t) ≡ sum_by (width_of v by) (shown_left v by least cs (past_box t 0)) = ap (λ (ks : List ℕ). sum_by (width_of v by) ks) (shown_same hidden) in
      let at : Fits v by least cs (past_box t 0) = omega arith in
      rw after_is (All-push (Fits v by least cs) before (past_box t 0) all at)

  -- the box of the next child has room
  pub fits_next : Fits v by least cs t → is_shown v by least c.2 ≡ true → t.left + width_of v by c.2 ≤ 1000000
  fits_next fits shown =
      let more : sum_by (width_of v by) (shown_left v by least cs t) ≡ sum_by (width_of v by) (c.2 ∷ shown_left v by least cs (past_box t 0)) = ap (λ (ks : List ℕ). sum_by (width_of v by) ks) (shown_more 0 shown) in
      let split = sum_by-cons (width_of v by) c.2 (shown_left v by least cs (past_box t 0)) in
      omega arith

  module _ (are : AreChildren (clique_count v.cliques) cs) (told : AreChildrenOf v by cs) (d : Twig) (place : ℕ) (whole : HasAllOf cs c.2 d.rest) (d_is : d ≡ twig_at t d.rest place) (shown : is_shown v by least c.2 ≡ true) where
    shown_below : filter (is_shown v by least) (cliques_left cs d.rest) ≡ shown_children v by least c.2
    shown_below = ap (λ (ks : List ℕ). filter (is_shown v by least) ks) (whole.cliques ∙ told.below c.2)

    boxes_shown : twig_boxes v by least cs place t
        ≡ (box_of v by t.level (Some t.place) t.left c.2 ∷ twig_boxes v by least cs (place + 1) (twig_at t d.rest place))
        ++ twig_boxes v by least cs (place + length (box_of v by t.level (Some t.place) t.left c.2 ∷ twig_boxes v by least cs (place + 1) (twig_at t d.rest place))) (past_box t (width_of v by c.2))
    boxes_shown =
        let there = next_there (clique_count v.cliques) cs are t.rest c next in
        let others = boxes_beside (width_of v by) (boxes_from v by least (clique_count v.cliques) t.level (Some t.place)) in
        let rest = shown_left v by least cs (past_box t (width_of v by c.2)) in
        ap (λ (ks : List ℕ). others t.left place ks) (shown_more (width_of v by c.2) shown)
        ∙ ap (λ (bs : List CliqueBox). bs ++ others (t.left + width_of v by c.2) (place + length bs) rest) (
        boxes_below v by least (lower_told v by least cs are told) t.level (Some t.place) t.left place c.2 there
        ∙ ap (λ (ks : List ℕ). box_of v by t.level (Some t.place) t.left c.2 ∷ boxes_beside (width_of v by) (boxes_from v by least (clique_count v.cliques) (t.level + 1) (Some place)) t.left (place + 1) ks) (sym shown_below))

    pub open_shown : (box : CliqueBox) (w : ℕ) (boxes new : List CliqueBox) (before after : List Twig) → w ≡ width_of v by c.2 → box ≡ box_of v by t.level (Some t.place) t.left c.2 → place ≡ length boxes
        → new ≡ boxes ++ box ∷ [] → after ≡ (before ++ past_box t w ∷ []) ++ d ∷ []
        → new ++ open_boxes v by least cs (length new) (reverse after) ≡ boxes ++ open_boxes v by least cs (length boxes) (t ∷ reverse before)
    open_shown box w boxes new before after w_is box_is place_is new_is after_is =
        let e = twig_at t d.rest place in
        let p = past_box t (width_of v by c.2) in
        let its = box_of v by t.level (Some t.place) t.left c.2 in
        let X = twig_boxes v by least cs (place + 1) e in
        let Y = twig_boxes v by least cs ((place + 1) + length X) p in
        let size : length new ≡ place + 1 = ap (λ (bs : List CliqueBox). length bs) new_is ∙ length_push boxes box ∙ ap (λ (m : ℕ). m + 1) (sym place_is) in
        let turned : reverse after ≡ e ∷ p ∷ reverse before =
        ap (λ (ts : List Twig). reverse ts) (after_is ∙ ap (λ (x : Twig). (before ++ past_box t w ∷ []) ++ x ∷ []) d_is ∙ ap (λ (m : ℕ). (before ++ past_box t m ∷ []) ++ e ∷ []) w_is)
        ∙ reverse-append (before ++ p ∷ []) (e ∷ []) ∙ ap (λ (ts : List Twig). e ∷ ts) (reverse-append before (p ∷ [])) in
        let start : place + length (its ∷ X) ≡ (place + 1) + length X = omega arith in
        let all : twig_boxes v by least cs place t ≡ (its ∷ X) ++ Y = boxes_shown ∙ ap (λ (m : ℕ). (its ∷ X) ++ twig_boxes v by least cs m p) start in
        let both = length-append (its ∷ X) Y in
        let end : ((place + 1) + length X) + length Y ≡ place + length ((its ∷ X) ++ Y) = omega arith in
        ap (λ (bs : List CliqueBox). bs ++ open_boxes v by least cs (length new) (reverse after)) new_is
        ∙ ap (λ (m : ℕ). (boxes ++ box ∷ []) ++ open_boxes v by least cs m (reverse after)) size
        ∙ ap (λ (ts : List Twig). (boxes ++ box ∷ []) ++ open_boxes v by least cs (place + 1) ts) turned
        ∙ append_assoc boxes (box ∷ []) (X ++ (Y ++ open_boxes v by least cs (((place + 1) + length X) + length Y) (reverse before)))
        ∙ ap (λ (b : CliqueBox). boxes ++ (b ∷ (X ++ (Y ++ open_boxes v by least cs (((place + 1) + length X) + length Y) (reverse before))))) box_is
        ∙ ap (λ (m : ℕ). boxes ++ (its ∷ (X ++ (Y ++ open_boxes v by least cs m (reverse before))))) end
        ∙ ap (λ (bs : List CliqueBox). boxes ++ bs) (sym (append_assoc (its ∷ X) Y (open_boxes v by least cs (place + length ((its ∷ X) ++ Y)) (reverse before))))
        ∙ ap (λ (bs : List CliqueBox). boxes ++ (bs ++ open_boxes v by least cs (place + length bs) (reverse before))) (sym all)
        ∙ ap (λ (m : ℕ). boxes ++ open_boxes v by least cs m (t ∷ reverse before)) place_is

    pub fits_shown : (f : ProfileRows) → IsValid f → IsFileView f v → 0 < whole_of v by → (w : ℕ) (before after : List Twig) → w ≡ width_of v by c.2 → Fits v by least cs t → All (Fits v by least cs) before
        → after ≡ (before ++ past_box t w ∷ []) ++ d ∷ [] → All (Fits v by least cs) after
    fits_shown f valid viewed some w before after w_is fits all after_is =
        let more : sum_by (width_of v by) (shown_left v by least cs t) ≡ sum_by (width_of v by) (c.2 ∷ shown_left v by least cs (past_box t w)) = ap (λ (ks : List ℕ). sum_by (width_of v by) ks) (shown_more w shown) in
        let split = sum_by-cons (width_of v by) c.2 (shown_left v by least cs (past_box t w)) in
        let within = widths_within f valid v viewed by some least c.2 in
        let below : sum_by (width_of v by) (filter (is_shown v by least) (cliques_left cs d.rest)) ≡ sum_by (width_of v by) (shown_children v by least c.2) = ap (λ (ks : List ℕ). sum_by (width_of v by) ks) shown_below in
        let at_past : Fits v by least cs (past_box t w) = omega arith in
        let at_new : Fits v by least cs (twig_at t d.rest place) = omega arith in
        let at_d : Fits v by least cs d = rw d_is at_new in
        rw after_is (All-push (Fits v by least cs) (before ++ past_box t w ∷ []) d (All-push (Fits v by least cs) before (past_box t w) all at_past) at_d)

-- Paths up to clique 0, clique by clique.
use Rattle.std.proofs.Common.{◌≡◌, ℕ, suc, ◌+◌, ◌<◌, ◌≤◌, List, [], ◌∷◌, ◌++◌, length, get_or, refl, sym, ap, ◌∙◌, inl, inr, arith}
use Rattle.std.proofs.lemmas.Bool.{cases_eq, cases_lt}
use Rattle.std.proofs.lemmas.List.{get_or_append_left, get_or_push, length_push}
use Rattle.md_clique.specs.Cliques.{clique_count}
use Rattle.md_clique.proofs.Naming.{lt_clique_count}
use Rattle.md_cost.specs.Loading.{LoadedRows}
use Rattle.md_cost.specs.Sound.{AreSound}
use Rattle.md_cost.specs.Tree.{IsTree}
use Rattle.md_people.specs.Depths.{AreDepths, HasTop, path_up, start_up}
use Rattle.md_people.proofs.StationSteps.{path_end, path_on, start_lower, start_there}

module _ (l : LoadedRows) (sound : AreSound (length l.profile.nodes) l.profile.links) (tree : IsTree (length l.profile.nodes) l.profile.links l.cliques l.entries) where
  up_end : (c : ℕ) → get_or l.cliques c 0 ≡ 0 → path_up l c ≡ c ∷ []
  up_end c none = path_end l.profile sound l.cliques l.entries tree c none

  pub up_on : (c : ℕ) → c < length l.profile.nodes → 0 < get_or l.cliques c 0 → path_up l c ≡ c ∷ path_up l (start_up l (get_or l.cliques c 0))
  up_on c lt some = let size = tree.cliques_are.each in path_on l.profile sound l.cliques l.entries tree c (omega arith) some

  pub up_lower : (k : ℕ) → 0 < k → k < clique_count l.cliques → get_or l.cliques (start_up l k) 0 < k
  up_lower k some few = start_lower l.profile sound l.cliques l.entries tree k some few

  pub up_there : (k : ℕ) → 0 < k → k < clique_count l.cliques → start_up l k < length l.profile.nodes
  up_there k some few = let size = tree.cliques_are.each in let there = start_there l.profile sound l.cliques l.entries tree k some few in omega arith

  pub clique_below : (c : ℕ) → c < length l.profile.nodes → get_or l.cliques c 0 < clique_count l.cliques
  clique_below c lt = let size = tree.cliques_are.each in lt_clique_count l.cliques c (omega arith)

  -- a context of clique 0 is its whole path
  pub long_on : (c : ℕ) → 1 < length (path_up l c) → 0 < get_or l.cliques c 0
  long_on c long = elim (cases_lt 0 (get_or l.cliques c 0)) [
    | inl some ↦ some
    | inr none ↦ (let one : length (path_up l c) ≡ 1 = ap (λ (ds : List ℕ). length ds) (up_end c (omega arith)) in absurd (omega arith))
  ]

  -- of clique 0 alone
  pub first_depths : AreDepths l 1 (0 ∷ []) (0 ∷ [])
  first_depths = record {
    each = refl;
    each_top = refl;
    low = λ k lt. (let e : k ≡ 0 = omega arith in rw e (omega arith));
    are = λ c there lt. (let none : get_or l.cliques c 0 ≡ 0 = omega arith in ap (λ (ds : List ℕ). length ds) (up_end c none) ∙ sym (ap (λ (k : ℕ). get_or (0 ∷ []) k 0 + 1) none));
    tops_are = λ k some lt. absurd (omega arith);
  }

  -- the top of a context that stands among the first hundred, and of one below
  pub itself_top : (c : ℕ) → c < length l.profile.nodes → length (path_up l c) ≤ 100 → HasTop l c c
  itself_top c there short = record { there = there; below = []; is = refl; size = omega arith }

  pub above_top : (n : ℕ) (places tops : List ℕ) → AreDepths l n places tops → (c : ℕ) → c < length l.profile.nodes → get_or l.cliques c 0 < n → 100 ≤ get_or places (get_or l.cliques c 0) 0 → HasTop l c (get_or tops (get_or l.cliques c 0) 0)
  above_top n places tops depths c there known deep =
      let k = get_or l.cliques c 0 in
      let low = depths.low (get_or l.cliques c 0) known in
      let some : 0 < get_or l.cliques c 0 = omega arith in
      let top = depths.tops_are (get_or l.cliques c 0) some known in
      let long = depths.are c there known in
      let on = up_on c there some in
      let on_size : length (path_up l c) ≡ suc (length (path_up l (start_up l (get_or l.cliques c 0)))) = ap (λ (ds : List ℕ). length ds) on in
      let size = top.size in
      record {
        there = top.there;
        below = c ∷ top.below;
        is = on ∙ ap (λ (ds : List ℕ). c ∷ ds) top.is;
        size = omega arith;
      }

  -- one clique more
  pub more_depths : (k : ℕ) (places tops : List ℕ) (top above : ℕ) → 0 < k → k < clique_count l.cliques → AreDepths l k places tops → HasTop l (start_up l k) top → above ≡ get_or places (get_or l.cliques (start_up l k) 0) 0
      → AreDepths l (k + 1) (places ++ (above + 1) ∷ []) (tops ++ top ∷ [])
  more_depths k places tops top above some few depths top_is above_is =
      let size = depths.each in
      let size_top = depths.each_top in
      let lower = up_lower k some few in
      let there = up_there k some few in
      let low = depths.low (get_or l.cliques (start_up l k) 0) lower in
      let long = depths.are (start_up l k) there lower in
      record {
        each = (let more = length_push places (above + 1) in omega arith);
        each_top = (let more = length_push tops top in omega arith);
        low = λ j lt. elim (cases_eq j k) [
          | inl same ↦ (let at = get_or_push places (above + 1) 0 j (omega arith) in omega arith)
          | inr other ↦ (let at = get_or_append_left places ((above + 1) ∷ []) 0 j (omega arith) in let was = depths.low j (omega arith) in omega arith)
        ];
        are = λ c c_there lt. elim (cases_eq (get_or l.cliques c 0) k) [
          | inl same ↦ (
              let at = get_or_push places (above + 1) 0 (get_or l.cliques c 0) (omega arith) in
              let on = up_on c c_there (omega arith) in
              let on_size : length (path_up l c) ≡ suc (length (path_up l (start_up l k))) = ap (λ (ds : List ℕ). length ds) on ∙ ap (λ (j : ℕ). suc (length (path_up l (start_up l j)))) same in
              omega arith)
          | inr other ↦ (let at = get_or_append_left places ((above + 1) ∷ []) 0 (get_or l.cliques c 0) (omega arith) in let was = depths.are c c_there (omega arith) in omega arith)
        ];
        tops_are = λ j j_some lt. elim (cases_eq j k) as (λ _. HasTop l (start_up l j) (get_or (tops ++ top ∷ []) j 0)) [
          | inl same ↦ (
              let at = get_or_push tops top 0 j (omega arith) in
              let its : HasTop l (start_up l j) top = rw same top_is in
              rw at its)
          | inr other ↦ (
              let at = get_or_append_left tops (top ∷ []) 0 j (omega arith) in
              rw at (depths.tops_are j j_some (omega arith)))
        ];
      }

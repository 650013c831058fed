-- What is left of the children of a clique, in a list of all children by their parents.
use Rattle.std.proofs.Common.{◌≡◌, ℕ, ◌+◌, ◌<◌, ◌≤◌, true, false, eqb, ltb, List, [], ◌∷◌, ◌++◌, length, get_or, take, drop, refl, sym, ap, ◌∙◌, arith}
use Rattle.std.specs.Prelude.{All}
use Rattle.std.specs.List.{AllWithin, filter}
use Rattle.std.specs.List.Sorted.{IsNonDecreasingBy}
use Rattle.std.proofs.lemmas.Bool.{eq-eqb, ltb-true, ltb-false, ne_eqb}
use Rattle.std.proofs.lemmas.List.{drop_more, get_or-drop, get_or-take, get_or_default, length-drop, length-take-le, take-append-drop}
use Rattle.std.proofs.lemmas.List.Elements.{All-head, All-tail, filter-append}
use Rattle.std.proofs.lemmas.Option.{get_or_from_slice_get, slice_get_read}
use Rattle.md_tree.specs.declared.rest.Rest.{Rest}
use Rattle.md_tree.specs.Children.{Child}
use Rattle.md_tree.specs.Rests.{IsNext, left_of}

-- no child of a clique is among those of others
none_of : (k : ℕ) (cs : List Child) → All (λ (c : Child). c.0 ≡ k → ⊥) cs → filter (λ (c : Child). eqb c.0 k) cs ≡ []
none_of k [] all = refl
none_of k (c ∷ cs) all =
    let rest = none_of k cs (All-tail (λ (d : Child). d.0 ≡ k → ⊥) c cs all) in
    rw (ne_eqb c.0 k (All-head (λ (d : Child). d.0 ≡ k → ⊥) c cs all)) rest

-- where a partition by a parent says that it lies, its children are those from there on
module _ (k place : ℕ) (cs : List Child) (within : place ≤ length cs) where
  pub no_lower : AllWithin (λ (c : Child). ltb c.0 k ≡ false) cs place (length cs) → All (λ (c : Child). k ≤ c.0) (drop place cs)
  no_lower after i d lt =
      let size = length-drop place cs in
      let at = get_or-drop place cs i d in
      rw at (ltb-false (get_or cs (place + i) d).0 k (after (place + i) d (omega arith) (omega arith)))

  pub all_below : AllWithin (λ (c : Child). ltb c.0 k ≡ true) cs 0 place → filter (λ (c : Child). eqb c.0 k) (drop place cs) ≡ filter (λ (c : Child). eqb c.0 k) cs
  all_below before =
      let size = length-take-le place cs within in
      let none : filter (λ (c : Child). eqb c.0 k) (take place cs) ≡ [] = none_of k (take place cs) (λ i d lt e.
      (let at = get_or-take place cs i d (omega arith) in
      let low = ltb-true (get_or cs i d).0 k (before i d (omega arith) (omega arith)) in
      let same : (get_or cs i d).0 ≡ k = rw at at e in
      absurd (omega arith))) in
      sym (ap (λ (xs : List Child). filter (λ (c : Child). eqb c.0 k) xs) (sym (take-append-drop place cs))
      ∙ filter-append (λ (c : Child). eqb c.0 k) (take place cs) (drop place cs)
      ∙ ap (λ (xs : List Child). xs ++ filter (λ (c : Child). eqb c.0 k) (drop place cs)) none)

module _ (cs : List Child) (r : Rest) (c : Child) (there : r.place < length cs) (at : c ≡ get_or cs r.place c) where
  -- the child at its place is the next one
  pub is_next : c.0 ≡ r.parent → IsNext cs r c
  is_next its = record {
    there = there;
    at = slice_get_read cs (length cs) r.place c refl there at;
    its = its;
    left =
        ap (λ (xs : List Child). filter (λ (d : Child). eqb d.0 r.parent) xs) (drop_more cs r.place c there)
        ∙ ap (λ (x : Child). filter (λ (d : Child). eqb d.0 r.parent) (x ∷ drop (r.place + 1) cs)) (sym at)
        ∙ rw (eq-eqb c.0 r.parent its) refl;
  }

  -- where another one's stands there, none is left
  pub none_left : IsNonDecreasingBy (λ (d : Child). d.0) cs → All (λ (d : Child). r.parent ≤ d.0) (drop r.place cs) → (c.0 ≡ r.parent → ⊥) → left_of cs r ≡ []
  none_left up low other =
      let size = length-drop r.place cs in
      let begin : r.place + 0 ≡ r.place = omega arith in
      let here : (get_or (drop r.place cs) 0 c).0 ≡ c.0 = ap (λ (x : Child). x.0) (get_or-drop r.place cs 0 c ∙ ap (λ (n : ℕ). get_or cs n c) begin ∙ sym at) in
      let first : r.parent ≤ (get_or (drop r.place cs) 0 c).0 = low 0 c (omega arith) in
      none_of r.parent (drop r.place cs) (λ i d lt e.
      (let later : (get_or cs r.place d).0 ≤ (get_or cs (r.place + i) d).0 = up r.place (r.place + i) d (omega arith) (omega arith) in
      let from : (get_or cs r.place d).0 ≡ c.0 = ap (λ (x : Child). x.0) (get_or_default cs r.place d c there ∙ sym at) in
      let to : (get_or (drop r.place cs) i d).0 ≡ (get_or cs (r.place + i) d).0 = ap (λ (x : Child). x.0) (get_or-drop r.place cs i d) in
      other (omega arith)))

-- what holds of each child holds of the next one
pub of_next : (P : Child → Type 0) (cs : List Child) (r : Rest) (c : Child) → All P cs → IsNext cs r c → P c
of_next P cs r c all next =
    let is : get_or cs r.place c ≡ c = get_or_from_slice_get cs r.place c c next.at in
    rw is at (all r.place c next.there)

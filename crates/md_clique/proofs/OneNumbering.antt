-- A graph has one list of cliques.
use Rattle.std.proofs.Common.{◌≡◌, ℕ, zero, suc, ◌<◌, List, get_or, sym, ◌∙◌, inl, inr, arith}
use Rattle.std.proofs.lemmas.Bool.{cases_order}
use Rattle.std.proofs.lemmas.List.{ext_get_or}
use Rattle.md_trace.specs.Cliques.{AreCliques}

module _ (n : ℕ) (links : List (ℕ × ℕ)) where
  -- a lower number of the one list is that of a lesser node in the other, where the two agree
  not_lower : (xs ys : List ℕ) → AreCliques n links xs → AreCliques n links ys → (v : ℕ) → v < n → ((u : ℕ) → u < v → get_or xs u 0 ≡ get_or ys u 0) → get_or xs v 0 < get_or ys v 0 → ⊥
  not_lower xs ys are also v there before lower =
      let w = also.in_order v (get_or xs v 0) there lower in
      let less : w.0 < v = w.1 in
      let under : w.0 < n = omega arith in
      let same : get_or xs w.0 0 ≡ get_or xs v 0 = before w.0 w.1 ∙ w.2 in
      let both = (are.classes w.0 v under there).0 same in
      let too : get_or ys w.0 0 ≡ get_or ys v 0 = (also.classes w.0 v under there).1 both in
      let is : get_or ys w.0 0 ≡ get_or xs v 0 = w.2 in
      absurd (omega arith)

  agree : (xs ys : List ℕ) → AreCliques n links xs → AreCliques n links ys → (m v : ℕ) → v < m → v < n → get_or xs v 0 ≡ get_or ys v 0
  agree xs ys are also zero v h there = absurd (omega arith)
  agree xs ys are also (suc m) v h there = elim (cases_order (get_or xs v 0) (get_or ys v 0)) [
    | inl same ↦ same
    | inr apart ↦ elim apart [
      | inl lower ↦ absurd (not_lower xs ys are also v there (λ u less. agree xs ys are also m u (omega arith) (omega arith)) lower)
      | inr higher ↦ absurd (not_lower ys xs also are v there (λ u less. sym (agree xs ys are also m u (omega arith) (omega arith))) higher)
    ]
  ]

  pub one_numbering : (xs ys : List ℕ) → AreCliques n links xs → AreCliques n links ys → xs ≡ ys
  one_numbering xs ys are also = ext_get_or 0 xs ys (are.each ∙ sym also.each) (λ v h. agree xs ys are also (suc v) v (omega arith) (let e = are.each in omega arith))

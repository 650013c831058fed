-- How much is left to do below a clique doesn't depend on how many levels are looked at, where these are enough.
use Rattle.std.proofs.Common.{◌≡◌, ℕ, zero, suc, ◌+◌, ◌<◌, ◌≤◌, List, [], ◌∷◌, refl, ap, inl, inr, arith}
use Rattle.std.specs.Prelude.{All}
use Rattle.std.specs.List.{sum_by}
use Rattle.std.proofs.lemmas.Bool.{cases_eq, eq-eqb, ne_eqb}
use Rattle.std.proofs.lemmas.List.Elements.{All-cons, All-head, All-nil, All-tail, All-weaker}
use Rattle.std.proofs.lemmas.List.Sums.{sum_by-cons}
use Rattle.md_tree.specs.Children.{Child, cliques_below}
use Rattle.md_tree.specs.Rests.{work_below}

sum_agree : (f g : ℕ → ℕ) (ks : List ℕ) → All (λ k. f k ≡ g k) ks → sum_by f ks ≡ sum_by g ks
sum_agree f g [] all = refl
sum_agree f g (k ∷ ks) all =
    let first = All-head (λ (j : ℕ). f j ≡ g j) k ks all in
    let rest = sum_agree f g ks (All-tail (λ (j : ℕ). f j ≡ g j) k ks all) in
    let left = sum_by-cons f k ks in
    let right = sum_by-cons g k ks in
    omega arith

-- a child has a higher number than its parent
pub below_lower : (n k : ℕ) (cs : List Child) → All (λ (c : Child). (c.0 < c.2) × (c.2 < n)) cs → All (λ (j : ℕ). (k < j) × (j < n)) (cliques_below cs k)
below_lower n k [] lower = All-nil (λ (j : ℕ). (k < j) × (j < n))
below_lower n k (c ∷ cs) lower =
    let rest = below_lower n k cs (All-tail (λ (d : Child). (d.0 < d.2) × (d.2 < n)) c cs lower) in
    let first = All-head (λ (d : Child). (d.0 < d.2) × (d.2 < n)) c cs lower in
    elim (cases_eq c.0 k) as (λ _. All (λ (j : ℕ). (k < j) × (j < n)) (cliques_below (c ∷ cs) k)) [
      | inl its ↦ (let up = first.0 in let low : k < c.2 = omega arith in rw (eq-eqb c.0 k its) (All-cons (λ (j : ℕ). (k < j) × (j < n)) c.2 (cliques_below cs k) (low, first.1) rest))
      | inr other ↦ rw (ne_eqb c.0 k other) rest
    ]

module _ (n : ℕ) (cs : List Child) (lower : All (λ (c : Child). (c.0 < c.2) × (c.2 < n)) cs) where
  work_same : (a b k : ℕ) → k < n → n ≤ a + k → n ≤ b + k → work_below cs a k ≡ work_below cs b k
  work_same zero b k lt le also = absurd (omega arith)
  work_same (suc a) zero k lt le also = absurd (omega arith)
  work_same (suc a) (suc b) k lt le also =
      ap (λ (s : ℕ). 2 + s) (
      sum_agree (work_below cs a) (work_below cs b) (cliques_below cs k)
      (All-weaker (λ (j : ℕ). (k < j) × (j < n)) (λ (j : ℕ). work_below cs a j ≡ work_below cs b j)
      (λ j low. (let up = low.0 in work_same a b j low.1 (omega arith) (omega arith))) (cliques_below cs k) (below_lower n k cs lower)))

  pub work_on : (k : ℕ) → k < n → work_below cs n k ≡ 2 + sum_by (work_below cs n) (cliques_below cs k)
  work_on k lt = work_same n (suc n) k lt (omega arith) (omega arith)

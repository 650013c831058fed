-- The rows of a tree don't depend on how many steps down are allowed, where these are enough; and what the rows of some children are,
-- child by child.
use Rattle.std.proofs.Common.{◌≡◌, ℕ, zero, suc, ◌+◌, ◌<◌, ◌≤◌, true, false, List, [], ◌∷◌, ◌++◌, length, refl, ap, ◌∙◌, arith}
use Rattle.std.specs.Prelude.{All}
use Rattle.std.specs.List.{filter, flat_map, sum_by}
use Rattle.std.proofs.lemmas.Bool.{ne_eqb}
use Rattle.std.proofs.lemmas.List.{append_assoc}
use Rattle.std.proofs.lemmas.List.Elements.{All-filter, All-head, All-tail, All-weaker}
use Rattle.std.proofs.lemmas.List.Sums.{sum_by-cons}
use Rattle.md_base.specs.declared.measure.Measure.{Measure}
use Rattle.md_clique.specs.Cliques.{clique_count}
use Rattle.md_cost.specs.View.{View}
use Rattle.md_table.specs.Table.{LineCells}
use Rattle.md_people.specs.Tree.{children, clique_row, clique_total, hidden_children, is_shown, more_rows, rows_from, shown_children}
use Rattle.md_tree.specs.Branches.{hidden_among, more_of, rows_of_left}

flat_same : {X : Type 0} (f g : ℕ → List X) (ks : List ℕ) → All (λ k. f k ≡ g k) ks → flat_map f ks ≡ flat_map g ks
flat_same f g [] all = refl
flat_same f g (k ∷ ks) all = rw (All-head (λ (j : ℕ). f j ≡ g j) k ks all, flat_same f g ks (All-tail (λ (j : ℕ). f j ≡ g j) k ks all)) refl

module _ (v : View) (by : Measure) (least : ℕ) where
  pub more_told : (level : ℕ) (ks : List ℕ) → more_rows v by level ks ≡ more_of v by level (length ks) (sum_by (clique_total v by) ks)
  more_told level [] = refl
  more_told level (k ∷ ks) = rw (ne_eqb (length (k ∷ ks)) 0 (λ e. absurd (omega arith))) refl

  abbrev pub AreLower : Type 0
  AreLower = (k : ℕ) → k < clique_count v.cliques → All (λ j. (k < j) × (j < clique_count v.cliques)) (children v by k)

  module _ (lower : AreLower) where
    -- a clique is as far from the last clique as there are steps at most
    rows_same : (n m level k : ℕ) → k < clique_count v.cliques → clique_count v.cliques ≤ n + k → clique_count v.cliques ≤ m + k → rows_from v by least n level k ≡ rows_from v by least m level k
    rows_same zero m level k lt le also = absurd (omega arith)
    rows_same (suc n) zero level k lt le also = absurd (omega arith)
    rows_same (suc n) (suc m) level k lt le also =
        ap (λ (rows : List LineCells). clique_row v by level k ∷ (rows ++ more_rows v by (suc level) (hidden_children v by least k))) (
        flat_same (rows_from v by least n (suc level)) (rows_from v by least m (suc level)) (shown_children v by least k)
        (All-filter (is_shown v by least) (λ (j : ℕ). rows_from v by least n (suc level) j ≡ rows_from v by least m (suc level) j) (children v by k)
        (All-weaker (λ (j : ℕ). (k < j) × (j < clique_count v.cliques)) (λ (j : ℕ). rows_from v by least n (suc level) j ≡ rows_from v by least m (suc level) j)
        (λ j low. (let up = low.0 in rows_same n m (suc level) j low.1 (omega arith) (omega arith))) (children v by k) (lower k lt))))

    -- a clique's row, and the rows of its children
    pub rows_below : (level k : ℕ) → k < clique_count v.cliques → rows_from v by least (clique_count v.cliques) level k ≡ clique_row v by level k ∷ rows_of_left v by least (level + 1) 0 0 (children v by k)
    rows_below level k lt =
        let next : suc level ≡ level + 1 = omega arith in
        let count : length (hidden_children v by least k) ≡ 0 + length (hidden_children v by least k) = omega arith in
        let sum : sum_by (clique_total v by) (hidden_children v by least k) ≡ 0 + sum_by (clique_total v by) (hidden_children v by least k) = omega arith in
        rows_same (clique_count v.cliques) (suc (clique_count v.cliques)) level k lt (omega arith) (omega arith)
        ∙ ap (λ (rows : List LineCells). clique_row v by level k ∷ (flat_map (rows_from v by least (clique_count v.cliques) (suc level)) (shown_children v by least k) ++ rows)) (more_told (suc level) (hidden_children v by least k))
        ∙ ap (λ (up : ℕ). clique_row v by level k ∷ (flat_map (rows_from v by least (clique_count v.cliques) up) (shown_children v by least k) ++ more_of v by up (length (hidden_children v by least k)) (sum_by (clique_total v by) (hidden_children v by least k)))) next
        ∙ ap (λ (n : ℕ). clique_row v by level k ∷ (flat_map (rows_from v by least (clique_count v.cliques) (level + 1)) (shown_children v by least k) ++ more_of v by (level + 1) n (sum_by (clique_total v by) (hidden_children v by least k)))) count
        ∙ ap (λ (s : ℕ). clique_row v by level k ∷ (flat_map (rows_from v by least (clique_count v.cliques) (level + 1)) (shown_children v by least k) ++ more_of v by (level + 1) (0 + length (hidden_children v by least k)) s)) sum

  -- ---- child by child

  pub rows_of_none : (level n sum : ℕ) → rows_of_left v by least level n sum [] ≡ more_of v by level n sum
  rows_of_none level n sum =
      let same : n + 0 ≡ n = omega arith in
      let same_sum : sum + 0 ≡ sum = omega arith in
      ap (λ (m : ℕ). more_of v by level m (sum + 0)) same ∙ ap (λ (s : ℕ). more_of v by level n s) same_sum

  pub rows_of_shown : (level n sum k : ℕ) (ks : List ℕ) → is_shown v by least k ≡ true
      → rows_of_left v by least level n sum (k ∷ ks) ≡ rows_from v by least (clique_count v.cliques) level k ++ rows_of_left v by least level n sum ks
  rows_of_shown level n sum k ks shown =
      rw shown (append_assoc (rows_from v by least (clique_count v.cliques) level k) (flat_map (rows_from v by least (clique_count v.cliques) level) (filter (is_shown v by least) ks))
      (more_of v by level (n + length (hidden_among v by least ks)) (sum + sum_by (clique_total v by) (hidden_among v by least ks))))

  pub rows_of_hidden : (level n sum k : ℕ) (ks : List ℕ) → is_shown v by least k ≡ false
      → rows_of_left v by least level n sum (k ∷ ks) ≡ rows_of_left v by least level (n + 1) (sum + clique_total v by k) ks
  rows_of_hidden level n sum k ks hidden =
      let more : n + length (k ∷ hidden_among v by least ks) ≡ (n + 1) + length (hidden_among v by least ks) = omega arith in
      let split = sum_by-cons (clique_total v by) k (hidden_among v by least ks) in
      let more_sum : sum + sum_by (clique_total v by) (k ∷ hidden_among v by least ks) ≡ (sum + clique_total v by k) + sum_by (clique_total v by) (hidden_among v by least ks) = omega arith in
      rw hidden (
      ap (λ (m : ℕ). flat_map (rows_from v by least (clique_count v.cliques) level) (filter (is_shown v by least) ks) ++ more_of v by level m (sum + sum_by (clique_total v by) (k ∷ hidden_among v by least ks))) more
      ∙ ap (λ (s : ℕ). flat_map (rows_from v by least (clique_count v.cliques) level) (filter (is_shown v by least) ks) ++ more_of v by level ((n + 1) + length (hidden_among v by least ks)) s) more_sum)

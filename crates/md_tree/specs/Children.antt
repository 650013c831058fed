-- The children of all cliques, in one list by their parents.
use Rattle.std.specs.Prelude.{ℕ, ◌≡◌, ◌<◌, ◌^◌, ◌==◌, All, List, length, map}
use Rattle.std.specs.List.{filter}
use Rattle.std.specs.List.Sorted.{IsNonDecreasingBy}
use Rattle.std.specs.declared.cmp.Reverse.{Reverse}
use Rattle.md_base.specs.declared.measure.Measure.{Measure}
use Rattle.md_cost.specs.View.{View}
use Rattle.md_people.specs.Tree.{children, clique_total}

-- the parent of a clique, its total, and the clique itself
abbrev pub Child : Type 0
Child = ℕ × Reverse ℕ × ℕ

-- the cliques whose parent is this one, as they stand in the list
abbrev pub cliques_below : List Child → (parent : ℕ) → List ℕ
cliques_below cs k = map (λ c. c.2) (filter (λ c. c.0 == k) cs)

-- the list of a tree of so many cliques, of which there are fewer than 2 ^ 32: it has fewer, by their parents, which have lower numbers
pub record AreChildren (count : ℕ) (cs : List Child) : Type 0 where
  pub small : count < 2 ^ 32
  pub few : length cs < count
  pub by_parent : IsNonDecreasingBy (λ c. c.0) cs
  pub lower : All (λ c. (c.0 < c.2) × (c.2 < count)) cs

-- the list of a view's tree: below each clique its children, in their order, and each with its total
pub record AreChildrenOf (v : View) (by : Measure) (cs : List Child) : Type 0 where
  pub totals : All (λ c. c.1.0 ≡ clique_total v by c.2) cs
  pub below : (k : ℕ) → cliques_below cs k ≡ children v by k

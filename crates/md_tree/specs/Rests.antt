-- The children of a clique that are still to be looked at, in the list of all children.
use Rattle.std.specs.Prelude.{ℕ, zero, suc, ◌≡◌, ◌<◌, ◌≤◌, ◌+◌, ◌==◌, All, List, ◌∷◌, length, map, drop, slice_get, sum_by, Some}
use Rattle.std.specs.List.{filter}
use Rattle.md_tree.specs.declared.rest.Rest.{Rest}
use Rattle.md_tree.specs.Children.{Child, cliques_below}

abbrev pub left_of : List Child → Rest → List Child
left_of cs r = filter (λ c. c.0 == r.parent) (drop r.place cs)

abbrev pub cliques_left : List Child → Rest → List ℕ
cliques_left cs r = map (λ c. c.2) (left_of cs r)

-- all but the child at its place
abbrev pub past : Rest → Rest
past r = record r { place = r.place + 1 }

-- the child that stands at its place is the first that is left
pub record IsNext (cs : List Child) (r : Rest) (c : Child) : Type 0 where
  pub there : r.place < length cs
  pub at : slice_get cs r.place ≡ Some c
  pub its : c.0 ≡ r.parent
  pub left : left_of cs r ≡ c ∷ left_of cs (past r)

-- children of a clique among so many: none has a lower parent
pub record IsRest (count : ℕ) (cs : List Child) (r : Rest) : Type 0 where
  pub parent : r.parent < count
  pub place : r.place ≤ length cs
  pub past : All (λ c. r.parent ≤ c.0) (drop r.place cs)

-- all children of clique k are left
pub record HasAllOf (cs : List Child) (k : ℕ) (r : Rest) : Type 0 where
  pub parent : r.parent ≡ k
  pub place : r.place ≤ length cs
  pub past : All (λ c. k ≤ c.0) (drop r.place cs)
  pub cliques : cliques_left cs r ≡ cliques_below cs k

-- ---- how much is left to do

-- at a clique and all that is below it, in so many levels
abbrev pub work_below : List Child → (levels : ℕ) → ℕ → ℕ
work_below cs zero k = 0
work_below cs (suc n) k = 2 + sum_by (work_below cs n) (cliques_below cs k)

abbrev pub rest_work : List Child → (levels : ℕ) → Rest → ℕ
rest_work cs n r = 1 + sum_by (work_below cs n) (cliques_left cs r)

-- What the list of each node's clique says: how many cliques there are, and the members of each.
use Rattle.std.specs.Prelude.{ℕ, ◌+◌, ◌==◌, List, [], ◌∷◌, max}
use Rattle.md_clique.specs.Places.{places}

-- how many cliques there are: one more than the largest number
abbrev pub clique_count : List ℕ → ℕ
clique_count [] = 0
clique_count (k ∷ ks) = max (k + 1) (clique_count ks)

-- the nodes of a clique, in rising order
abbrev pub members_of : List ℕ → ℕ → List ℕ
members_of cliques k = places (λ number. number == k) cliques

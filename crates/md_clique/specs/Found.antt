-- What is known of the links that enter cliques after the first k links: the first one of each clique, and the lowest
-- clique that is entered by two.
use Rattle.std.specs.Prelude.{ℕ, ◌≡◌, ◌≤◌, ◌<◌, Bool, true, List, [], ◌∷◌, length, take, Option, Some, None, slice_index, nat_lt}
use Rattle.md_clique.specs.Cliques.{clique_count}
use Rattle.md_clique.specs.Entries.{entries}
use Rattle.md_clique.specs.declared.entries.Twice.{Twice}

-- the first of these places, or a number that is no place
abbrev pub first_of : List ℕ → ℕ
first_of [] = 4294967295
first_of (a ∷ rest) = a

-- a clique is lower than the one that is entered twice, if there is one
abbrev pub is_lower : ℕ → Option Twice → Bool
is_lower k None = true
is_lower k (Some t) = nat_lt k t.clique

-- the lowest of so many cliques that has two places or more, with the first two; or there is none
abbrev pub IsLowestTwice : ℕ → (ℕ → List ℕ) → Option Twice → Type 0
IsLowestTwice count places None = (k : ℕ) → k < count → length (places k) ≤ 1
IsLowestTwice count places (Some t) = (t.clique < count) × (take 2 (places t.clique) ≡ t.a ∷ t.b ∷ []) × ((k : ℕ) → k < t.clique → length (places k) ≤ 1)

pub record AreFound (cliques : List ℕ) (links : List (Option ℕ × ℕ)) (k : ℕ) (first : List ℕ) (twice : Option Twice) : Type 0 where
  pub each : length first ≡ clique_count cliques
  pub firsts : (q : ℕ) → q < clique_count cliques → slice_index first q ≡ first_of (entries cliques (take k links) q)
  pub lowest : IsLowestTwice (clique_count cliques) (λ q. entries cliques (take k links) q) twice

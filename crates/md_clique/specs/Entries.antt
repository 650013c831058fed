-- Which links enter a clique. Links are given with where they start, which is nowhere for the root link.
use Rattle.std.specs.Prelude.{ℕ, ◌≡◌, ◌<◌, ◌==◌, ◌&&◌, Bool, true, not, List, [], ◌∷◌, length, take, Option, Some, None, slice_get, slice_index}
use Rattle.md_trace.specs.Reaches.{Reaches}
use Rattle.md_trace.specs.Cliques.{with_edge}
use Rattle.md_clique.specs.Places.{places}
use Rattle.md_clique.specs.Cliques.{clique_count}
use Rattle.md_clique.specs.declared.entries.EnterFault.{EnterFault}
use Rattle.md_clique.specs.declared.entries.EnterFault.TheVariants.{TwoEntries, NoMemory}

-- where the links start and end, in order, but for those that start nowhere
abbrev pub edges_of : List (Option ℕ × ℕ) → List (ℕ × ℕ)
edges_of [] = []
edges_of (x ∷ xs) = with_edge x.0 x.1 (edges_of xs)

-- the start is not in the clique
abbrev pub is_outside : List ℕ → ℕ → Option ℕ → Bool
is_outside cliques k None = true
is_outside cliques k (Some from) = not (slice_index cliques from == k)

-- the link enters the clique: it ends there, and starts elsewhere or nowhere
abbrev pub enters : List ℕ → ℕ → Option ℕ × ℕ → Bool
enters cliques k link = slice_index cliques link.1 == k && is_outside cliques k link.0

-- the places of the links that enter the clique, in rising order
abbrev pub entries : List ℕ → List (Option ℕ × ℕ) → ℕ → List ℕ
entries cliques links k = places (enters cliques k) links

-- a link starts nowhere, and each of n nodes is reached from where it ends
pub record AreReached (links : List (Option ℕ × ℕ)) (n : ℕ) : Type 0 where
  pub place : ℕ
  pub root : ℕ
  pub is_root : slice_get links place ≡ Some (None, root)
  pub reached : (v : ℕ) → v < n → Reaches (edges_of links) root v

-- clique by clique, the place of the one link that enters it
pub record AreEntries (cliques : List ℕ) (links : List (Option ℕ × ℕ)) (found : List ℕ) : Type 0 where
  pub each : length found ≡ clique_count cliques
  pub one : (k : ℕ) → k < clique_count cliques → entries cliques links k ≡ slice_index found k ∷ []

-- links a and b are the first two that enter clique k, and each lower clique is entered by one
pub record IsEnteredTwice (cliques : List ℕ) (links : List (Option ℕ × ℕ)) (k a b : ℕ) : Type 0 where
  pub there : k < clique_count cliques
  pub two : take 2 (entries cliques links k) ≡ a ∷ b ∷ []
  pub lowest : (j : ℕ) → j < k → length (entries cliques links j) ≡ 1

-- when each answer other than Ok may come
abbrev pub MayFault : List ℕ → List (Option ℕ × ℕ) → EnterFault → Type 0
MayFault cliques links (TwoEntries k a b) = IsEnteredTwice cliques links k a b
MayFault cliques links NoMemory = Unit {0}

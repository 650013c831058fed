-- Whether a profile has a view, and how its cliques are entered.
use Rattle.std.specs.Prelude.{ℕ, ◌≡◌, ◌<◌, List, [], ◌∷◌, length}
use Rattle.md_trace.specs.Cliques.{AreCliques}
use Rattle.md_dynamic.specs.Profile.{ProfileRows}
use Rattle.md_clique.specs.Cliques.{clique_count}
use Rattle.md_clique.specs.Entries.{edges_of, entries}
use Rattle.md_cost.specs.FileView.{IsFileView}
use Rattle.md_cost.specs.Paths.{ends}
use Rattle.md_cost.specs.Tree.{HasNoTree}
use Rattle.md_cost.specs.View.{View}

-- some clique of the profile is entered by two links
pub record IsEnteredTwice (f : ProfileRows) : Type 0 where
  pub clique : ℕ
  pub first : ℕ
  pub second : ℕ
  pub twice : HasNoTree (length f.nodes) f.links clique first second

-- the profile has this view and no other
pub record HasView (f : ProfileRows) (v : View) : Type 0 where
  pub is_view : IsFileView f v
  pub alone : (w : View) → IsFileView f w → w ≡ v

-- these are the cliques of the profile
abbrev pub AreCliquesIn : ProfileRows → List ℕ → Type 0
AreCliquesIn f cliques = AreCliques (length f.nodes) (edges_of (ends f.links)) cliques

-- the links that enter a clique, by their places
abbrev pub entries_in : ProfileRows → List ℕ → ℕ → List ℕ
entries_in f cliques k = entries cliques (ends f.links) k

-- clique 0 is entered by the root link alone, which stands at place 0, and each clique by exactly one link
pub record AreEnteredOnce (f : ProfileRows) (cliques : List ℕ) : Type 0 where
  pub root : entries_in f cliques 0 ≡ 0 ∷ []
  pub one : (k : ℕ) → k < clique_count cliques → (place : ℕ) × (entries_in f cliques k ≡ place ∷ [])

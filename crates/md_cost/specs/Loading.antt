-- A loaded profile: the profile with its cliques and the links that enter them.
use Rattle.std.specs.Prelude.{ℕ, ◌≡◌, ◌<◌, ◌^◌, List, length}
use Rattle.md_dynamic.specs.Profile.{ProfileRows}
use Rattle.md_cost.specs.Sound.{AreSound}
use Rattle.md_cost.specs.Tree.{IsTree}

pub record LoadedRows : Type 0 where
  pub profile : ProfileRows
  pub cliques : List ℕ
  pub entries : List ℕ

-- its contexts and links keep the rules on which totals rest
pub record IsSoundProfile (p : ProfileRows) : Type 0 where
  pub few_nodes : length p.nodes < 2 ^ 32
  pub links : AreSound (length p.nodes) p.links

-- the profile with its cliques and entries, which leave no choice
pub record IsLoadedOf (p : ProfileRows) (loaded : LoadedRows) : Type 0 where
  pub profile : loaded.profile ≡ p
  pub tree : IsTree (length p.nodes) p.links loaded.cliques loaded.entries

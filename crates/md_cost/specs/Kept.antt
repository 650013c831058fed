-- What a `Loaded` keeps: the tree of its valid profile, the sums of each kind of row, and the lists of links and contexts.
use Rattle.std.specs.Prelude.{length}
use Rattle.md_dynamic.specs.Valid.{IsValid}
use Rattle.md_cost.specs.declared.loaded.Loaded.TheInside.{Inside}
use Rattle.md_cost.specs.Costs.{AreCosts}
use Rattle.md_cost.specs.Lists.{AreLists}
use Rattle.md_cost.specs.Tree.{IsTree}

pub record IsKept (a : Inside) : Type 0 where
  pub valid : IsValid a.profile
  pub tree : IsTree (length a.profile.nodes) a.profile.links a.tree.cliques a.tree.entries.items
  pub lists : AreLists a.profile a.lists
  pub costs : AreCosts a.profile a.tree.cliques a.tree.entries.items a.costs

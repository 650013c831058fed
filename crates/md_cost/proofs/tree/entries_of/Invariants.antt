use Rattle.md_clique.specs.Found.{AreFound}
use Rattle.md_cost.specs.Paths.{ends}
use Rattle.md_cost.proofs.tree.entries_of.Given as goal

abbrev pub invariant-loop-place : goal.invariant-loop-place
invariant-loop-place l = AreFound l.cliques (ends l.links) l.place l.found.first.items l.found.twice

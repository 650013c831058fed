use Rattle.md_clique.specs.Found.{AreFound}
use Rattle.md_clique.proofs.entries.entering.Given as goal

abbrev pub invariant-loop-place : goal.invariant-loop-place
invariant-loop-place l = AreFound l.cliques l.links l.place l.found.first.items l.found.twice

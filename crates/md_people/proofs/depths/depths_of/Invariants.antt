use Rattle.md_people.specs.Depths.{AreDepths}
use Rattle.md_people.proofs.depths.depths_of.Given as goal

abbrev pub invariant-loop-clique : goal.invariant-loop-clique
invariant-loop-clique l = AreDepths l.loaded l.clique l.places.items l.tops.items

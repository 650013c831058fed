use Rattle.std.proofs.Common.{map}
use Rattle.md_cost.specs.Outermost.{WalkStands}
use Rattle.md_cost.specs.Walking.{at_bound, work}
use Rattle.md_cost.proofs.outermost.find_outermost.Given as goal

abbrev pub invariant-loop-walk : goal.invariant-loop-walk
invariant-loop-walk l = WalkStands l.profile l.tree.cliques l.tree.entries.items l.walk

abbrev pub decreases-loop-walk : goal.decreases-loop-walk
decreases-loop-walk l = work l.tree.cliques (map at_bound l.walk.first.items) l.walk.at

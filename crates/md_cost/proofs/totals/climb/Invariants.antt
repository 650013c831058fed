use Rattle.std.proofs.Common.{◌-◌}
use Rattle.md_cost.specs.Paths.{start_of}
use Rattle.md_cost.proofs.ClimbSteps.{Climbed}
use Rattle.md_cost.proofs.totals.climb.Given as goal

abbrev pub invariant-loop-clique : goal.invariant-loop-clique
invariant-loop-clique l = Climbed l.cliques (start_of l.links l.entries) l.links (l.clique - 1) l.sums

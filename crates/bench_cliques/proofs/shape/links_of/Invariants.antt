use Rattle.std.proofs.Common.{◌<◌, All}
use Rattle.bench_cliques.proofs.shape.links_of.Given as goal

abbrev pub invariant-loop-place : goal.invariant-loop-place
invariant-loop-place l = All (λ link. (link.0 < l.nodes) × (link.1 < l.nodes)) l.links.items

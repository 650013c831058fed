use Rattle.std.proofs.Common.{◌≡◌, take}
use Rattle.md_cost.specs.Lists.{starts_of}
use Rattle.md_cost.proofs.lists.links_by_start.Given as goal

abbrev pub invariant-loop-link : goal.invariant-loop-link
invariant-loop-link l = l.starts.items ≡ starts_of l.nodes (take l.link-index l.links)

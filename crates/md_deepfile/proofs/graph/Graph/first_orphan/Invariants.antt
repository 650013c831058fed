use Rattle.std.proofs.Common.{◌≡◌, ◌-◌, length}
use Rattle.md_deepfile.specs.Rules.{orphan_from}
use Rattle.md_deepfile.proofs.graph.Graph.first_orphan.Given as goal

abbrev pub invariant-loop-context : goal.invariant-loop-context
invariant-loop-context l = orphan_from l.self.links 1 (length l.self.nodes - 1) ≡ orphan_from l.self.links l.context (length l.self.nodes - l.context)

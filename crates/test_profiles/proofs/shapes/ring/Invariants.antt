use Rattle.std.proofs.Common.{◌<◌, All, ℕ}
use Rattle.test_profiles.proofs.shapes.ring.Given as goal

abbrev pub invariant-loop-node : goal.invariant-loop-node
invariant-loop-node l = All (λ (link : ℕ × ℕ). (link.0 < l.nodes) × (link.1 < l.nodes)) l.links.items

use Rattle.std.proofs.Common.{◌<◌, All, ℕ}
use Rattle.test_profiles.proofs.shapes.small_graph.Given as goal

abbrev pub invariant-loop-to : goal.invariant-loop-to
invariant-loop-to l = All (λ (link : ℕ × ℕ). (link.0 < 4) × (link.1 < 4)) l.links.items

abbrev pub invariant-loop-from : goal.invariant-loop-from
invariant-loop-from l = All (λ (link : ℕ × ℕ). (link.0 < 4) × (link.1 < 4)) l.links.items

use Rattle.std.proofs.Common.{◌<◌, All, ℕ}
use Rattle.test_profiles.proofs.shapes.random.Given as goal

abbrev pub invariant-loop : goal.invariant-loop
invariant-loop l = All (λ (link : ℕ × ℕ). (link.0 < l.nodes) × (link.1 < l.nodes)) l.links.items

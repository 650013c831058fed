use Rattle.std.proofs.Common.{◌<◌, All, ℕ}
use Rattle.test_profiles.proofs.shapes.links_in.Given as goal

abbrev pub invariant-loop-word : goal.invariant-loop-word
invariant-loop-word l = All (λ (link : ℕ × ℕ). (link.0 < l.nodes) × (link.1 < l.nodes)) l.links.items

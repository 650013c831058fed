use Rattle.std.proofs.Common.{◌≡◌, ℕ, List, drop}
use Rattle.md_modes.specs.Branches.{some_of, outside}
use Rattle.md_modes.specs.Tally.{AreCounts, IsLocal}
use Rattle.md_modes.proofs.nonlocals.Nonlocals.has_some.Given as goal

abbrev pub invariant-loop-place : goal.invariant-loop-place
invariant-loop-place l =
    (all vars : List ℕ) → AreCounts l.self.all.now all → IsLocal l.self.local.now.places.items l.self.local.now.counts.items vars
    → some_of (outside all vars) l.places ≡ some_of (outside all vars) (drop l.place-index l.places)

use Rattle.std.proofs.Common.{take}
use Rattle.md_modes.specs.Tally.{AreCounts}
use Rattle.md_modes.proofs.tally.counts_of.Given as goal

abbrev pub invariant-loop-place : goal.invariant-loop-place
invariant-loop-place l = AreCounts l.counts.items (take l.place-index l.places)

use Rattle.std.proofs.Common.{take}
use Rattle.md_modes.specs.Tally.{IsLocal}
use Rattle.md_modes.proofs.local.Local.grouped.Given as goal

abbrev pub invariant-loop-place : goal.invariant-loop-place
invariant-loop-place l = IsLocal l.local.places.items l.local.counts.items (take l.place-index l.vars)

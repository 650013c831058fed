use Rattle.std.proofs.Common.{◌≤◌, [], length}
use Rattle.md_modes.specs.Tally.{Adds}
use Rattle.md_modes.proofs.tally.reach.Given as goal

abbrev pub invariant-loop-turn : goal.invariant-loop-turn
invariant-loop-turn l = Adds l.fn.counts.items l.counts.items [] × (l._turn ≤ length l.counts.items)

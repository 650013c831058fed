use Rattle.md_modes.proofs.Counts.{counts_place, times-take}
use Rattle.md_modes.proofs.tally.counts_of.Goals as goal
use Rattle.std.proofs.Common.{arith, get_or}

pub add_variable-requires : goal.add_variable-requires
add_variable-requires c =
    let i = c.loop-place.place-index in
    let ys = c.args.places.now in
    omega (arith, c.loop-place.invariant (get_or ys i 0), times-take (get_or ys i 0) ys i)

pub loop-place-preserved : goal.loop-place-preserved
loop-place-preserved c =
    counts_place c.loop-place.counts.items c.add_variable.new.counts.items c.args.places.now c.loop-place.place-index
    c.loop-place-test.true c.loop-place.invariant c.in_ok-add_variable.ensures

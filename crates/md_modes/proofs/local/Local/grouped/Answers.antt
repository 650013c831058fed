use Rattle.std.proofs.Common.{refl, arith, take}
use Rattle.md_modes.proofs.Locals.{all_no_less, last-before, local-step, local-end}
use Rattle.md_modes.proofs.local.Local.grouped.Goals as goal

pub loop-place-preserved : goal.loop-place-preserved
loop-place-preserved c =
    let xs = c.args.vars.now in
    let i = c.loop-place.place-index in
    local-step c.add.new.self.places.items c.add.new.self.counts.items xs i _ c.loop-place-test.true refl
    (c.in_ok-add.ensures (take i xs) c.loop-place.invariant (all_no_less xs i c.requires c.loop-place-test.true))

pub returns : goal.returns
returns c = local-end c.loop-place.local.places.items c.loop-place.local.counts.items c.args.vars.now c.loop-place.place-index (omega arith) c.loop-place.invariant

pub add-requires : goal.add-requires
add-requires c =
    omega (arith, last-before c.loop-place.local.places.items c.loop-place.local.counts.items c.args.vars.now c.loop-place.place-index c.loop-place.invariant)

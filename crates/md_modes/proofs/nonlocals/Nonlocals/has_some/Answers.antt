use Rattle.std.proofs.Common.{◌≡◌, ◌∙◌, sym, false, get_or, arith}
use Rattle.std.proofs.lemmas.Grind.{common_steps}
use Rattle.md_modes.specs.Branches.{outside}
use Rattle.md_modes.proofs.Listed.{some-missed, not-less}
use Rattle.md_modes.proofs.nonlocals.Nonlocals.has_some.Goals as goal

pub loop-place-preserved : goal.loop-place-preserved
loop-place-preserved c all vars counts local =
    let x = get_or c.args.places.now c.loop-place.place-index 0 in
    let missed : outside all vars x ≡ false =
    not-less _ _ _ _ (sym (counts x) ∙ sym c.count_at.ensures) (sym (c.count_of.ensures vars local)) c.if-count_of-count_at.false in
    some-missed (outside all vars) c.args.places.now c.loop-place.place-index c.loop-place-test.true missed (c.loop-place.invariant all vars counts local)

pub returns-then-count_of-count_at : goal.returns-then-count_of-count_at
returns-then-count_of-count_at c = grind (arith, common_steps)

pub returns : goal.returns
returns c = grind (arith, common_steps)

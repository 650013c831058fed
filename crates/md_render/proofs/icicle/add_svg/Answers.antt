use Rattle.md_render.proofs.Chains.{four-words}
use Rattle.md_render.proofs.icicle.add_svg.Goals as goal

pub returns : goal.returns
returns c = λ v is.
    four-words c.args.out.now.items _ _ _ _ _ _ _ _ (rw c.levels_of.ensures.levels at c.in_ok-add_number.ensures) c.in_ok-add.ensures (c.in_ok-add_boxes.ensures v is) c.in_ok-add-2.ensures

use Rattle.std.proofs.Common.{arith, refl}
use Rattle.std.proofs.lemmas.Grind.{common_steps}
use Rattle.md_render.specs.Icicle.{box_words}
use Rattle.md_render.proofs.Chains.{member_added}
use Rattle.md_render.proofs.icicle.add_boxes.Goals as goal

pub add_box-requires-clause-there : goal.add_box-requires-clause-there
add_box-requires-clause-there c = grind (arith, common_steps)

pub loop-it-preserved : goal.loop-it-preserved
loop-it-preserved c = λ v is.
    member_added (box_words v c.args.by) c.args.out.now.items c.loop-it.out.items c.add_box.new.out.items c.args.boxes.now c.loop-it.it-index _ _ c.loop-it-test.true (c.loop-it.invariant v is) (c.in_ok-add_box.ensures v is) refl

pub returns : goal.returns
returns c = λ v is. grind (arith, common_steps, c.loop-it.invariant v is)

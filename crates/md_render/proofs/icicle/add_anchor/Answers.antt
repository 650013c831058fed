use Rattle.md_render.proofs.Chains.{five-words}
use Rattle.md_render.proofs.icicle.add_anchor.Goals as goal

pub returns : goal.returns
returns c = five-words c.args.out.now.items _ _ _ _ _ _ _ _ _ _ c.in_ok-add_number.ensures c.in_ok-add_tip.ensures c.in_ok-add_rect.ensures c.in_ok-add_label.ensures c.in_ok-add.ensures

use Rattle.md_render.proofs.Chains.{five-added}
use Rattle.md_render.proofs.whole.add_head.Goals as goal

pub returns : goal.returns
returns c =
    five-added _ c.args.out.now.items _ _ _ _ _ _ _ _ _ _ c.in_ok-add.ensures c.in_ok-add_title.ensures c.in_ok-add-2.ensures c.in_ok-add_title-2.ensures
    c.add-3.ensures

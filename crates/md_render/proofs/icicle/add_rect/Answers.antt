use Rattle.md_render.proofs.Chains.{four-added}
use Rattle.md_render.proofs.icicle.add_rect.Goals as goal

pub returns : goal.returns
returns c = four-added c.add.result c.args.out.now.items _ _ _ _ _ _ _ _ c.in_ok-add_edge.ensures c.in_ok-add_number.ensures c.in_ok-add_edge-2.ensures c.add.ensures

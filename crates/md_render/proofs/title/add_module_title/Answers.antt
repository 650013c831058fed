use Rattle.md_render.proofs.Chains.{two-added}
use Rattle.md_render.proofs.title.add_module_title.Goals as goal

pub returns : goal.returns
returns c = two-added _ c.args.out.now.items _ _ _ _ c.in_ok-add.ensures c.add-2.ensures

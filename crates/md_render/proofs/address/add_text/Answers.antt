use Rattle.md_render.proofs.Chains.{two-added}
use Rattle.md_render.proofs.address.add_text.Goals as goal

pub returns : goal.returns
returns c = two-added _ c.args.out.now.items _ _ _ _ c.in_ok-add.ensures c.add_encoded.ensures

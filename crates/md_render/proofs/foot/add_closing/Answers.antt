use Rattle.md_table.proofs.Chains.{three-added}
use Rattle.md_render.proofs.foot.add_closing.Goals as goal

pub returns : goal.returns
returns c = three-added _ c.args.out.now.items _ _ _ _ _ _ c.in_ok-add_end.ensures c.in_ok-add_form.ensures c.add.ensures

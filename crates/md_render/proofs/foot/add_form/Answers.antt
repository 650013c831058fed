use Rattle.md_table.proofs.Chains.{three-added}
use Rattle.md_render.proofs.foot.add_form.Goals as goal

pub returns : goal.returns
returns c = three-added _ c.args.out.now.items _ _ _ _ _ _ c.in_ok-add.ensures (rw c.measure_word.ensures at c.in_ok-add-2.ensures) c.add-3.ensures

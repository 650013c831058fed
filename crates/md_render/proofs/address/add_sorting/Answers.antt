use Rattle.md_render.proofs.Chains.{four-added}
use Rattle.md_render.proofs.address.add_sorting.Goals as goal

pub returns : goal.returns
returns c = four-added _ c.args.out.now.items _ _ _ _ _ _ _ _ c.in_ok-add.ensures (rw c.measure_word.ensures at c.in_ok-add-2.ensures) c.in_ok-add_number.ensures c.add-3.ensures

use Rattle.md_table.proofs.Chains.{three-added}
use Rattle.md_render.proofs.address.add_sorted.Goals as goal

pub returns : goal.returns
returns c = three-added _ c.args.out.now.items _ _ _ _ _ _ c.in_ok-add_number.ensures c.in_ok-add.ensures (rw c.sort_word.ensures at c.add-2.ensures)

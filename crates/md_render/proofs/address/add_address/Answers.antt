use Rattle.md_table.proofs.Chains.{three-added}
use Rattle.md_render.proofs.address.add_address.Goals as goal

pub returns : goal.returns
returns c = three-added _ c.args.out.now.items _ _ _ _ _ _ (rw c.path_of.ensures at c.in_ok-add.ensures) (rw c.measure_word.ensures at c.in_ok-add-2.ensures) c.add_pairs.ensures

use Rattle.md_table.proofs.Chains.{three-added}
use Rattle.md_render.proofs.line.add_context_of.Goals as goal

pub returns : goal.returns
returns c =
    three-added _ c.args.out.now.items _ _ _ _ _ _ (rw c.number.ensures at c.in_ok-add_number.ensures) c.in_ok-add.ensures (rw c.clique_at.ensures at c.add_clique.ensures)

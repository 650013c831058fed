use Rattle.md_render.proofs.Chains.{five-added}
use Rattle.md_render.proofs.people.add_turn.Goals as goal

pub returns : goal.returns
returns c =
    five-added _ c.args.out.now.items _ _ _ _ _ _ _ _ _ _ c.in_ok-add.ensures c.in_ok-add_address.ensures (rw c.marked.ensures at c.in_ok-add-2.ensures)
    (rw c.measure_word.ensures at c.in_ok-add-3.ensures)
    c.add-4.ensures

use Rattle.md_render.proofs.Chains.{five-added}
use Rattle.md_render.proofs.people.add_opening.Goals as goal

pub returns : goal.returns
returns c =
    five-added _ c.args.out.now.items _ _ _ _ _ _ _ _ _ _ c.in_ok-add.ensures c.in_ok-add-2.ensures c.in_ok-add_styled.ensures c.in_ok-add-3.ensures
    c.add-4.ensures

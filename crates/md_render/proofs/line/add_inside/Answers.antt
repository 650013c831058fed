use Rattle.md_render.proofs.Chains.{four-added}
use Rattle.md_render.proofs.line.add_inside.Goals as goal

pub returns : goal.returns
returns c =
    four-added _ c.args.out.now.items _ _ _ _ _ _ _ _ c.in_ok-add.ensures c.in_ok-add_link.ensures c.in_ok-add-2.ensures
    (rw c.callee_at.ensures at c.add_context.ensures)

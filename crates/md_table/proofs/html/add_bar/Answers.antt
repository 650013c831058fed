use Rattle.md_table.proofs.Chains.{three-added}
use Rattle.md_table.proofs.html.add_bar.Goals as goal

pub returns : goal.returns
returns c = three-added _ c.args.out.now.items _ _ _ _ _ _ c.in_ok-add.ensures.added c.in_ok-add_escaped.ensures c.add-2.ensures.added

use Rattle.md_table.proofs.Chains.{three-added}
use Rattle.md_render.proofs.people.add_styled.Goals as goal

pub returns : goal.returns
returns c = three-added _ c.args.out.now.items _ _ _ _ _ _ c.in_ok-add.ensures c.in_ok-add_sheet.ensures c.add-2.ensures

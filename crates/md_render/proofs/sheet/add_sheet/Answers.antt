use Rattle.md_render.proofs.Chains.{five-added}
use Rattle.md_render.proofs.sheet.add_sheet.Goals as goal

pub returns : goal.returns
returns c = five-added _ c.args.out.now.items _ _ _ _ _ _ _ _ _ _ c.in_ok-add_colours.ensures c.in_ok-add_page.ensures c.in_ok-add_tables.ensures c.in_ok-add_narrow.ensures c.add_picture.ensures

use Rattle.std.proofs.Common.{arith, refl}
use Rattle.std.proofs.lemmas.Grind.{common_steps}
use Rattle.md_table.specs.Html.{cell_html}
use Rattle.md_table.proofs.Steps.{placed_added, placed_all}
use Rattle.md_table.proofs.html.add_cells.Goals as goal

pub loop-column-preserved : goal.loop-column-preserved
loop-column-preserved c =
    placed_added (cell_html c.args.heading.now.cells) c.args.out.now.items _ _ c.args.line.now.cells _ c.loop-column.column _ (omega (arith, c.loop-column-test.true, c.len-column-end.ensures)) c.loop-column.invariant
    (rw (c.heading_at.ensures, c.get.ensures) at c.in_ok-add_below.ensures)
    refl

pub returns : goal.returns
returns c = grind (arith, common_steps, placed_all (cell_html c.args.heading.now.cells) c.args.line.now.cells c.loop-column.column (omega (arith, c.loop-column-test.false, c.len-column-end.ensures)))

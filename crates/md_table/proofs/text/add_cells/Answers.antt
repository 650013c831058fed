use Rattle.std.proofs.Common.{[], arith}
use Rattle.std.proofs.lemmas.Grind.{common_steps}
use Rattle.md_table.specs.Table.{cell_words, width_in}
use Rattle.md_table.proofs.Steps.{placed_more, placed_all}
use Rattle.md_table.proofs.text.add_cells.Goals as goal

pub loop-column-preserved : goal.loop-column-preserved
loop-column-preserved c = grind (arith, common_steps, placed_more (cell_words (width_in c.args.widths.now)) c.args.line.now.cells [] c.loop-column.column (omega (arith, c.loop-column-test.true, c.len-column-end.ensures)))

pub returns : goal.returns
returns c = grind (arith, common_steps, placed_all (cell_words (width_in c.args.widths.now)) c.args.line.now.cells c.loop-column.column (omega (arith, c.loop-column-test.false, c.len-column-end.ensures)))

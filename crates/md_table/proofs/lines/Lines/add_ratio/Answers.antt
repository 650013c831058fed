use Rattle.std.proofs.Common.{[], ◌∷◌, ap, ◌∙◌}
use Rattle.std.proofs.lemmas.Result.{on_ok_weaker}
use Rattle.md_table.specs.Cells.{ratio_words}
use Rattle.md_table.specs.Table.{RowsCells, with_cells}
use Rattle.md_table.proofs.Kept.{cell_added}
use Rattle.md_table.proofs.lines.Lines.add_ratio.Goals as goal

pub returns : goal.returns
returns c =
    on_ok_weaker c.add_ratio.result
    (λ added.
    cell_added c.self.inside.cells c.add_ratio.new.self _ c.self.inside.spans.items c.self.inside.begun c.self.invariant.0 c.self.invariant.1 added
    ∙ ap (λ (rows : RowsCells). with_cells rows ((ratio_words c.args.total c.args.count) ∷ [])) c.self.view_is)
    c.add_ratio.ensures.added

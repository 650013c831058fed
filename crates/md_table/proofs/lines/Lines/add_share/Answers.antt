use Rattle.std.proofs.Common.{[], ◌∷◌, ap, ◌∙◌}
use Rattle.std.proofs.lemmas.Result.{on_ok_weaker}
use Rattle.md_table.specs.Cells.{share_words}
use Rattle.md_table.specs.Table.{RowsCells, with_cells}
use Rattle.md_table.proofs.Kept.{cell_added}
use Rattle.md_table.proofs.lines.Lines.add_share.Goals as goal

pub returns : goal.returns
returns c =
    on_ok_weaker c.add_share.result
    (λ added.
    cell_added c.self.inside.cells c.add_share.new.self _ c.self.inside.spans.items c.self.inside.begun c.self.invariant.0 c.self.invariant.1 added
    ∙ ap (λ (rows : RowsCells). with_cells rows ((share_words c.args.part c.args.whole) ∷ [])) c.self.view_is)
    c.add_share.ensures.added

use Rattle.std.proofs.Common.{rules, List, ℕ, [], ◌∷◌, ◌++◌, ap, ◌∙◌, map}
use Rattle.std.proofs.lemmas.Result.{on_ok_weaker}
use Rattle.md_table.specs.Cells.{change_words}
use Rattle.md_table.proofs.Kept.{cell_more}
use Rattle.md_table.specs.Spans.{cell_in}
use Rattle.md_table.specs.declared.span.Span.{Span}
use Rattle.md_table.proofs.cells.Cells.add_change.Goals as goal

pub returns-clause-added : goal.returns-clause-added
returns-clause-added c =
    on_ok_weaker c.end_cell.result
    (λ spans_are.
    ap (λ (spans : List Span). map (cell_in c.add_change.new.out.items) spans) spans_are
    ∙ cell_more c.self.inside.words.items c.add_change.new.out.items _ c.self.inside.spans.items _ _ c.self.invariant c.in_ok-add_change.ensures.added (search rules) (search rules)
    ∙ ap (λ (cells : List (List ℕ)). cells ++ change_words c.args.old c.args.new ∷ []) c.self.view_is)
    c.end_cell.ensures.ended

use Rattle.std.proofs.Common.{rules, ap, ◌∙◌}
use Rattle.md_table.specs.Table.{RowsCells, with_last}
use Rattle.md_table.proofs.Kept.{last_added}
use Rattle.md_table.proofs.lines.Lines.end.Goals as goal

pub returns : goal.returns
returns c =
    last_added c.self.inside.cells c.add_words.new.self c.args.last.now c.self.inside.spans.items _ c.self.inside.begun _ _ c.self.invariant.0 c.self.invariant.1
    (search rules) c.in_ok-push.ensures.items (search rules) (search rules)
    ∙ ap (λ (rows : RowsCells). with_last rows c.args.last.now) c.self.view_is

use Rattle.std.proofs.Common.{ap}
use Rattle.std.proofs.lemmas.Result.{on_ok_weaker}
use Rattle.md_table.specs.Table.{RowsCells}
use Rattle.md_compare.proofs.line.push_heading.Goals as goal

pub returns : goal.returns
returns c =
    on_ok_weaker c.end.result (λ ended. ap (λ (rows : RowsCells). rows.ended) ended)
    (rw (c.in_ok-add_words-7.ensures, c.in_ok-add_words-6.ensures, c.in_ok-add_words-5.ensures, c.in_ok-add_words-4.ensures, c.in_ok-add_words-3.ensures, c.in_ok-add_words-2.ensures, c.in_ok-add_words.ensures, c.begin.ensures)
    at c.end.ensures)

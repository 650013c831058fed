use Rattle.std.proofs.Common.{◌≡◌, ◌+◌, ◌++◌, [], ◌∷◌, take, refl, ◌∙◌}
use Rattle.std.proofs.lemmas.List.{take_more}
use Rattle.md_dump.proofs.Onward.{rows_push}
use Rattle.md_dump.proofs.running.rows_more.Goals as goal

pub loop-row-preserved : goal.loop-row-preserved
loop-row-preserved c =
    let next : take (c.loop-row.row-index + 1) c.args.rows.now ≡ take c.loop-row.row-index c.args.rows.now ++ c.row-item.result ∷ [] = take_more c.args.rows.now c.loop-row.row-index c.row-item.result c.loop-row-test.true ∙ (rw (← c.row-item.is) refl) in
    rw (next, c.in_ok-push.ensures.items) (rows_push c.args.file.now (take c.loop-row.row-index c.args.rows.now) c.loop-row.more.items c.row-item.result c.row_more.result c.loop-row.invariant c.row_more.ensures)

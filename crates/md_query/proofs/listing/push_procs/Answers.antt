use Rattle.std.proofs.Common.{ap, ◌∙◌, arith}
use Rattle.std.proofs.lemmas.Grind.{common_steps}
use Rattle.md_query.specs.PageOf.{proc_row}
use Rattle.md_query.proofs.ListSteps.{row_pushed}
use Rattle.md_query.proofs.listing.push_procs.Goals as goal

pub loop-id-preserved : goal.loop-id-preserved
loop-id-preserved c = λ v is.
    row_pushed (proc_row v) c.args.rows.now.items c.loop-id.rows.items c.push.new.self.items c.args.ids.now c.loop-id.id-index c.proc_row.result
    c.loop-id-test.true (c.loop-id.invariant v is) (c.proc_row.ensures v is ∙ ap (proc_row v) c.new.ensures) c.in_ok-push.ensures.items

pub returns : goal.returns
returns c = grind (arith, common_steps)

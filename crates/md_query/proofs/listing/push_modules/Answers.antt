use Rattle.md_query.specs.PageOf.{module_row}
use Rattle.md_query.proofs.ListSteps.{row_of_range}
use Rattle.md_query.proofs.listing.push_modules.Goals as goal
use Rattle.std.proofs.Common.{arith}
use Rattle.std.proofs.lemmas.Grind.{common_steps}

pub loop-id-preserved : goal.loop-id-preserved
loop-id-preserved c = λ v is.
    row_of_range (module_row v) c.args.rows.now.items c.loop-id.rows.items c.push.new.self.items c.loop-id.id c.module_row.result (c.loop-id.invariant v is) (c.module_row.ensures v is) c.in_ok-push.ensures.items

pub returns : goal.returns
returns c = grind (arith, common_steps)

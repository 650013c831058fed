use Rattle.std.proofs.Common.{ap, ◌∙◌, arith}
use Rattle.std.proofs.lemmas.Grind.{common_steps}
use Rattle.md_query.specs.PageOf.{site_row}
use Rattle.md_query.proofs.ListSteps.{row_pushed}
use Rattle.md_query.proofs.listing.push_sites.Goals as goal

pub loop-id-preserved : goal.loop-id-preserved
loop-id-preserved c = λ v is.
    row_pushed (site_row v) c.args.rows.now.items c.loop-id.rows.items c.push.new.self.items c.args.ids.now c.loop-id.id-index c.site_row.result
    c.loop-id-test.true (c.loop-id.invariant v is) (c.site_row.ensures v is ∙ ap (site_row v) c.new.ensures) c.in_ok-push.ensures.items

pub returns : goal.returns
returns c = grind (arith, common_steps)

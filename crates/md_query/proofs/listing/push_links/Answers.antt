use Rattle.std.proofs.Common.{ap, ◌∙◌, arith}
use Rattle.std.proofs.lemmas.Grind.{common_steps}
use Rattle.md_query.specs.PageOf.{link_row}
use Rattle.md_query.proofs.ListSteps.{row_pushed}
use Rattle.md_query.proofs.listing.push_links.Goals as goal

pub loop-link-preserved : goal.loop-link-preserved
loop-link-preserved c = λ v is.
    row_pushed (link_row v) c.args.rows.now.items c.loop-link.rows.items c.push.new.self.items c.args.links.now c.loop-link.link-index c.link_row.result
    c.loop-link-test.true (c.loop-link.invariant v is) (c.link_row.ensures v is ∙ ap (link_row v) c.new.ensures) c.in_ok-push.ensures.items

pub returns : goal.returns
returns c = grind (arith, common_steps)

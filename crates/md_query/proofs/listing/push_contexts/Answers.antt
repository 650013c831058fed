use Rattle.std.proofs.Common.{ap, ◌∙◌, arith}
use Rattle.std.proofs.lemmas.Grind.{common_steps}
use Rattle.md_query.specs.PageOf.{of_row}
use Rattle.md_query.proofs.ListSteps.{row_pushed}
use Rattle.md_query.proofs.listing.push_contexts.Goals as goal

pub loop-node-preserved : goal.loop-node-preserved
loop-node-preserved c = λ v is.
    row_pushed (of_row v) c.args.rows.now.items c.loop-node.rows.items c.push.new.self.items c.args.nodes.now c.loop-node.node-index c.of_row.result
    c.loop-node-test.true (c.loop-node.invariant v is) (c.of_row.ensures v is ∙ ap (of_row v) c.new.ensures) c.in_ok-push.ensures.items

pub returns : goal.returns
returns c = grind (arith, common_steps)

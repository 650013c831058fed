use Rattle.std.proofs.Common.{◌≡◌, arith}
use Rattle.md_cost.proofs.OwnSteps.{owning_more, owning_all}
use Rattle.md_cost.proofs.own.own_sums.Goals as goal

pub loop-node-preserved : goal.loop-node-preserved
loop-node-preserved c = rw c.in_ok-push.ensures.items (owning_more c.args.links.now c.loop-node.node c.loop-node.sums.items c.loop-node.invariant c.own_sum.result c.own_sum.ensures)

pub returns : goal.returns
returns c = λ cliques size.
    let done : c.loop-node.node ≡ c.args.nodes = omega arith in
    owning_all cliques c.args.links.now c.loop-node.sums.items (rw (done, ← size) at c.loop-node.invariant)

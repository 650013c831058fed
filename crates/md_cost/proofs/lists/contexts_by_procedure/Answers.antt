use Rattle.std.proofs.Common.{◌≡◌, ◌∙◌, arith}
use Rattle.std.proofs.lemmas.List.{take_all}
use Rattle.md_cost.proofs.lists.contexts_by_procedure.Goals as goal
use Rattle.md_cost.proofs.lists.contexts_by_procedure.Goals.{After-deref}

procedures_are : (c : After-deref) → c.deref.result.now ≡ c.args.profile.now.nodes
procedures_are c = c.deref.ensures.value ∙ c.loop-node.invariant ∙ take_all c.loop-node.node-index c.nodes-nodes.result.now (let done = c.loop-node-test.false in omega arith) ∙ c.nodes-nodes.ensures

pub lay_out-requires-clause-below : goal.lay_out-requires-clause-below
lay_out-requires-clause-below c = rw (procedures_are (goal.at.lay_out-requires-clause-below c).After-deref, c.procs.ensures, c.statics.ensures) (λ v lt. c.requires.rows.nodes_there v 0 lt)

pub lay_out-requires-clause-fits : goal.lay_out-requires-clause-fits
lay_out-requires-clause-fits c = rw (procedures_are (goal.at.lay_out-requires-clause-fits c).After-deref) c.requires.rows.few_nodes

pub returns-clause-laid : goal.returns-clause-laid
returns-clause-laid c = rw (procedures_are (goal.at.returns-clause-laid c).After-deref, c.procs.ensures, c.statics.ensures) at c.lay_out.ensures.laid

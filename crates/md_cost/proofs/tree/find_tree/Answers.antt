use Rattle.md_cost.proofs.TreeSteps.{rises}
use Rattle.md_cost.proofs.tree.find_tree.Goals as goal

pub returns-clause-rise : goal.returns-clause-rise
returns-clause-rise c = rises c.args.nodes c.args.links.now c.requires.sound c.in_ok-cliques.cliques c.in_ok-entries.entries.items c.in_ok-cliques.ensures c.in_ok-entries.ensures.one

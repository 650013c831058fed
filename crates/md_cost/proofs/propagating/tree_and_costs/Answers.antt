use Rattle.md_cost.proofs.ValidSteps.{valid_sound}
use Rattle.md_cost.proofs.propagating.tree_and_costs.Goals as goal
use Rattle.std.proofs.Common.{arith}
use Rattle.std.proofs.lemmas.Grind.{common_steps}

pub find_tree-requires-clause-sound : goal.find_tree-requires-clause-sound
find_tree-requires-clause-sound c = rw (c.nodes.ensures, c.links.ensures) (valid_sound c.args.profile.now c.requires.valid).links

pub find_tree-requires-clause-listed : goal.find_tree-requires-clause-listed
find_tree-requires-clause-listed c = rw (c.nodes.ensures, c.links.ensures) c.requires.listed

pub returns-clause-costs : goal.returns-clause-costs
returns-clause-costs c = grind (arith, common_steps)

pub returns-clause-tree : goal.returns-clause-tree
returns-clause-tree c = grind (arith, common_steps)

pub returns-clause-two : goal.returns-clause-two
returns-clause-two c = grind (arith, common_steps)

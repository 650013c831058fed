use Rattle.std.proofs.Common.{rules, arith}
use Rattle.std.proofs.lemmas.Grind.{common_steps}
use Rattle.md_deepfile.specs.Sets.{has_seated}
use Rattle.md_deepfile.proofs.Graphs.{context_added}
use Rattle.md_deepfile.proofs.graph.Graph.add_context.Goals as goal

pub invariant_of-self-2 : goal.invariant_of-self-2
invariant_of-self-2 c =
    context_added c.self.inside.nodes.items c.self.inside.links.items (has_seated c.self.inside.keys) c.self.inside.reached.items c.push.new.self.items c.push-2.new.self.items c.args.proc c.self.invariant (search rules) (search rules)

pub returns : goal.returns
returns c = grind (arith, common_steps)

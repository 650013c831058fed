use Rattle.std.proofs.Common.{rules}
use Rattle.md_deepfile.specs.Sets.{has_seated}
use Rattle.md_deepfile.proofs.Graphs.{still_no_keys}
use Rattle.md_deepfile.proofs.graph.Graph.seat_context.Goals as goal

pub invariant_of-self-in_err-add_context : goal.invariant_of-self-in_err-add_context
invariant_of-self-in_err-add_context c =
    still_no_keys c.self.inside.nodes.items c.self.inside.links.items (has_seated c.self.inside.keys) (has_seated c.add_context.new.self) c.self.inside.reached.items c.self.invariant (search rules) c.add_context.ensures

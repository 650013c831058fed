use Rattle.std.proofs.Common.{◌≡◌, ◌∙◌, Some, rules, arith}
use Rattle.std.proofs.lemmas.Grind.{common_steps}
use Rattle.std.specs.Prelude.{slice_get}
use Rattle.std.proofs.lemmas.Option.{slice_get_read}
use Rattle.md_deepfile.specs.Sets.{has_seated}
use Rattle.md_deepfile.proofs.Graphs.{orphan_on}
use Rattle.md_deepfile.proofs.graph.Graph.first_orphan.Goals as goal

pub loop-context-preserved : goal.loop-context-preserved
loop-context-preserved c =
    let at : slice_get c.self.inside.reached.items c.loop-context.context ≡ Some c.index.result.now = search (rules, slice_get_read) in
    c.loop-context.invariant ∙ orphan_on c.self.inside.nodes.items c.self.inside.links.items (has_seated c.self.inside.keys) c.self.inside.reached.items c.loop-context.context c.index.result.now c.args.self.now c.self.invariant c.self.view_is (search rules) at c.if-not-index.false

pub loop-context-init : goal.loop-context-init
loop-context-init c = grind (arith, common_steps)

pub loop-context-smaller : goal.loop-context-smaller
loop-context-smaller c = grind (arith, common_steps)

pub returns : goal.returns
returns c = grind (arith, common_steps)

use Rattle.std.proofs.Common.{◌≡◌, true, false, Some, rules, arith}
use Rattle.std.proofs.lemmas.Grind.{common_steps}
use Rattle.std.specs.Prelude.{slice_get}
use Rattle.std.proofs.lemmas.Option.{slice_get_read}
use Rattle.md_deepfile.specs.Sets.{has_seated}
use Rattle.md_deepfile.proofs.Graphs.{link_added, same_graph, fresh_is, marked_down, not_marked}
use Rattle.md_deepfile.proofs.graph.Graph.add_link.Goals as goal

pub invariant_of-self-then-caller-callee : goal.invariant_of-self-then-caller-callee
invariant_of-self-then-caller-callee c =
    let nodes = c.self.inside.nodes.items in
    let at : slice_get nodes c.args.callee ≡ Some c.number-proc.result = search (rules, slice_get_read) in
    link_added nodes c.self.inside.links.items c.push.new.self.items (has_seated c.self.inside.keys) (has_seated c.insert.new.self) c.self.inside.reached.items _ c.args.caller c.args.site c.args.callee c.number-proc.result c.args.own c.self.invariant (search rules) at (search rules)
    c.in_ok-insert.ensures.now
    (marked_down c.args.caller c.args.callee c.self.inside.reached.items c.if-caller-callee.true)

pub invariant_of-self-else-caller-callee : goal.invariant_of-self-else-caller-callee
invariant_of-self-else-caller-callee c =
    let nodes = c.self.inside.nodes.items in
    let at : slice_get nodes c.args.callee ≡ Some c.number-proc.result = search (rules, slice_get_read) in
    link_added nodes c.self.inside.links.items c.push.new.self.items (has_seated c.self.inside.keys) (has_seated c.insert.new.self) c.self.inside.reached.items c.self.inside.reached.items c.args.caller c.args.site c.args.callee c.number-proc.result c.args.own c.self.invariant (search rules) at (search rules)
    c.in_ok-insert.ensures.now
    (not_marked c.args.caller c.args.callee c.self.inside.reached.items c.if-caller-callee.false)

pub returns-then-caller-callee-clause-added : goal.returns-then-caller-callee-clause-added
returns-then-caller-callee-clause-added c =
    let at : slice_get c.self.inside.nodes.items c.args.callee ≡ Some c.number-proc.result = search (rules, slice_get_read) in
    fresh_is c.self.inside.nodes.items c.self.inside.links.items (has_seated c.self.inside.keys) c.self.inside.reached.items c.args.caller c.args.site c.args.callee c.number-proc.result c.in_ok-insert.field-0 true c.args.self.now c.self.invariant at c.self.view_is c.if-not-branch.false c.in_ok-insert.ensures.added

pub returns-else-caller-callee-clause-added : goal.returns-else-caller-callee-clause-added
returns-else-caller-callee-clause-added c =
    let at : slice_get c.self.inside.nodes.items c.args.callee ≡ Some c.number-proc.result = search (rules, slice_get_read) in
    fresh_is c.self.inside.nodes.items c.self.inside.links.items (has_seated c.self.inside.keys) c.self.inside.reached.items c.args.caller c.args.site c.args.callee c.number-proc.result c.in_ok-insert.field-0 true c.args.self.now c.self.invariant at c.self.view_is c.if-not-branch.false c.in_ok-insert.ensures.added

pub returns-then-caller-callee-clause-links : goal.returns-then-caller-callee-clause-links
returns-then-caller-callee-clause-links c = grind (arith, common_steps)

pub returns-then-not-branch-clause-links : goal.returns-then-not-branch-clause-links
returns-then-not-branch-clause-links c = grind (arith, common_steps)

pub returns-else-caller-callee-clause-links : goal.returns-else-caller-callee-clause-links
returns-else-caller-callee-clause-links c = grind (arith, common_steps)

pub invariant_of-self-in_err-insert : goal.invariant_of-self-in_err-insert
invariant_of-self-in_err-insert c = same_graph c.self.inside.nodes.items c.self.inside.links.items c.reserve.new.self.items c.self.inside.keys c.insert.new.self c.self.inside.reached.items c.self.invariant (search rules) c.in_err-insert.ensures.refused

pub invariant_of-self-then-not-branch : goal.invariant_of-self-then-not-branch
invariant_of-self-then-not-branch c = same_graph c.self.inside.nodes.items c.self.inside.links.items c.reserve.new.self.items c.self.inside.keys c.insert.new.self c.self.inside.reached.items c.self.invariant (search rules) (c.in_ok-insert.ensures.kept c.if-not-branch.true)

pub returns-then-not-branch-clause-added : goal.returns-then-not-branch-clause-added
returns-then-not-branch-clause-added c =
    let at : slice_get c.self.inside.nodes.items c.args.callee ≡ Some c.number-proc.result = search (rules, slice_get_read) in
    fresh_is c.self.inside.nodes.items c.self.inside.links.items (has_seated c.self.inside.keys) c.self.inside.reached.items c.args.caller c.args.site c.args.callee c.number-proc.result c.in_ok-insert.field-0 false c.args.self.now c.self.invariant at c.self.view_is c.if-not-branch.true c.in_ok-insert.ensures.added

use Rattle.std.proofs.Common.{◌≡◌, ℕ, length, ap, ◌∙◌, arith, List}
use Rattle.md_clique.proofs.Naming.{lt_clique_count}
use Rattle.md_cost.specs.Paths.{start_of}
use Rattle.md_cost.proofs.ClimbSteps.{start_there}
use Rattle.md_cost.proofs.descent.above.Goals as goal

pub start_of_entry-requires-clause-there : goal.start_of_entry-requires-clause-there
start_of_entry-requires-clause-there c =
    let nodes = c.requires.nodes in
    let node = c.requires.there in
    let below = lt_clique_count c.args.tree.now.cliques c.args.node (omega arith) in
    let is = c.of-clique.ensures in
    let size = ap length c.deref.ensures.value in
    let each = c.requires.entries in
    omega arith

pub start_of_entry-requires-clause-starts : goal.start_of_entry-requires-clause-starts
start_of_entry-requires-clause-starts c =
    let nodes = c.requires.nodes in
    let node = c.requires.there in
    let below = lt_clique_count c.args.tree.now.cliques c.args.node (omega arith) in
    let is = c.of-clique.ensures in
    let some = c.if-clique-eq0.false in
    let rise = c.requires.rise c.of-clique.result (omega arith) (omega arith) in
    (rise.row, rise.start, rw c.deref.ensures.value rise.there, rise.caller)

pub returns-else-clique-eq0-clause-within : goal.returns-else-clique-eq0-clause-within
returns-else-clique-eq0-clause-within c =
    let nodes = c.requires.nodes in
    let node = c.requires.there in
    let below = lt_clique_count c.args.tree.now.cliques c.args.node (omega arith) in
    let is = c.of-clique.ensures in
    let some = c.if-clique-eq0.false in
    let there = start_there c.args.tree.now.cliques c.args.tree.now.entries.items c.args.links.now c.requires.rise c.of-clique.result (omega arith) (omega arith) in
    let at : c.start_of_entry.result ≡ start_of c.args.links.now c.args.tree.now.entries.items c.of-clique.result = c.start_of_entry.ensures ∙ ap (λ (es : List ℕ). start_of c.args.links.now es c.of-clique.result) c.deref.ensures.value in
    omega arith

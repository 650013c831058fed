use Rattle.std.proofs.Common.{◌≡◌, ◌<◌, ℕ, List, length, get_or, ap, ◌∙◌, arith}
use Rattle.md_clique.specs.Cliques.{members_of}
use Rattle.md_cost.proofs.MemberSteps.{member_there}
use Rattle.md_tree.proofs.row.clique_own.Goals as goal

pub node_own-requires : goal.node_own-requires
node_own-requires c =
    let l = c.args.loaded.now in
    let members = members_of l.cliques c.args.clique in
    let i = c.loop-node.node-index in
    let lt : i < length members = rw c.members-node-items.ensures.members at c.loop-node-test.true in
    let there = member_there l.cliques c.args.clique i lt in
    let is : c.new.result ≡ get_or members i 0 = c.new.ensures ∙ ap (λ (xs : List ℕ). get_or xs i 0) c.members-node-items.ensures.members in
    let size : length l.cliques ≡ length l.profile.nodes = c.profile-profile.ensures.loaded.tree.cliques_are.each in
    omega arith

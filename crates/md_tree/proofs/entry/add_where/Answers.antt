use Rattle.std.proofs.Common.{◌≡◌, length, arith}
use Rattle.md_clique.proofs.Sizes.{size_within}
use Rattle.md_tree.proofs.entry.add_where.Goals as goal

pub overflow_cast-members : goal.overflow_cast-members
overflow_cast-members c =
    let l = c.args.loaded.now in
    let size : length l.cliques ≡ length l.profile.nodes = c.profile.ensures.loaded.tree.cliques_are.each in
    let few = c.profile.ensures.valid.rows.few_nodes in
    let within = size_within l.cliques c.args.clique in
    rw c.members.ensures.members (omega arith)

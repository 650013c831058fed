use Rattle.std.proofs.Common.{length, ap, arith}
use Rattle.std.proofs.lemmas.Grind.{common_steps}
use Rattle.md_clique.specs.Entries.{edges_of}
use Rattle.md_cost.specs.Paths.{ends}
use Rattle.md_cost.proofs.TreeSteps.{callees_there, some_clique}
use Rattle.md_cost.proofs.ValidSteps.{valid_sound}
use Rattle.md_cost.proofs.costs.context_totals.Goals as goal

pub own_sums-requires-clause-incoming : goal.own_sums-requires-clause-incoming
own_sums-requires-clause-incoming c = rw (c.links.ensures, c.requires.incoming.each_last) c.requires.incoming

pub own_sums-requires-clause-few : goal.own_sums-requires-clause-few
own_sums-requires-clause-few c = rw c.links.ensures (valid_sound c.args.profile.now c.requires.valid).links.few_links

pub own_sums-requires-clause-small : goal.own_sums-requires-clause-small
own_sums-requires-clause-small c = rw c.links.ensures c.requires.small

pub climb-requires-clause-some : goal.climb-requires-clause-some
climb-requires-clause-some c = some_clique (length c.args.profile.now.nodes) (edges_of (ends c.args.profile.now.links)) c.args.tree.now.cliques c.requires.valid.rows.some_nodes c.requires.tree.cliques_are

pub climb-requires-clause-entries : goal.climb-requires-clause-entries
climb-requires-clause-entries c = rw c.deref.ensures.value c.requires.tree.entries_are.each

pub climb-requires-clause-rise : goal.climb-requires-clause-rise
climb-requires-clause-rise c = rw (c.deref.ensures.value, c.links-2.ensures) c.requires.rise

pub climb-requires-clause-ends : goal.climb-requires-clause-ends
climb-requires-clause-ends c = rw (c.links-2.ensures, c.requires.tree.cliques_are.each) (callees_there (length c.args.profile.now.nodes) c.args.profile.now.links (valid_sound c.args.profile.now c.requires.valid).links)

pub climb-requires-clause-few : goal.climb-requires-clause-few
climb-requires-clause-few c = rw c.links-2.ensures (valid_sound c.args.profile.now c.requires.valid).links.few_links

pub climb-requires-clause-small : goal.climb-requires-clause-small
climb-requires-clause-small c = rw c.links-2.ensures c.requires.small

pub climb-requires-clause-own : goal.climb-requires-clause-own
climb-requires-clause-own c =
    rw (c.deref_mut.ensures.value, c.links-2.ensures) (rw c.links.ensures at (c.in_ok-totals.ensures c.args.tree.now.cliques (let size = c.requires.tree.cliques_are.each in let nodes = ap length c.nodes.ensures in omega arith)))

pub returns : goal.returns
returns c = grind (arith, common_steps)

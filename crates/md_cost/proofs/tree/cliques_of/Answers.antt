use Rattle.std.proofs.lemmas.Result.{IfOk-weaker}
use Rattle.md_trace.specs.Cliques.{AreCliques}
use Rattle.md_clique.specs.Entries.{edges_of}
use Rattle.md_clique.specs.Links.{AreListed, links_of}
use Rattle.md_clique.proofs.ListedLinks.{are_lists, cliques_listed}
use Rattle.md_cost.specs.Paths.{ends}
use Rattle.md_cost.proofs.LinkLists.{edges_listed, edges_within}
use Rattle.md_cost.proofs.TreeSteps.{edges_up}
use Rattle.md_cost.proofs.tree.cliques_of.Goals as goal
use Rattle.md_cost.proofs.tree.cliques_of.Goals.{In_ok-lists}

pub ends_in_order-requires : goal.ends_in_order-requires
ends_in_order-requires c = rw c.deref.ensures.value c.requires.listed.places

are_listed : (c : In_ok-lists) → AreListed (edges_of (ends c.args.links.now)) c.args.nodes c.in_ok-lists.lists.starts.items c.in_ok-lists.lists.ends.items
are_listed c =
    let each = c.in_ok-ends.ensures.each in
    let order = c.deref.ensures.value in
    rw (c.in_ok-lists.ensures.starts, c.in_ok-lists.ensures.ends)
    (edges_listed c.args.nodes c.args.links.now c.requires.sound c.args.by_start.now c.requires.listed c.in_ok-ends.ends.items (rw order at c.in_ok-ends.ensures.each) (rw order at c.in_ok-ends.ensures.ends))

pub listed_cliques-requires : goal.listed_cliques-requires
listed_cliques-requires c =
    are_lists (edges_of (ends c.args.links.now)) c.args.nodes c.in_ok-lists.lists.starts.items c.in_ok-lists.lists.ends.items (edges_within c.args.nodes c.args.links.now c.requires.sound) (are_listed c)

pub returns-then-lead_up : goal.returns-then-lead_up
returns-then-lead_up c = c.single_cliques.ensures (edges_of (ends c.args.links.now)) (edges_up c.args.links.now (c.lead_up.ensures c.if-lead_up.true))

pub returns : goal.returns
returns c =
    let lists = (goal.at.returns c).In_ok-lists in
    IfOk-weaker c.listed_cliques.result (λ cliques. AreCliques c.args.nodes (links_of c.args.nodes c.in_ok-lists.lists.starts.items c.in_ok-lists.lists.ends.items) cliques) (λ cliques. AreCliques c.args.nodes (edges_of (ends c.args.links.now)) cliques)
    (λ cliques are. cliques_listed (edges_of (ends c.args.links.now)) c.args.nodes c.in_ok-lists.lists.starts.items c.in_ok-lists.lists.ends.items cliques (edges_within c.args.nodes c.args.links.now c.requires.sound) (are_listed lists) are)
    c.listed_cliques.ensures

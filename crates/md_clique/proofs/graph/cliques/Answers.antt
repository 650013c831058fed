use Rattle.std.proofs.lemmas.Result.{IfOk-weaker}
use Rattle.md_trace.specs.Cliques.{AreCliques}
use Rattle.md_clique.specs.Links.{links_of}
use Rattle.md_clique.proofs.ListedLinks.{are_lists, cliques_listed, within_all}
use Rattle.md_clique.proofs.graph.cliques.Goals as goal

pub list_links-requires : goal.list_links-requires
list_links-requires c = within_all c.args.links.now c.args.nodes c.requires

pub listed_cliques-requires : goal.listed_cliques-requires
listed_cliques-requires c = are_lists c.args.links.now c.args.nodes c.in_ok-lists.lists.starts.items c.in_ok-lists.lists.ends.items (within_all c.args.links.now c.args.nodes c.requires) c.in_ok-lists.ensures

pub returns : goal.returns
returns c =
    IfOk-weaker c.listed_cliques.result (λ cliques. AreCliques c.args.nodes (links_of c.args.nodes c.in_ok-lists.lists.starts.items c.in_ok-lists.lists.ends.items) cliques) (λ cliques. AreCliques c.args.nodes c.args.links.now cliques)
    (λ cliques are. cliques_listed c.args.links.now c.args.nodes c.in_ok-lists.lists.starts.items c.in_ok-lists.lists.ends.items cliques (within_all c.args.links.now c.args.nodes c.requires) c.in_ok-lists.ensures are)
    c.listed_cliques.ensures

use Rattle.md_clique.specs.Links.{links_of}
use Rattle.md_clique.proofs.search.find_classes.Given as goal

abbrev pub ghost-explore_all : goal.ghost-explore_all
ghost-explore_all a = links_of a.nodes a.lists.now.starts.items a.lists.now.ends.items

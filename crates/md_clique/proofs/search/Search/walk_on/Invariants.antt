use Rattle.md_clique.proofs.search.Search.walk_on.Given as goal

abbrev pub ghost-enter : goal.ghost-enter
ghost-enter g a = g.links

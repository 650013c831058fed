use Rattle.md_clique.proofs.search.Search.step.Given as goal

abbrev pub ghost-next_move : goal.ghost-next_move
ghost-next_move g a = g.links

abbrev pub ghost-walk_on : goal.ghost-walk_on
ghost-walk_on g a = g.links

abbrev pub ghost-join : goal.ghost-join
ghost-join g a = g.links

abbrev pub ghost-skip : goal.ghost-skip
ghost-skip g a = g.links

abbrev pub ghost-close : goal.ghost-close
ghost-close g a = g.links

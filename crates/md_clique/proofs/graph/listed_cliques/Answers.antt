use Rattle.md_clique.specs.Links.{links_of}
use Rattle.md_clique.proofs.Naming.{lt_clique_count, are_cliques}
use Rattle.md_clique.proofs.graph.listed_cliques.Goals as goal

pub lay_out-requires-clause-below : goal.lay_out-requires-clause-below
lay_out-requires-clause-below c = rw (c.deref-2.ensures.value, c.in_ok-numbers.ensures.count) (lt_clique_count c.in_ok-numbers.field-0.numbers.items)

pub returns : goal.returns
returns c =
    rw c.from_parts.ensures
    (are_cliques (links_of c.args.nodes c.args.lists.starts.items c.args.lists.ends.items) c.args.nodes c.in_ok-states.field-0.count c.in_ok-states.field-0.states.items c.in_ok-numbers.field-0.numbers.items
    c.in_ok-states.ensures (rw c.deref.ensures.value at c.in_ok-numbers.ensures.numbers))

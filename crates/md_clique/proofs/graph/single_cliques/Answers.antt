use Rattle.std.proofs.Common.{◌+◌, sym}
use Rattle.std.proofs.lemmas.List.FromFn.{length-range_with_len}
use Rattle.md_clique.proofs.Singles.{count_is, singles, singles_laid}
use Rattle.md_clique.proofs.graph.single_cliques.Goals as goal

pub from_parts-requires-clause-count : goal.from_parts-requires-clause-count
from_parts-requires-clause-count c = rw c.in_ok-numbers.ensures (sym (count_is c.args.nodes))

pub from_parts-requires-clause-starts : goal.from_parts-requires-clause-starts
from_parts-requires-clause-starts c = rw c.in_ok-starts.ensures (length-range_with_len 0 (c.args.nodes + 1))

pub from_parts-requires-clause-laid : goal.from_parts-requires-clause-laid
from_parts-requires-clause-laid c = rw (c.in_ok-numbers.ensures, c.in_ok-order.ensures, c.in_ok-starts.ensures) (singles_laid c.args.nodes)

pub returns : goal.returns
returns c = λ links up. rw (c.from_parts.ensures, c.in_ok-numbers.ensures) (singles c.args.nodes links up)

use Rattle.std.proofs.Common.{◌≡◌, ap, ◌∙◌, arith}
use Rattle.std.proofs.lemmas.List.{take_all}
use Rattle.md_cost.specs.Lists.{starts_of}
use Rattle.md_cost.proofs.ListSteps.{by_start, starts_below, length-starts_of}
use Rattle.md_cost.proofs.lists.links_by_start.Goals as goal
use Rattle.md_cost.proofs.lists.links_by_start.Goals.{After-deref}

starts_are : (c : After-deref) → c.deref.result.now ≡ starts_of c.args.nodes c.args.links.now
starts_are c = c.deref.ensures.value ∙ c.loop-link.invariant ∙ ap (starts_of c.args.nodes) (take_all c.loop-link.link-index c.args.links.now (let done = c.loop-link-test.false in omega arith))

pub lay_out-requires-clause-below : goal.lay_out-requires-clause-below
lay_out-requires-clause-below c = rw (starts_are (goal.at.lay_out-requires-clause-below c).After-deref) (starts_below c.args.nodes c.args.links.now c.requires.callers)

pub lay_out-requires-clause-fits : goal.lay_out-requires-clause-fits
lay_out-requires-clause-fits c = rw (starts_are (goal.at.lay_out-requires-clause-fits c).After-deref, length-starts_of) c.requires.few

pub returns : goal.returns
returns c =
    let starts = starts_are (goal.at.returns c).After-deref in
    by_start c.args.nodes c.args.links.now c.lay_out.result (rw starts at c.lay_out.ensures.laid) c.lay_out.ensures.starts (rw starts at c.lay_out.ensures.places)

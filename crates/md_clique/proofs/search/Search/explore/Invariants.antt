use Rattle.std.proofs.Common.{◌≢◌, None}
use Rattle.md_clique.specs.Search.{Stands, NoneRenewed, state_of}
use Rattle.md_clique.specs.Kept.{kept, work}
use Rattle.md_clique.specs.declared.search.State.TheVariants.{New}
use Rattle.md_clique.proofs.search.Search.explore.Given as goal

abbrev pub ghost-enter : goal.ghost-enter
ghost-enter g a = g.links

abbrev pub ghost-step : goal.ghost-step
ghost-step g a = g.links

abbrev pub invariant-loop-self : goal.invariant-loop-self
invariant-loop-self g l = record {
  stands : Stands g.links l.lists None (kept l.self);
  states : NoneRenewed l.fn.self.states.items l.self.states.items;
  seen : state_of l.self.states.items l.root ≢ New;
}

abbrev pub decreases-loop-self : goal.decreases-loop-self
decreases-loop-self g l = work l.lists (kept l.self)

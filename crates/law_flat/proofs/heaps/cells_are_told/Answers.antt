use Rattle.law_flat.proofs.Trees.{new_functor, new_closure, told_stays, functor_is_head, closure_is_head, built_more}
use Rattle.law_flat.proofs.heaps.cells_are_told.Goals as goal

pub returns-clause-functor : goal.returns-clause-functor
returns-clause-functor known = new_functor

pub returns-clause-closure : goal.returns-clause-closure
returns-clause-closure known = new_closure

pub returns-clause-others : goal.returns-clause-others
returns-clause-others known = told_stays

pub returns-clause-functor_head : goal.returns-clause-functor_head
returns-clause-functor_head known = functor_is_head

pub returns-clause-closure_head : goal.returns-clause-closure_head
returns-clause-closure_head known = closure_is_head

pub returns-clause-built : goal.returns-clause-built
returns-clause-built known = built_more

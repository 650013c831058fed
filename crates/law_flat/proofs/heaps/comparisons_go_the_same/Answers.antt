use Rattle.law_flat.proofs.Literals.{same_literals}
use Rattle.law_flat.proofs.Trees.{told_compared}
use Rattle.law_flat.proofs.heaps.comparisons_go_the_same.Goals as goal

pub returns-clause-literals : goal.returns-clause-literals
returns-clause-literals known = same_literals

pub returns-clause-values : goal.returns-clause-values
returns-clause-values known = told_compared

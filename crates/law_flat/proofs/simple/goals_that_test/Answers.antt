use Rattle.law_safety.proofs.Whole.{proper}
use Rattle.law_flat.proofs.Charging.{fails_here, less_here, less_or_equal_here, greater_here, greater_or_equal_here}
use Rattle.law_flat.proofs.simple.goals_that_test.Goals as goal

pub returns-clause-fails : goal.returns-clause-fails
returns-clause-fails types known spelled s code marks b seen st F p S n l a w x c cs other spells fault h1 h2 = fails_here other (proper spelled s spells fault) h1 h2

pub returns-clause-less : goal.returns-clause-less
returns-clause-less types known spelled s code marks b seen st F p S n l y v a w x c cs next other spells fault h1 h2 h3 h4 = less_here next other (proper spelled s spells fault) h1 h2 h3 h4

pub returns-clause-less_or_equal : goal.returns-clause-less_or_equal
returns-clause-less_or_equal types known spelled s code marks b seen st F p S n l y v a w x c cs next other spells fault h1 h2 h3 h4 = less_or_equal_here next other (proper spelled s spells fault) h1 h2 h3 h4

pub returns-clause-greater : goal.returns-clause-greater
returns-clause-greater types known spelled s code marks b seen st F p S n l y v a w x c cs next other spells fault h1 h2 h3 h4 = greater_here next other (proper spelled s spells fault) h1 h2 h3 h4

pub returns-clause-greater_or_equal : goal.returns-clause-greater_or_equal
returns-clause-greater_or_equal types known spelled s code marks b seen st F p S n l y v a w x c cs next other spells fault h1 h2 h3 h4 = greater_or_equal_here next other (proper spelled s spells fault) h1 h2 h3 h4

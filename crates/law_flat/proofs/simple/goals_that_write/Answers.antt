use Rattle.law_safety.proofs.Whole.{proper}
use Rattle.law_flat.proofs.Simply.{succeeds_here, assigns_here, adds_here, subtracts_here, multiplies_here}
use Rattle.law_flat.proofs.simple.goals_that_write.Goals as goal

pub returns-clause-succeeds : goal.returns-clause-succeeds
returns-clause-succeeds types known spelled s code marks b seen st F p S n l a w x c cs next spells fault h1 h2 = succeeds_here next (proper spelled s spells fault) h1 h2

pub returns-clause-assigns : goal.returns-clause-assigns
returns-clause-assigns types known spelled s code marks b seen st F p S n l y z to a w x c cs next spells fault h1 h2 h3 h4 = assigns_here next (proper spelled s spells fault) h1 h2 h3 h4

pub returns-clause-adds : goal.returns-clause-adds
returns-clause-adds types known spelled s code marks b seen st F p S n l z y v a w x c cs next spells fault h1 h2 h3 = adds_here next (proper spelled s spells fault) h1 h2 h3

pub returns-clause-subtracts : goal.returns-clause-subtracts
returns-clause-subtracts types known spelled s code marks b seen st F p S n l z y v a w x c cs next spells fault h1 h2 h3 = subtracts_here next (proper spelled s spells fault) h1 h2 h3

pub returns-clause-multiplies : goal.returns-clause-multiplies
returns-clause-multiplies types known spelled s code marks b seen st F p S n l z y v a w x c cs next spells fault h1 h2 h3 = multiplies_here next (proper spelled s spells fault) h1 h2 h3

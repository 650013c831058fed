use Rattle.law_safety.proofs.Whole.{proper}
use Rattle.law_flat.proofs.Terms.{builds_here, closes_here}
use Rattle.law_flat.proofs.simple.goals_that_build.Goals as goal

pub returns-clause-term : goal.returns-clause-term
returns-clause-term types known spelled s code marks b seen st F p S n l y z q zs a w x c cs next spells fault h1 h2 h3 h4 h5 = builds_here next (proper spelled s spells fault) h1 h2 h3 h4 h5

pub returns-clause-closure : goal.returns-clause-closure
returns-clause-closure types known spelled s code marks b seen st F p S n l y q ys a w x c cs r next spells fault h1 h2 h3 h4 h5 = closes_here r next (proper spelled s spells fault) h1 h2 h3 h4 h5

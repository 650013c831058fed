use Rattle.law_safety.proofs.Whole.{proper}
use Rattle.law_flat.proofs.Comparing.{same_here}
use Rattle.law_flat.proofs.unifications.comparisons_of_values.Goals as goal

pub returns : goal.returns
returns types known spelled s code marks b seen st F p S n l y z a w x c cs next other spells fault h1 h2 h3 h4 h5 = same_here next other (proper spelled s spells fault) h1 h2 h3 h4 h5

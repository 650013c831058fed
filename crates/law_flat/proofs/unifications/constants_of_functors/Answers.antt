use Rattle.law_safety.proofs.Whole.{proper}
use Rattle.law_flat.proofs.Functors.{puts_functor_here}
use Rattle.law_flat.proofs.unifications.constants_of_functors.Goals as goal

pub returns : goal.returns
returns types known spelled s code marks b seen st F p S n l y q a w x c cs next spells fault h1 h2 h3 h4 h5 = puts_functor_here next (proper spelled s spells fault) h1 h2 h3 h4 h5

use Rattle.law_safety.proofs.Whole.{proper}
use Rattle.law_flat.proofs.Leaving.{throws_here}
use Rattle.law_flat.proofs.ports.exceptions.Goals as goal

pub returns : goal.returns
returns types known spelled s code marks b seen st F p S n l y a w x c cs spells fault h1 h2 = throws_here (proper spelled s spells fault) h1 h2

use Rattle.law_safety.proofs.Whole.{proper}
use Rattle.law_flat.proofs.Whole.{simple_here}
use Rattle.law_flat.proofs.simple.simple_goals.Goals as goal

pub returns : goal.returns
returns types known spelled s code marks b seen st F p S n l g a w x c cs at pc spells fault h1 h2 h3 h4 h5 h6 h7 h8 h9 = simple_here at pc (proper spelled s spells fault) h1 h2 h3 h4 h5 h6 h7 h8 h9

use Rattle.law_safety.proofs.Whole.{proper}
use Rattle.law_flat.proofs.Targets.{switches_here}
use Rattle.law_flat.proofs.switches.switches_by_functors.Goals as goal

pub returns : goal.returns
returns types known spelled s code marks b seen st F p S n l ps a w x c cs by f arity ks spells fault h1 h2 h3 h4 h5 = switches_here by f arity ks (proper spelled s spells fault) h1 h2 h3 h4 h5

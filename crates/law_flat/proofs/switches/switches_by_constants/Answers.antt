use Rattle.law_safety.proofs.Whole.{proper}
use Rattle.law_flat.proofs.Switching.{selects_integer, selects_literal, falls_here}
use Rattle.law_flat.proofs.switches.switches_by_constants.Goals as goal

pub returns-clause-integers : goal.returns-clause-integers
returns-clause-integers types known spelled s code marks b seen st F p S n l ps a w x c cs by i ks spells fault h1 h2 h3 h4 h5 h6 = selects_integer by i ks (proper spelled s spells fault) h1 h2 h3 h4 h5 h6

pub returns-clause-literals : goal.returns-clause-literals
returns-clause-literals types known spelled s code marks b seen st F p S n l ps a w x c cs by bytes ks spells fault h1 h2 h3 h4 h5 h6 = selects_literal by bytes ks (proper spelled s spells fault) h1 h2 h3 h4 h5 h6

pub returns-clause-none : goal.returns-clause-none
returns-clause-none types known spelled s code marks b seen st F p S n l ps a w x c cs by spells fault h1 h2 h3 h4 h5 = falls_here by (proper spelled s spells fault) h1 h2 h3 h4 h5

use Rattle.law_safety.proofs.Whole.{proper}
use Rattle.law_flat.proofs.Taking.{heads_taken, heads_found}
use Rattle.law_flat.proofs.unifications.heads_of_cells.Goals as goal

pub returns-clause-taken : goal.returns-clause-taken
returns-clause-taken types known spelled s code marks b seen st F p S n l y q zs a w x c cs second next other spells fault h1 h2 h3 h4 h5 h6 h7 = heads_taken second next other (proper spelled s spells fault) h1 h2 h3 h4 h5 h6 h7

pub returns-clause-compared : goal.returns-clause-compared
returns-clause-compared types known spelled s code marks b seen st F p S n l y q zs bound a w x c cs second third next other spells fault h1 h2 h3 h4 h5 h6 h7 h8 = heads_found second third next other (proper spelled s spells fault) h1 h2 h3 h4 h5 h6 h7 h8

use Rattle.law_flat.proofs.Taking.{taken_behind, fields_here}
use Rattle.law_flat.proofs.unifications.parts_of_cells.Goals as goal

pub returns-clause-behind : goal.returns-clause-behind
returns-clause-behind types known s code marks b seen st F S n y cell d values w x c cs third next h1 h2 h3 h4 h5 h6 h7 = taken_behind n y third next cell d h1 h2 h3 h4 h5 h6 h7

pub returns-clause-taken : goal.returns-clause-taken
returns-clause-taken types known s code marks b seen st F S y cell d values w x c cs next h1 h2 h3 h4 h5 = fields_here y next cell d.outputs h1 h2 h3 h4 h5

use Rattle.law_safety.proofs.Whole.{proper}
use Rattle.law_flat.proofs.Written.{writes_int_here, writes_text_here, ends_line_here}
use Rattle.law_flat.proofs.outputs.goals_that_write_out.Goals as goal

pub returns-clause-integer : goal.returns-clause-integer
returns-clause-integer types known spelled s code marks b seen st F p S n l y before after a w x c cs next spells fault h1 h2 h3 = writes_int_here next (proper spelled s spells fault) h1 h2 h3

pub returns-clause-literal : goal.returns-clause-literal
returns-clause-literal types known spelled s code marks b seen st F p S n l y before after a w x c cs next spells fault h1 h2 h3 = writes_text_here next (proper spelled s spells fault) h1 h2 h3

pub returns-clause-line : goal.returns-clause-line
returns-clause-line types known spelled s code marks b seen st F p S n l before after a w x c cs next spells fault h1 h2 h3 = ends_line_here next (proper spelled s spells fault) h1 h2 h3

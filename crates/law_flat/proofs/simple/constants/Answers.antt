use Rattle.law_safety.proofs.Whole.{proper}
use Rattle.law_flat.proofs.Plain.{puts_integer_here, puts_literal_here, tests_integer_here, tests_literal_here}
use Rattle.law_flat.proofs.simple.constants.Goals as goal

pub returns-clause-puts_integer : goal.returns-clause-puts_integer
returns-clause-puts_integer types known spelled s code marks b seen st F p S n l y i a w x c cs next spells fault h1 h2 h3 h4 = puts_integer_here next (proper spelled s spells fault) h1 h2 h3 h4

pub returns-clause-puts_literal : goal.returns-clause-puts_literal
returns-clause-puts_literal types known spelled s code marks b seen st F p S n l y bytes a w x c cs next spells fault h1 h2 h3 h4 h5 = puts_literal_here next (proper spelled s spells fault) h1 h2 h3 h4 h5

pub returns-clause-tests_integer : goal.returns-clause-tests_integer
returns-clause-tests_integer types known spelled s code marks b seen st F p S n l y i a w x c cs bound next other spells fault h1 h2 h3 h4 h5 = tests_integer_here bound next other (proper spelled s spells fault) h1 h2 h3 h4 h5

pub returns-clause-tests_literal : goal.returns-clause-tests_literal
returns-clause-tests_literal types known spelled s code marks b seen st F p S n l y bytes a w x c cs bound next other spells fault h1 h2 h3 h4 h5 h6 = tests_literal_here bound next other (proper spelled s spells fault) h1 h2 h3 h4 h5 h6

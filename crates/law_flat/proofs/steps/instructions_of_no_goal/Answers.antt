use Rattle.law_flat.proofs.Silent.{passes_on, charges_on, charges_failing}
use Rattle.law_flat.proofs.steps.instructions_of_no_goal.Goals as goal

pub returns-clause-passes : goal.returns-clause-passes
returns-clause-passes types known s code marks b seen st F p S w x c cs next h1 h2 = passes_on next h1 h2

pub returns-clause-charges : goal.returns-clause-charges
returns-clause-charges types known s code marks b seen st F p S w x c cs next h1 h2 = charges_on next h1 h2

pub returns-clause-charges_failing : goal.returns-clause-charges_failing
returns-clause-charges_failing types known s code marks b seen st F p S a x c cs next h1 h2 = charges_failing next h1 h2

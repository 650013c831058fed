use Rattle.law_safety.proofs.Whole.{proper}
use Rattle.law_flat.proofs.Silent.{conjunction_on, condition_on, condition_keeps, negation_on, negation_keeps, quantified_on, quantified_keeps, disjunction_on}
use Rattle.law_flat.proofs.steps.goals_with_parts.Goals as goal

pub returns-clause-conjunction : goal.returns-clause-conjunction
returns-clause-conjunction types known spelled s code marks b seen st F p S n l ps a w x c cs next spells fault h1 h2 = conjunction_on next (proper spelled s spells fault) h1 h2

pub returns-clause-condition : goal.returns-clause-condition
returns-clause-condition types known spelled s code marks b seen st F p S n l g t e a w x c cs next spells fault h1 h2 h3 = condition_on next (proper spelled s spells fault) h1 h2 h3

pub returns-clause-condition_keeps : goal.returns-clause-condition_keeps
returns-clause-condition_keeps types known spelled s code marks b seen st F p S n l g t e a w x c cs slot second next other spells fault h1 h2 h3 h4 h5 h6 = condition_keeps slot second next other (proper spelled s spells fault) h1 h2 h3 h4 h5 h6

pub returns-clause-negation : goal.returns-clause-negation
returns-clause-negation types known spelled s code marks b seen st F p S n l g a w x c cs next spells fault h1 h2 h3 = negation_on next (proper spelled s spells fault) h1 h2 h3

pub returns-clause-negation_keeps : goal.returns-clause-negation_keeps
returns-clause-negation_keeps types known spelled s code marks b seen st F p S n l g a w x c cs slot second next other spells fault h1 h2 h3 h4 h5 h6 = negation_keeps slot second next other (proper spelled s spells fault) h1 h2 h3 h4 h5 h6

pub returns-clause-quantified : goal.returns-clause-quantified
returns-clause-quantified types known spelled s code marks b seen st F p S n l vs g a w x c cs next spells fault h1 h2 h3 = quantified_on next (proper spelled s spells fault) h1 h2 h3

pub returns-clause-quantified_keeps : goal.returns-clause-quantified_keeps
returns-clause-quantified_keeps types known spelled s code marks b seen st F p S n l vs g a w x c cs slot next spells fault h1 h2 h3 h4 = quantified_keeps slot next (proper spelled s spells fault) h1 h2 h3 h4

pub returns-clause-disjunction : goal.returns-clause-disjunction
returns-clause-disjunction types known spelled s code marks b seen st F p S n l g gs a w x c cs next spells fault h1 h2 h3 = disjunction_on next (proper spelled s spells fault) h1 h2 h3

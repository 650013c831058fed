use Rattle.law_flat.proofs.Silent.{choice_left, joins_here, last_arm_here, arm_here, goes_to_here}
use Rattle.law_flat.proofs.Popping.{pops_here}
use Rattle.law_flat.proofs.steps.choices_and_failures.Goals as goal

pub returns-clause-leaves : goal.returns-clause-leaves
returns-clause-leaves types known s code marks b seen st F p S w x c cs a other next h1 h2 h3 = choice_left other next h1 h2 h3

pub returns-clause-joins : goal.returns-clause-joins
returns-clause-joins types known s code marks b seen st F S w x c cs a other next h1 h2 h3 = joins_here other next h1 h2 h3

pub returns-clause-last_arm : goal.returns-clause-last_arm
returns-clause-last_arm types known s code marks b seen st F p S q w x c cs a next h1 h2 = last_arm_here next h1 h2

pub returns-clause-arm_before : goal.returns-clause-arm_before
returns-clause-arm_before types known s code marks b seen st F p S q r qs w x c cs a other next h1 h2 h3 = arm_here other next h1 h2 h3

pub returns-clause-goes_to : goal.returns-clause-goes_to
returns-clause-goes_to types known s code marks b seen st F p S w x c cs h1 h2 = goes_to_here h1 h2

pub returns-clause-pops : goal.returns-clause-pops
returns-clause-pops types known s code marks b seen st F S x c cs h1 = pops_here cs h1

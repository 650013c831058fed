use Rattle.law_flat.proofs.Silent.{holds_here, holds_cut_here, denies_here, denies_cut_here, finds_here, finds_cut_here}
use Rattle.law_flat.proofs.steps.ends_of_conditions.Goals as goal

pub returns-clause-holds : goal.returns-clause-holds
returns-clause-holds types known s code marks b seen st F p S n a w x c cs next h1 h2 = holds_here next h1 h2

pub returns-clause-holds_cut : goal.returns-clause-holds_cut
returns-clause-holds_cut types known s code marks b seen st F p S n a w x c cs place next h1 h2 h3 = holds_cut_here place next h1 h2 h3

pub returns-clause-denies : goal.returns-clause-denies
returns-clause-denies types known s code marks b seen st F p S n a d x c cs next h1 h2 = denies_here next h1 h2

pub returns-clause-denies_cut : goal.returns-clause-denies_cut
returns-clause-denies_cut types known s code marks b seen st F p S n a d x c cs place next h1 h2 h3 = denies_cut_here place next h1 h2 h3

pub returns-clause-finds : goal.returns-clause-finds
returns-clause-finds types known s code marks b seen st F p S n a w x c cs next h1 h2 = finds_here next h1 h2

pub returns-clause-finds_cut : goal.returns-clause-finds_cut
returns-clause-finds_cut types known s code marks b seen st F p S n a w x c cs place next h1 h2 h3 = finds_cut_here place next h1 h2 h3

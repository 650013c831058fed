use Rattle.law_flat.proofs.Ending.{main_exits_here, main_leaves_here, main_fails_here}
use Rattle.law_flat.proofs.endings.ends_of_main.Goals as goal

pub returns-clause-exits : goal.returns-clause-exits
returns-clause-exits types known s code marks b seen st F p S a x cs h = main_exits_here h

pub returns-clause-exits_cut : goal.returns-clause-exits_cut
returns-clause-exits_cut types known s code marks b seen st F p S a x cs h = main_exits_here h

pub returns-clause-leaves : goal.returns-clause-leaves
returns-clause-leaves types known s code marks b seen st F p S a x cs h = main_leaves_here h

pub returns-clause-fails : goal.returns-clause-fails
returns-clause-fails types known s code marks b seen st F S x cs h = main_fails_here h

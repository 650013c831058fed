use Rattle.law_flat.proofs.OpenReturning.{open_exits_here, open_cut_exits_here, open_leaves_here}
use Rattle.law_flat.proofs.closures.returns_from_closures.Goals as goal

pub returns-clause-exits : goal.returns-clause-exits
returns-clause-exits types known s code marks b seen st F p S a x y c cs h = open_exits_here h

pub returns-clause-exits_cut : goal.returns-clause-exits_cut
returns-clause-exits_cut types known s code marks b seen st F p S a x y c cs h = open_cut_exits_here h

pub returns-clause-leaves : goal.returns-clause-leaves
returns-clause-leaves types known s code marks b seen st F p S a x y c cs again other has fails room h = open_leaves_here again other has fails room h

use Rattle.law_flat.proofs.Returning.{exits_here, cut_exits_here, fails_port_here}
use Rattle.law_flat.proofs.ports.returns_to_callers.Goals as goal

pub returns-clause-exits : goal.returns-clause-exits
returns-clause-exits types known s code marks b seen st F p S a x y c cs h1 = exits_here h1

pub returns-clause-exits_cut : goal.returns-clause-exits_cut
returns-clause-exits_cut types known s code marks b seen st F p S a x y c cs h1 = cut_exits_here h1

pub returns-clause-fails : goal.returns-clause-fails
returns-clause-fails types known s code marks b seen st F S x y c cs h1 = fails_port_here h1

use Rattle.law_flat.proofs.Leaving.{leaves_here}
use Rattle.law_flat.proofs.ports.exits_that_leave.Goals as goal

pub returns : goal.returns
returns types known s code marks b seen st F p S a x y c cs again other h1 h2 h3 h4 = leaves_here again other h1 h2 h3 h4

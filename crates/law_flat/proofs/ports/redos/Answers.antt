use Rattle.law_flat.proofs.Returning.{redoes_here}
use Rattle.law_flat.proofs.ports.redos.Goals as goal

pub returns : goal.returns
returns types known s code marks b seen st F S a x c cs other h1 h2 = redoes_here other h1 h2

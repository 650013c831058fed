use Rattle.law_flat.proofs.Silent.{keeps_here}
use Rattle.law_flat.proofs.steps.heights_of_bodies.Goals as goal

pub returns : goal.returns
returns types known s code marks b seen st F S w x c cs place next h1 h2 h3 = keeps_here place next h1 h2 h3

use Rattle.law_safety.proofs.Whole.{proper}
use Rattle.law_flat.proofs.Calling.{calls_whole_here, calls_cut_here}
use Rattle.law_flat.proofs.ports.calls.Goals as goal

pub returns-clause-whole : goal.returns-clause-whole
returns-clause-whole types known spelled s code marks b seen st F p S n l site name ys a w x c cs q f weight entry next other mark spells fault h1 h2 h3 h4 h h5 = calls_whole_here q f weight entry next other mark (proper spelled s spells fault) h1 h2 h3 h4 h h5

pub returns-clause-cut : goal.returns-clause-cut
returns-clause-cut types known spelled s code marks b seen st F p S n l site name ys a w x c cs q f weight entry next other mark spells fault h1 h2 h3 h4 h h5 = calls_cut_here q f weight entry next other mark (proper spelled s spells fault) h1 h2 h3 h4 h h5

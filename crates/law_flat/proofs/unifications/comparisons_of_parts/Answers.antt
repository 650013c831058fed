use Rattle.law_safety.proofs.Whole.{proper}
use Rattle.law_flat.proofs.Meeting.{meets_here}
use Rattle.law_flat.proofs.unifications.comparisons_of_parts.Goals as goal

pub returns : goal.returns
returns types known spelled s code marks b seen st F p S n l y q zs bound a w x c cs third next other spells fault h1 h2 h3 h4 h5 h6 h7 h8 = meets_here third next other (proper spelled s spells fault) h1 h2 h3 h4 h5 h6 h7 h8

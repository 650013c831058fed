use Rattle.law_flat.proofs.Applying.{applies_here}
use Rattle.law_flat.proofs.closures.open_calls.Goals as goal

pub returns : goal.returns
returns types known text s spells fault code is marks b seen st F p S n l site from ys a w x c cs next other has range leads fails h = applies_here text s spells fault code is next other has range leads fails h

use Rattle.law_flat.proofs.Named.{calls_here}
use Rattle.law_flat.proofs.joined.named_calls.Goals as goal

pub returns : goal.returns
returns types known text s spells fault code is marks b seen st F p S n l site name ys a w x c cs weight next other parts range leads fails h = calls_here text s spells fault code is weight next other parts range leads fails h

use Rattle.law_flat.proofs.Shaped.{shaped}
use Rattle.law_flat.proofs.laid.shapes_are_right.Goals as goal

pub returns : goal.returns
returns known = shaped

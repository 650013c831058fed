use Rattle.md_render.proofs.Anchored.{are_anchors}
use Rattle.md_render.proofs.laws.rows_are_anchors.Goals as goal

pub returns : goal.returns
returns c by s sound arities = are_anchors by s sound arities

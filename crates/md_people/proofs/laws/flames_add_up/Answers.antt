use Rattle.md_cost.proofs.ValidSteps.{valid_sound}
use Rattle.md_people.proofs.Adding.{burns_whole}
use Rattle.md_people.proofs.laws.flames_add_up.Goals as goal

pub returns : goal.returns
returns c f v by valid viewed = burns_whole f (valid_sound f valid).links v.cliques v.entries viewed.tree v viewed by

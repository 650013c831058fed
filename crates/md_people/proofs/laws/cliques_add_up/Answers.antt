use Rattle.md_cost.proofs.ValidSteps.{valid_sound}
use Rattle.md_people.proofs.Adding.{adds_up}
use Rattle.md_people.proofs.laws.cliques_add_up.Goals as goal

pub returns : goal.returns
returns c f v by k valid viewed = adds_up f (valid_sound f valid).links v.cliques v.entries viewed.tree v viewed by k

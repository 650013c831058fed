use Rattle.std.proofs.Common.{sym, subst}
use Rattle.md_hlds.specs.Hlds.{body_number}
use Rattle.md_code.specs.Blocks.{body_place}
use Rattle.law_flat.specs.Flat.{Flat}
use Rattle.law_flat.specs.Shapes.{shape_of}
use Rattle.law_flat.specs.Laid.{Laid, IsCommon}
use Rattle.law_flat.proofs.Bodies.{same_code, common_stands, body_laid}
use Rattle.law_flat.proofs.laid.bodies_are_laid.Goals as goal

pub returns-clause-bodies : goal.returns-clause-bodies
returns-clause-bodies c s code is q p at = subst (λ (f : Flat). Laid s f (shape_of s q p) (body_number s q) p.body (body_place s q p)) (sym (same_code s code is)) (body_laid s code.reach q p at)

pub returns-clause-common : goal.returns-clause-common
returns-clause-common c s code is = subst (λ (f : Flat). IsCommon f) (sym (same_code s code is)) (common_stands s code.reach)

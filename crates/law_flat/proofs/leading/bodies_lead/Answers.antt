use Rattle.std.proofs.Common.{sym, subst}
use Rattle.md_hlds.specs.HldsGoal.{numbered_goal}
use Rattle.md_hlds.specs.Hlds.{body_number}
use Rattle.law_frames.specs.Ways.{cut_body, whole_body}
use Rattle.md_code.specs.Leaves.{leaves_table}
use Rattle.md_code.specs.Tables.{head_at, entry_at}
use Rattle.law_flat.specs.Flat.{Flat}
use Rattle.law_flat.specs.Shapes.{shape_of}
use Rattle.law_flat.specs.Leads.{Leads, Enters}
use Rattle.law_flat.proofs.Armed.{armed, in_slots}
use Rattle.law_flat.proofs.Bodies.{same_code, cut_body_leads, whole_body_leads, cut_body_enters, whole_body_enters}
use Rattle.law_flat.proofs.leading.bodies_lead.Goals as goal

pub returns-clause-cut : goal.returns-clause-cut
returns-clause-cut c text s spells code is q p at det =
    subst (λ (f : Flat). Leads s f (shape_of s q p) (head_at (body_number s q)) 0 (cut_body (leaves_table s) (numbered_goal (body_number s q) p.body))) (sym (same_code s code is)) (cut_body_leads s code.reach q p at det (armed text s spells q p at) (in_slots text s spells q p at))

pub returns-clause-whole : goal.returns-clause-whole
returns-clause-whole c text s spells code is q p at det =
    subst (λ (f : Flat). Leads s f (shape_of s q p) (head_at (body_number s q)) 0 (whole_body (leaves_table s) (numbered_goal (body_number s q) p.body))) (sym (same_code s code is)) (whole_body_leads s code.reach q p at det (armed text s spells q p at) (in_slots text s spells q p at))

pub returns-clause-cut_entered : goal.returns-clause-cut_entered
returns-clause-cut_entered c text s spells code is q p at det =
    subst (λ (f : Flat). Enters s f (shape_of s q p) (entry_at s q p) (cut_body (leaves_table s) (numbered_goal (body_number s q) p.body))) (sym (same_code s code is)) (cut_body_enters s code.reach q p at det (armed text s spells q p at) (in_slots text s spells q p at))

pub returns-clause-whole_entered : goal.returns-clause-whole_entered
returns-clause-whole_entered c text s spells code is q p at det =
    subst (λ (f : Flat). Enters s f (shape_of s q p) (entry_at s q p) (whole_body (leaves_table s) (numbered_goal (body_number s q) p.body))) (sym (same_code s code is)) (whole_body_enters s code.reach q p at det (armed text s spells q p at) (in_slots text s spells q p at))

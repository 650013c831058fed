use Rattle.std.proofs.Common.{◌∙◌, ◌+◌, sym, ap}
use Rattle.md_hlds.specs.Hlds.{hlds_of}
use Rattle.md_hlds.specs.HldsGoal.{goals_of, gathered, goal_size}
use Rattle.md_code.specs.Blocks.{arm_place}
use Rattle.md_code.specs.Told.{place_told}
use Rattle.md_code.proofs.SurveyLemmas.{if-ok-map}
use Rattle.md_code.proofs.layout.arm_place.Goals as goal

pub returns-in-None : goal.returns-in-None
returns-in-None c =
    if-ok-map c.tried_place.result
    (λ place is g there. is g there
    ∙ ap (λ w. arm_place (hlds_of c.args.tables.now.source.checked.now) c.args.number c.args.part (c.args.part + goal_size g) (gathered (goals_of c.args.others.now)) (place_told c.args.at) w c.args.entry.pending c.args.entry.height)
    (sym c.in-None.is ∙ c.switch.ensures))
    c.tried_place.ensures

use Rattle.std.proofs.Common.{◌∙◌, ◌+◌, ap}
use Rattle.md_hlds.specs.Hlds.{hlds_of}
use Rattle.md_hlds.specs.HldsGoal.{goals_of, gathered}
use Rattle.md_modes.specs.Classes.{size_of}
use Rattle.md_code.specs.Blocks.{branch, arm_trial}
use Rattle.md_code.specs.Told.{place_told}
use Rattle.md_code.proofs.SurveyLemmas.{if-ok-map}
use Rattle.md_code.proofs.layout.tried_place.Goals as goal

pub returns : goal.returns
returns c =
    let s = hlds_of c.args.tables.now.source.checked.now in
    if-ok-map c.branch_place.result
    (λ place is g there. is
    ∙ (λ i. branch s c.args.number c.args.part (place_told c.args.at) (c.arm_other-other.ensures i) c.args.entry.pending c.args.entry.height
    ((c.in_ok-trial.ensures ∙ ap (λ k. arm_trial k (gathered (goals_of c.args.others.now))) (c.in_ok-after.ensures ∙ ap (λ k. c.args.part + size_of k) there)) i)))
    c.branch_place.ensures

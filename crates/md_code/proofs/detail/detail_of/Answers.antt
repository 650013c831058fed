use Rattle.std.proofs.Common.{◌∙◌, sym, ap, subst, suc}
use Rattle.md_hlds.specs.Hlds.{hlds_of}
use Rattle.md_hlds.specs.HldsGoal.{GoalExpr, goals_below}
use Rattle.md_code.specs.Facts.{Stand}
use Rattle.md_code.specs.Details.{detail_of}
use Rattle.md_code.specs.Told.{place_told}
use Rattle.md_code.proofs.SurveyLemmas.{if-ok-map}
use Rattle.md_code.proofs.BlockLemmas.{expr-Disj}
use Rattle.md_code.proofs.detail.detail_of.Goals as goal

pub returns-in-Disj : goal.returns-in-Disj
returns-in-Disj c =
    let s = hlds_of c.args.tables.now.source.checked.now in
    let same = expr-Disj c.args.kind.now c.in-Disj.arms c.as_slice-in-Disj.result.now c.in-Disj.is c.as_slice-in-Disj.ensures.value in
    if-ok-map c.switch_detail.result
    (λ d is stands. is (subst (λ (t : GoalExpr). Stand s (suc c.args.number) (goals_below t)) same stands.below) ∙ ap (λ t. detail_of s c.args.number t (place_told c.args.at)) (sym same))
    c.switch_detail.ensures

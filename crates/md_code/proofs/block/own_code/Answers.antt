use Rattle.std.proofs.Common.{◌≡◌, ◌∙◌, sym, ap, subst, refl, arith, true, suc, ℕ}
use Rattle.md_hlds.specs.Hlds.{hlds_of}
use Rattle.md_hlds.specs.HldsGoal.{GoalExpr, expr_of, goal_of, goals_below}
use Rattle.md_code.specs.Leaves.{leaves_table}
use Rattle.md_code.specs.Tables.{head_at}
use Rattle.md_code.specs.Facts.{Stand}
use Rattle.md_code.specs.Blocks.{own_code, condition_code}
use Rattle.md_code.specs.Told.{place_told, is_simple}
use Rattle.md_code.proofs.SurveyLemmas.{if-ok-map, expr_of-If}
use Rattle.md_code.proofs.BlockLemmas.{expr-Conj, expr-Disj, If-numbers}
use Rattle.md_code.proofs.block.own_code.Goals as goal

pub returns-in-Conj : goal.returns-in-Conj
returns-in-Conj c =
    if-ok-map c.conjunction_code.result
    (λ code is stands. is ∙ ap (λ t. own_code (hlds_of c.args.tables.now.source.checked.now) c.args.number t (place_told c.args.at))
    (sym (expr-Conj c.args.kind.now c.in-Conj.goals c.as_slice.result.now c.in-Conj.is c.as_slice.ensures.value)))
    c.conjunction_code.ensures

pub returns-in-Disj : goal.returns-in-Disj
returns-in-Disj c =
    let s = hlds_of c.args.tables.now.source.checked.now in
    let same = expr-Disj c.args.kind.now c.in-Disj.arms c.as_slice-in-Disj.result.now c.in-Disj.is c.as_slice-in-Disj.ensures.value in
    if-ok-map c.disjunction_code.result
    (λ code is stands. is (subst (λ (t : GoalExpr). Stand s (suc c.args.number) (goals_below t)) same stands.below) ∙ ap (λ t. own_code s c.args.number t (place_told c.args.at)) (sym same))
    c.disjunction_code.ensures

pub returns-in_ok-otherwise-in-If : goal.returns-in_ok-otherwise-in-If
returns-in_ok-otherwise-in-If c =
    let s = hlds_of c.args.tables.now.source.checked.now in
    let x = goal_of c.in-If.field-0.value in
    let y = goal_of c.in-If.field-1.value in
    let z = goal_of c.in-If.field-2.value in
    let same = expr_of-If c.args.kind.now c.in-If.field-0 c.in-If.field-1 c.in-If.field-2 c.in-If.field-0.value c.in-If.field-1.value c.in-If.field-2.value c.in-If.is refl refl refl in
    if-ok-map c.condition_code.result
    (λ code is stands. is
    ∙ (ap (λ (m : ℕ). condition_code (leaves_table s (suc c.args.number)) c.args.number c.args.at.pending c.args.at.height c.args.at.size m)
    (c.in_ok-otherwise-in-If.ensures ∙ ap head_at (If-numbers s c.args.number c.in_ok-plus-in-If.field-0 c.in_ok-second-in-If.second c.in_ok-after-in-If.field-0 (expr_of c.args.kind.now) x y z same stands
    c.in_ok-plus-in-If.ensures c.in_ok-second-in-If.ensures c.in_ok-after-in-If.ensures).third-is)
    ∙ ap (λ t. own_code s c.args.number t (place_told c.args.at)) (sym same)))
    c.condition_code.ensures

pub returns-in-True : goal.returns-in-True
returns-in-True c =
    let simple : is_simple (expr_of c.args.kind.now) ≡ true = grind (arith, c.in-True.is) in
    if-ok-map c.simple_code.result (λ code is stands. is simple) c.simple_code.ensures

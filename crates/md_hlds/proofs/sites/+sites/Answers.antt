use Rattle.std.proofs.Common.{◌∙◌, arith, ap, sym, add-one}
use Rattle.std.proofs.lemmas.Grind.{common_steps}
use Rattle.md_hlds.specs.HldsGoal.{goal_of, site_lines}
use Rattle.md_hlds.proofs.SiteLemmas.{lines_of, finds_along, expr_lines-Conj, expr_lines-Disj, expr_lines-If, third_of_three, found_at, length-lines_more}
use Rattle.md_hlds.proofs.sites.+sites.Goals as goal

pub find_site-returns-in-Conj : goal.find_site-returns-in-Conj
find_site-returns-in-Conj t c =
    finds_along _ _ _ _ c.find_in_all.result
    (expr_lines-Conj c.args.goal.now.line c.args.goal.now.kind c.in-Conj.goals c.in-Conj.is ∙ ap lines_of (sym c.as_slice.ensures.value))
    c.find_in_all.ensures

pub find_site-returns-in-Disj : goal.find_site-returns-in-Disj
find_site-returns-in-Disj t c =
    finds_along _ _ _ _ c.find_in_all-in-Disj.result
    (expr_lines-Disj c.args.goal.now.line c.args.goal.now.kind c.in-Disj.goals c.in-Disj.is ∙ ap lines_of (sym c.as_slice-in-Disj.ensures.value))
    c.find_in_all-in-Disj.ensures

pub find_site-returns-in_default-find_site-2 : goal.find_site-returns-in_default-find_site-2
find_site-returns-in_default-find_site-2 t c =
    finds_along _ _ _ _ c.find_site-in-If-2.result
    (expr_lines-If c.args.goal.now.line c.args.goal.now.kind c.in-If.condition c.in-If.then c.in-If.otherwise
    c.deref.result.now c.deref-in-If.result.now c.deref-in-If-2.result.now c.in-If.is c.deref.ensures c.deref-in-If.ensures c.deref-in-If-2.ensures)
    (third_of_three (site_lines (goal_of c.deref.result.now)) (site_lines (goal_of c.deref-in-If.result.now)) (site_lines (goal_of c.deref-in-If-2.result.now))
    c.args.before.now c.find_site.new.before c.find_site-in-If.new.before c.find_site-in-If-2.new.before
    c.find_site-in-If-2.result c.in_default-find_site.ensures c.in_default-find_site-2.ensures c.find_site-in-If-2.ensures)

pub find_in_all-returns-in-Some : goal.find_in_all-returns-in-Some
find_in_all-returns-in-Some t c =
    found_at c.args.goals.now c.loop-goal.goal-index c.goal-item.result c.loop-goal.before c.args.before.now c.in-Some.line
    (omega arith) c.goal-item.is c.loop-goal.invariant c.in-Some.ensures

pub find_in_all-loop-goal-preserved : goal.find_in_all-loop-goal-preserved
find_in_all-loop-goal-preserved t c =
    rw add-one
    (omega (arith, length-lines_more c.args.goals.now c.loop-goal.goal-index c.goal-item.result (omega arith) c.goal-item.is, c.in_default.ensures))

pub find_in_all-returns : goal.find_in_all-returns
find_in_all-returns t c = grind (arith, common_steps)

pub find_site-returns-else-before-eq0 : goal.find_site-returns-else-before-eq0
find_site-returns-else-before-eq0 t c = grind (arith, common_steps)

pub find_site-returns-in-Not : goal.find_site-returns-in-Not
find_site-returns-in-Not t c = grind (arith, common_steps)

pub find_site-returns-then-before-eq0 : goal.find_site-returns-then-before-eq0
find_site-returns-then-before-eq0 t c = grind (arith, common_steps)

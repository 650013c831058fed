use Rattle.std.proofs.Common.{◌≡◌, ◌∙◌, ap, sym, subst, arith, add-one, ℕ, IfOk, List, length}
use Rattle.std.proofs.lemmas.Grind.{common_steps}
use Rattle.md_hlds.specs.declared.goal.Goal.{Goal}
use Rattle.md_hlds.specs.HldsGoal.{goals_of, gathered, goals_lines}
use Rattle.md_plain.proofs.GoalLemmas.{expr_lines-Conj, expr_lines-Disj, lines-more}
use Rattle.md_plain.proofs.goal.+sites.Goals as goal

pub site_count-returns-in-Conj : goal.site_count-returns-in-Conj
site_count-returns-in-Conj t c =
    subst (λ (n : ℕ). IfOk c.sites_among.result (λ count. count ≡ n))
    (ap (λ (gs : List Goal). length (goals_lines (gathered (goals_of gs)))) c.as_slice.ensures.value ∙ sym (expr_lines-Conj c.args.goal.now.line c.args.goal.now.kind c.in-Conj.parts c.in-Conj.is))
    c.sites_among.ensures

pub site_count-returns-in-Disj : goal.site_count-returns-in-Disj
site_count-returns-in-Disj t c =
    subst (λ (n : ℕ). IfOk c.sites_among-in-Disj.result (λ count. count ≡ n))
    (ap (λ (gs : List Goal). length (goals_lines (gathered (goals_of gs)))) c.as_slice-in-Disj.ensures.value ∙ sym (expr_lines-Disj c.args.goal.now.line c.args.goal.now.kind c.in-Disj.parts c.in-Disj.is))
    c.sites_among-in-Disj.ensures

pub sites_among-loop-goal-preserved : goal.sites_among-loop-goal-preserved
sites_among-loop-goal-preserved t c =
    rw add-one
    (omega (arith, c.loop-goal.invariant, c.in_ok-total.ensures, c.in_ok-site_count.ensures, lines-more c.args.goals.now c.loop-goal.goal-index c.goal-item.result (omega arith) c.goal-item.is))

pub site_count-returns-in-Call : goal.site_count-returns-in-Call
site_count-returns-in-Call t c = grind (arith, common_steps)

pub site_count-returns-in-Not : goal.site_count-returns-in-Not
site_count-returns-in-Not t c = grind (arith, common_steps)

pub site_count-returns-in-Some : goal.site_count-returns-in-Some
site_count-returns-in-Some t c = grind (arith, common_steps)

pub site_count-returns-in-True : goal.site_count-returns-in-True
site_count-returns-in-True t c = grind (arith, common_steps)

pub site_count-returns-in_ok-site_count-in-If-3 : goal.site_count-returns-in_ok-site_count-in-If-3
site_count-returns-in_ok-site_count-in-If-3 t c = grind (arith, common_steps)

pub sites_among-returns : goal.sites_among-returns
sites_among-returns t c = grind (arith, common_steps)

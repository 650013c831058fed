use Rattle.std.proofs.Common.{◌∙◌, ap, sym, arith, List}
use Rattle.std.proofs.lemmas.Grind.{common_steps}
use Rattle.md_hlds.specs.declared.goal.Goal.{Goal}
use Rattle.md_hlds.specs.HldsGoal.{expr_of, goals_of, gathered}
use Rattle.md_hlds.proofs.Bridge.{expr_of-Conj, expr_of-Disj}
use Rattle.md_det.specs.Throws.{expr_has_error, some_has_error}
use Rattle.md_det.proofs.Errors.{error-missed, error-found, error-none}
use Rattle.md_det.proofs.throws.+errors.Goals as goal

pub has_error-returns-in-Conj : goal.has_error-returns-in-Conj
has_error-returns-in-Conj t c =
    c.some_has_error.ensures
    ∙ (ap (λ (gs : List Goal). some_has_error (gathered (goals_of gs))) c.as_slice.ensures.value
    ∙ sym (ap (λ k. expr_has_error (expr_of k)) c.in-Conj.is ∙ ap expr_has_error (expr_of-Conj c.in-Conj.goals)))

pub has_error-returns-in-Disj : goal.has_error-returns-in-Disj
has_error-returns-in-Disj t c =
    c.some_has_error-in-Disj.ensures
    ∙ (ap (λ (gs : List Goal). some_has_error (gathered (goals_of gs))) c.as_slice-in-Disj.ensures.value
    ∙ sym (ap (λ k. expr_has_error (expr_of k)) c.in-Disj.is ∙ ap expr_has_error (expr_of-Disj c.in-Disj.arms)))

pub some_has_error-loop-goal-preserved : goal.some_has_error-loop-goal-preserved
some_has_error-loop-goal-preserved t c =
    c.loop-goal.invariant
    ∙ error-missed c.args.goals.now c.loop-goal.goal-index c.goal-item.result c.loop-goal-test.true c.goal-item.is (sym c.has_error.ensures ∙ c.if-has_error.false)

pub some_has_error-returns-then-has_error : goal.some_has_error-returns-then-has_error
some_has_error-returns-then-has_error t c =
    sym (c.loop-goal.invariant
    ∙ error-found c.args.goals.now c.loop-goal.goal-index c.goal-item.result c.loop-goal-test.true c.goal-item.is (sym c.has_error.ensures ∙ c.if-has_error.true))

pub some_has_error-returns : goal.some_has_error-returns
some_has_error-returns t c = sym (c.loop-goal.invariant ∙ error-none c.args.goals.now c.loop-goal.goal-index (omega arith))

pub has_error-returns-else-has_error-2 : goal.has_error-returns-else-has_error-2
has_error-returns-else-has_error-2 t c = grind (arith, common_steps)

pub has_error-returns-in-Error : goal.has_error-returns-in-Error
has_error-returns-in-Error t c = grind (arith, common_steps)

pub has_error-returns-in-Not : goal.has_error-returns-in-Not
has_error-returns-in-Not t c = grind (arith, common_steps)

pub has_error-returns-in-True : goal.has_error-returns-in-True
has_error-returns-in-True t c = grind (arith, common_steps)

pub has_error-returns-in-True-3 : goal.has_error-returns-in-True-3
has_error-returns-in-True-3 t c = grind (arith, common_steps)

pub has_error-returns-in-True-4 : goal.has_error-returns-in-True-4
has_error-returns-in-True-4 t c = grind (arith, common_steps)

pub has_error-returns-in-True-5 : goal.has_error-returns-in-True-5
has_error-returns-in-True-5 t c = grind (arith, common_steps)

pub has_error-returns-in-True-6 : goal.has_error-returns-in-True-6
has_error-returns-in-True-6 t c = grind (arith, common_steps)

pub has_error-returns-in-True-7 : goal.has_error-returns-in-True-7
has_error-returns-in-True-7 t c = grind (arith, common_steps)

pub has_error-returns-in-True-8 : goal.has_error-returns-in-True-8
has_error-returns-in-True-8 t c = grind (arith, common_steps)

pub has_error-returns-in-True-9 : goal.has_error-returns-in-True-9
has_error-returns-in-True-9 t c = grind (arith, common_steps)

pub has_error-returns-then-has_error-2 : goal.has_error-returns-then-has_error-2
has_error-returns-then-has_error-2 t c = grind (arith, common_steps)

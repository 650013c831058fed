use Rattle.std.proofs.Common.{◌∙◌, ap, sym, arith}
use Rattle.std.proofs.lemmas.Grind.{common_steps}
use Rattle.md_modes.proofs.Listed.{goals_variables, goals_variables-Conj, goals_variables-Disj}
use Rattle.md_modes.specs.Branches.{some_of}
use Rattle.md_feedback.specs.Search.{mark_at}
use Rattle.md_feedback.proofs.marks.+mentions.Goals as goal

pub mentions-returns-in-Conj : goal.mentions-returns-in-Conj
mentions-returns-in-Conj t c =
    c.mentions_some.ensures
    ∙ ap (some_of (mark_at c.args.marks.now)) (ap goals_variables c.as_slice.ensures.value ∙ sym (goals_variables-Conj c.args.goal.now c.in-Conj.goals c.in-Conj.is))

pub mentions-returns-in-Disj : goal.mentions-returns-in-Disj
mentions-returns-in-Disj t c =
    c.mentions_some-in-Disj.ensures
    ∙ ap (some_of (mark_at c.args.marks.now)) (ap goals_variables c.as_slice-in-Disj.ensures.value ∙ sym (goals_variables-Disj c.args.goal.now c.in-Disj.arms c.in-Disj.is))

pub mentions-returns-else-mentions-2 : goal.mentions-returns-else-mentions-2
mentions-returns-else-mentions-2 t c = grind (arith, common_steps)

pub mentions-returns-else-some_marked : goal.mentions-returns-else-some_marked
mentions-returns-else-some_marked t c = grind (arith, common_steps)

pub mentions-returns-in-Not : goal.mentions-returns-in-Not
mentions-returns-in-Not t c = grind (arith, common_steps)

pub mentions-returns-then-mentions-2 : goal.mentions-returns-then-mentions-2
mentions-returns-then-mentions-2 t c = grind (arith, common_steps)

pub mentions-returns-then-some_marked : goal.mentions-returns-then-some_marked
mentions-returns-then-some_marked t c = grind (arith, common_steps)

pub mentions_some-loop-goal-preserved : goal.mentions_some-loop-goal-preserved
mentions_some-loop-goal-preserved t c = grind (arith, common_steps)

pub mentions_some-returns : goal.mentions_some-returns
mentions_some-returns t c = grind (arith, common_steps)

pub mentions_some-returns-then-mentions : goal.mentions_some-returns-then-mentions
mentions_some-returns-then-mentions t c = grind (arith, common_steps)

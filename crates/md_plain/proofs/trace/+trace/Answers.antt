use Rattle.std.proofs.Common.{◌≡◌, ap, ◌∙◌, sym, subst, arith, ◌+◌, ◌-◌, IfOk, [], ◌∷◌, length, drop}
use Rattle.md_hlds.specs.HldsGoal.{GoalExpr, goal_of, goals_of, gathered, expr_of, numbered_from}
use Rattle.md_hlds.specs.Hlds.{hlds_of}
use Rattle.md_hlds.specs.Trace.{excps, arms, Answer}
use Rattle.md_plain.specs.Values.{env_of}
use Rattle.md_hlds.specs.Switch.{switch_shape}
use Rattle.md_plain.specs.Keys.{chosen}
use Rattle.md_plain.specs.Goals.{numbered_of, numbereds_of}
use Rattle.md_plain.specs.Told.{Told, Job, deeper, traces, unfolds}
use Rattle.md_plain.specs.Runs.{frame_of, frames_of, job_of, place_of, run_of, end_of, told_of, option_front, option_job, option_run}
use Rattle.md_plain.proofs.GoalLemmas.{conj_of, disj_of, numbereds_of-more}
use Rattle.md_plain.proofs.TraceLemmas.{answered, missing, threw, over, hits, unfolds_at, answers_alone, exits_to, disj_at, if_found, if_missed, on, if_at, not_at, some_at, found_then, missed_then, goes_from, tried_next, all_from, comes_from, fails_from, leaves_from, over_from, is_innermost}
use Rattle.md_plain.proofs.trace.+trace.Goals as goal

pub trace-returns-else-depth-eq0 : goal.trace-returns-else-depth-eq0
trace-returns-else-depth-eq0 t c =
    subst (λ (u : Told). IfOk c.unfold.result (λ t. told_of t ≡ u))
    (unfolds_at (hlds_of c.args.maker.now.program.now) c.args.depth (c.args.depth - 1) (job_of c.args.job.now) (place_of c.in-Some.place) c.in-Some.goal.now.line (expr_of c.in-Some.goal.now.kind) (run_of c.args.run)
    (omega (arith, c.if-depth-eq0.false)) (sym (ap option_front c.in-Some.is) ∙ c.next_goal.ensures))
    c.unfold.ensures

pub returns-returns-in-None : goal.returns-returns-in-None
returns-returns-in-None t c =
    c.ended.ensures
    ∙ answers_alone (hlds_of c.args.maker.now.program.now) c.args.depth (job_of c.args.job.now) (run_of c.args.run) c.requires (sym (ap option_job c.in-None.is) ∙ c.innermost.ensures)

pub returns-returns-in_ok-told-in-Some : goal.returns-returns-in_ok-told-in-Some
returns-returns-in_ok-told-in-Some t c =
    subst (λ (u : Told). IfOk c.then_redo.result (λ t. told_of t ≡ u))
    (exits_to (hlds_of c.args.maker.now.program.now) c.args.depth (job_of c.args.job.now) (job_of c.in-Some.caller) (job_of c.in_ok-resumed-in-Some.resumed) (run_of c.args.run) (run_of c.in_ok-exited-in-Some.exited) (told_of c.in_ok-told-in-Some.told)
    c.requires (sym (ap option_job c.in-Some.is) ∙ c.innermost.ensures) c.in_ok-exited-in-Some.ensures c.in_ok-resumed-in-Some.ensures c.in_ok-told-in-Some.ensures)
    c.then_redo.ensures

pub unfold-returns-in-Conj : goal.unfold-returns-in-Conj
unfold-returns-in-Conj t c =
    subst (λ (e : GoalExpr). IfOk c.conjunction.result (λ t. told_of t ≡ unfolds (hlds_of c.args.maker.now.program.now) c.args.depth (place_of c.args.place.now) e (run_of c.args.run)))
    (conj_of c.args.kind.now c.in-Conj.parts c.as_slice-in-Conj.result.now c.in-Conj.is c.as_slice-in-Conj.ensures.value)
    c.conjunction.ensures

pub unfold-returns-in-Disj : goal.unfold-returns-in-Disj
unfold-returns-in-Disj t c =
    subst (λ (e : GoalExpr). IfOk c.disjunction.result (λ t. told_of t ≡ unfolds (hlds_of c.args.maker.now.program.now) c.args.depth (place_of c.args.place.now) e (run_of c.args.run)))
    (disj_of c.args.kind.now c.in-Disj.arms c.as_slice-in-Disj.result.now c.in-Disj.is c.as_slice-in-Disj.ensures.value)
    c.disjunction.ensures

pub after_simple-trace-requires : goal.after_simple-trace-requires
after_simple-trace-requires t c = omega (arith, ap (λ (j : Job). length j.callers) c.knowing.ensures)

pub conjunction-trace-requires : goal.conjunction-trace-requires
conjunction-trace-requires t c = omega (arith, ap (λ (j : Job). length j.callers) c.doing.ensures)

pub disjunction-returns : goal.disjunction-returns
disjunction-returns t c =
    subst (λ (u : Told). IfOk c.tries.result (λ t. told_of t ≡ u))
    (disj_at (hlds_of c.args.maker.now.program.now) c.args.depth (place_of c.args.place.now) (gathered (goals_of c.args.arms.now)) (numbereds_of c.in_ok-chosen.chosen.now) (run_of c.args.run) (run_of c.in-Some.turned)
    (c.in_ok-chosen.ensures ∙ ap (λ n. chosen (env_of c.args.place.now.frame.env.now) (numbered_from n (gathered (goals_of c.args.arms.now))) (switch_shape (hlds_of c.args.maker.now.program.now) (gathered (goals_of c.args.arms.now)))) (omega (arith, c.in_ok-first.ensures)))
    (sym (ap option_run c.in-Some.is) ∙ c.in_ok-turned.ensures))
    c.tries.ensures

pub tries-trace-requires : goal.tries-trace-requires
tries-trace-requires t c = omega (arith, ap (λ (j : Job). length j.callers) c.doing.ensures)

pub tries-loop-arm-preserved : goal.tries-loop-arm-preserved
tries-loop-arm-preserved t c =
    let s = hlds_of c.args.maker.now.program.now in
    let p = place_of c.args.place.now in
    let rest = numbereds_of (drop (c.loop-arm.arm-index + 1) c.args.arms.now) in
    c.loop-arm.invariant
    ∙ (tried_next s c.args.depth p (numbereds_of (drop c.loop-arm.arm-index c.args.arms.now)) (numbered_of c.arm-item.result) rest (numbereds_of c.in_ok-goals.goals.now) (job_of c.doing.result) (run_of c.loop-arm.run) (told_of c.in_ok-told.told)
    (numbereds_of-more c.args.arms.now c.loop-arm.arm-index c.arm-item.result (omega arith) c.arm-item.is) (ap numbereds_of c.in_ok-goals.ensures) c.doing.ensures c.in_ok-told.ensures
    ∙ sym (missing (λ e k. Answer e ∷ []) (λ n. arms (deeper s c.args.depth) p.frame p.goals p.callers n rest) [] (told_of c.in_ok-told.told) (ap end_of c.in-Missed.is)))

pub asks-trace-requires : goal.asks-trace-requires
asks-trace-requires t c = omega (arith, ap (λ (j : Job). length j.callers) c.in_ok-asked.ensures)

pub conditional-trace-requires : goal.conditional-trace-requires
conditional-trace-requires t c = omega (arith, ap (λ (j : Job). length j.callers) c.knowing.ensures)

pub conditional-trace-requires-in-Missed : goal.conditional-trace-requires-in-Missed
conditional-trace-requires-in-Missed t c = omega (arith, ap (λ (j : Job). length j.callers) c.doing.ensures)

pub conditional-returns-in_ok-goals-in-Answered : goal.conditional-returns-in_ok-goals-in-Answered
conditional-returns-in_ok-goals-in-Answered t c =
    subst (λ (u : Told). IfOk c.trace.result (λ t. told_of t ≡ u))
    (found_then (hlds_of c.args.maker.now.program.now) c.args.depth (place_of c.args.place.now) (goal_of c.args.condition.now) (goal_of c.args.then.now) (goal_of c.args.otherwise.now) (run_of c.args.run)
    (told_of c.in_ok-told.told) (env_of c.in-Answered.env.now) c.in_ok-second.second (numbereds_of c.in_ok-goals-in-Answered.goals.now) (job_of c.knowing.result)
    c.in_ok-told.ensures (ap end_of c.in-Answered.is) (omega (arith, c.in_ok-first.ensures, c.in_ok-second.ensures)) c.in_ok-goals-in-Answered.ensures c.knowing.ensures)
    c.trace.ensures

pub conditional-returns-in_ok-goals-in-Missed : goal.conditional-returns-in_ok-goals-in-Missed
conditional-returns-in_ok-goals-in-Missed t c =
    subst (λ (u : Told). IfOk c.trace-in-Missed.result (λ t. told_of t ≡ u))
    (missed_then (hlds_of c.args.maker.now.program.now) c.args.depth (place_of c.args.place.now) (goal_of c.args.condition.now) (goal_of c.args.then.now) (goal_of c.args.otherwise.now) (run_of c.args.run)
    (told_of c.in_ok-told.told) c.in_ok-third.third (numbereds_of c.in_ok-goals-in-Missed.goals.now) (job_of c.doing.result)
    c.in_ok-told.ensures (ap end_of c.in-Missed.is) (omega (arith, c.in_ok-first.ensures, c.in_ok-second.ensures, c.in_ok-third.ensures)) c.in_ok-goals-in-Missed.ensures c.doing.ensures)
    c.trace-in-Missed.ensures

pub conditional-returns-in-Thrown : goal.conditional-returns-in-Thrown
conditional-returns-in-Thrown t c =
    let s = hlds_of c.args.maker.now.program.now in
    let p = place_of c.args.place.now in
    subst (λ (u : Told). IfOk c.leave.result (λ t. told_of t ≡ u))
    (threw (if_found s c.args.depth p (goal_of c.args.condition.now) (goal_of c.args.then.now)) (if_missed s c.args.depth p (goal_of c.args.condition.now) (goal_of c.args.then.now) (goal_of c.args.otherwise.now)) (excps p.callers) (told_of c.in_ok-told.told) (ap end_of c.in-Thrown.is)
    ∙ if_at s c.args.depth p (goal_of c.args.condition.now) (goal_of c.args.then.now) (goal_of c.args.otherwise.now) (run_of c.args.run) (told_of c.in_ok-told.told) c.in_ok-told.ensures)
    c.leave.ensures

pub conditional-returns-in-Over : goal.conditional-returns-in-Over
conditional-returns-in-Over t c =
    let s = hlds_of c.args.maker.now.program.now in
    let p = place_of c.args.place.now in
    over (if_found s c.args.depth p (goal_of c.args.condition.now) (goal_of c.args.then.now)) (if_missed s c.args.depth p (goal_of c.args.condition.now) (goal_of c.args.then.now) (goal_of c.args.otherwise.now)) (excps p.callers) (told_of c.in_ok-told.told) (ap end_of c.in-Over.is)
    ∙ if_at s c.args.depth p (goal_of c.args.condition.now) (goal_of c.args.then.now) (goal_of c.args.otherwise.now) (run_of c.args.run) (told_of c.in_ok-told.told) c.in_ok-told.ensures

pub negation-trace-requires : goal.negation-trace-requires
negation-trace-requires t c = omega (arith, ap (λ (j : Job). length j.callers) c.doing.ensures)

pub negation-returns-in-Answered : goal.negation-returns-in-Answered
negation-returns-in-Answered t c =
    let s = hlds_of c.args.maker.now.program.now in
    let p = place_of c.args.place.now in
    c.ended.ensures
    ∙ (answered (λ e k. []) (on s c.args.depth p) (excps p.callers) (told_of c.in_ok-told.told) (env_of c.in-Answered.field-0.now) (ap end_of c.in-Answered.is)
    ∙ not_at s c.args.depth p (goal_of c.args.goal.now) (run_of c.args.run) (told_of c.in_ok-told.told) c.in_ok-told.ensures)

pub negation-returns-in-Missed : goal.negation-returns-in-Missed
negation-returns-in-Missed t c =
    let s = hlds_of c.args.maker.now.program.now in
    let p = place_of c.args.place.now in
    subst (λ (u : Told). IfOk c.trace.result (λ t. told_of t ≡ u))
    (goes_from s c.args.depth p (told_of c.in_ok-told.told) (job_of c.doing.result) c.doing.ensures
    ∙ (missing (λ e k. []) (on s c.args.depth p) (excps p.callers) (told_of c.in_ok-told.told) (ap end_of c.in-Missed.is)
    ∙ not_at s c.args.depth p (goal_of c.args.goal.now) (run_of c.args.run) (told_of c.in_ok-told.told) c.in_ok-told.ensures))
    c.trace.ensures

pub negation-returns-in-Thrown : goal.negation-returns-in-Thrown
negation-returns-in-Thrown t c =
    let s = hlds_of c.args.maker.now.program.now in
    let p = place_of c.args.place.now in
    subst (λ (u : Told). IfOk c.leave.result (λ t. told_of t ≡ u))
    (threw (λ e k. []) (on s c.args.depth p) (excps p.callers) (told_of c.in_ok-told.told) (ap end_of c.in-Thrown.is)
    ∙ not_at s c.args.depth p (goal_of c.args.goal.now) (run_of c.args.run) (told_of c.in_ok-told.told) c.in_ok-told.ensures)
    c.leave.ensures

pub negation-returns-in-Over : goal.negation-returns-in-Over
negation-returns-in-Over t c =
    let s = hlds_of c.args.maker.now.program.now in
    let p = place_of c.args.place.now in
    over (λ e k. []) (on s c.args.depth p) (excps p.callers) (told_of c.in_ok-told.told) (ap end_of c.in-Over.is)
    ∙ not_at s c.args.depth p (goal_of c.args.goal.now) (run_of c.args.run) (told_of c.in_ok-told.told) c.in_ok-told.ensures

pub quantified-trace-requires : goal.quantified-trace-requires
quantified-trace-requires t c = omega (arith, ap (λ (j : Job). length j.callers) c.doing.ensures)

pub quantified-returns-in-Answered : goal.quantified-returns-in-Answered
quantified-returns-in-Answered t c =
    let s = hlds_of c.args.maker.now.program.now in
    let p = place_of c.args.place.now in
    subst (λ (u : Told). IfOk c.trace.result (λ t. told_of t ≡ u))
    (goes_from s c.args.depth p (told_of c.in_ok-told.told) (job_of c.doing.result) c.doing.ensures
    ∙ (answered (λ e k. on s c.args.depth p k) (λ k. []) (excps p.callers) (told_of c.in_ok-told.told) (env_of c.in-Answered.field-0.now) (ap end_of c.in-Answered.is)
    ∙ some_at s c.args.depth p [] (goal_of c.args.goal.now) (run_of c.args.run) (told_of c.in_ok-told.told) c.in_ok-told.ensures))
    c.trace.ensures

pub quantified-returns-in-Missed : goal.quantified-returns-in-Missed
quantified-returns-in-Missed t c =
    let s = hlds_of c.args.maker.now.program.now in
    let p = place_of c.args.place.now in
    ap (λ e. record { run = run_of c.in_ok-told.told.run; end = e }) (ap end_of c.in-Missed.is)
    ∙ (missing (λ e k. on s c.args.depth p k) (λ k. []) (excps p.callers) (told_of c.in_ok-told.told) (ap end_of c.in-Missed.is)
    ∙ some_at s c.args.depth p [] (goal_of c.args.goal.now) (run_of c.args.run) (told_of c.in_ok-told.told) c.in_ok-told.ensures)

pub quantified-returns-in-Thrown : goal.quantified-returns-in-Thrown
quantified-returns-in-Thrown t c =
    let s = hlds_of c.args.maker.now.program.now in
    let p = place_of c.args.place.now in
    subst (λ (u : Told). IfOk c.leave.result (λ t. told_of t ≡ u))
    (threw (λ e k. on s c.args.depth p k) (λ k. []) (excps p.callers) (told_of c.in_ok-told.told) (ap end_of c.in-Thrown.is)
    ∙ some_at s c.args.depth p [] (goal_of c.args.goal.now) (run_of c.args.run) (told_of c.in_ok-told.told) c.in_ok-told.ensures)
    c.leave.ensures

pub quantified-returns-in-Over : goal.quantified-returns-in-Over
quantified-returns-in-Over t c =
    let s = hlds_of c.args.maker.now.program.now in
    let p = place_of c.args.place.now in
    over (λ e k. on s c.args.depth p k) (λ k. []) (excps p.callers) (told_of c.in_ok-told.told) (ap end_of c.in-Over.is)
    ∙ some_at s c.args.depth p [] (goal_of c.args.goal.now) (run_of c.args.run) (told_of c.in_ok-told.told) c.in_ok-told.ensures

pub tries-returns-in-Answered : goal.tries-returns-in-Answered
tries-returns-in-Answered t c =
    let s = hlds_of c.args.maker.now.program.now in
    let p = place_of c.args.place.now in
    let rest = numbereds_of (drop (c.loop-arm.arm-index + 1) c.args.arms.now) in
    hits (λ n. arms (deeper s c.args.depth) p.frame p.goals p.callers n rest) (told_of c.in_ok-told.told) (λ m. absurd (grind (arith, sym (ap end_of c.in-Answered.is) ∙ m)))
    ∙ sym (c.loop-arm.invariant
    ∙ tried_next s c.args.depth p (numbereds_of (drop c.loop-arm.arm-index c.args.arms.now)) (numbered_of c.arm-item.result) rest (numbereds_of c.in_ok-goals.goals.now) (job_of c.doing.result) (run_of c.loop-arm.run) (told_of c.in_ok-told.told)
    (numbereds_of-more c.args.arms.now c.loop-arm.arm-index c.arm-item.result (omega arith) c.arm-item.is) (ap numbereds_of c.in_ok-goals.ensures) c.doing.ensures c.in_ok-told.ensures)

pub tries-returns-in-Thrown : goal.tries-returns-in-Thrown
tries-returns-in-Thrown t c =
    let s = hlds_of c.args.maker.now.program.now in
    let p = place_of c.args.place.now in
    let rest = numbereds_of (drop (c.loop-arm.arm-index + 1) c.args.arms.now) in
    hits (λ n. arms (deeper s c.args.depth) p.frame p.goals p.callers n rest) (told_of c.in_ok-told.told) (λ m. absurd (grind (arith, sym (ap end_of c.in-Thrown.is) ∙ m)))
    ∙ sym (c.loop-arm.invariant
    ∙ tried_next s c.args.depth p (numbereds_of (drop c.loop-arm.arm-index c.args.arms.now)) (numbered_of c.arm-item.result) rest (numbereds_of c.in_ok-goals.goals.now) (job_of c.doing.result) (run_of c.loop-arm.run) (told_of c.in_ok-told.told)
    (numbereds_of-more c.args.arms.now c.loop-arm.arm-index c.arm-item.result (omega arith) c.arm-item.is) (ap numbereds_of c.in_ok-goals.ensures) c.doing.ensures c.in_ok-told.ensures)

pub tries-returns-in-Over : goal.tries-returns-in-Over
tries-returns-in-Over t c =
    let s = hlds_of c.args.maker.now.program.now in
    let p = place_of c.args.place.now in
    let rest = numbereds_of (drop (c.loop-arm.arm-index + 1) c.args.arms.now) in
    hits (λ n. arms (deeper s c.args.depth) p.frame p.goals p.callers n rest) (told_of c.in_ok-told.told) (λ m. absurd (grind (arith, sym (ap end_of c.in-Over.is) ∙ m)))
    ∙ sym (c.loop-arm.invariant
    ∙ tried_next s c.args.depth p (numbereds_of (drop c.loop-arm.arm-index c.args.arms.now)) (numbered_of c.arm-item.result) rest (numbereds_of c.in_ok-goals.goals.now) (job_of c.doing.result) (run_of c.loop-arm.run) (told_of c.in_ok-told.told)
    (numbereds_of-more c.args.arms.now c.loop-arm.arm-index c.arm-item.result (omega arith) c.arm-item.is) (ap numbereds_of c.in_ok-goals.ensures) c.doing.ensures c.in_ok-told.ensures)

pub with_all-returns : goal.with_all-returns
with_all-returns t c =
    subst (λ (u : Told). IfOk c.then_fail.result (λ t. told_of t ≡ u))
    (all_from (hlds_of c.args.maker.now.program.now) c.args.depth (frame_of c.args.callee.now) (job_of c.args.job.now) (run_of c.args.run) (frames_of c.in_ok-callers.callers.now) (told_of c.in_ok-told.told) c.requires (ap frames_of c.in_ok-callers.ensures) c.in_ok-told.ensures)
    c.then_fail.ensures

pub with_first-trace-requires : goal.with_first-trace-requires
with_first-trace-requires t c = omega (arith, ap (λ (j : Job). length j.callers) c.cut_off.ensures)

pub with_first-trace-requires-in-Answered : goal.with_first-trace-requires-in-Answered
with_first-trace-requires-in-Answered t c = omega (arith, ap (λ (j : Job). length j.callers) c.in_ok-caller-in-Answered.ensures)

pub with_first-returns-in_ok-caller-in-Answered : goal.with_first-returns-in_ok-caller-in-Answered
with_first-returns-in_ok-caller-in-Answered t c =
    subst (λ (u : Told). IfOk c.trace-in-Answered.result (λ t. told_of t ≡ u))
    (comes_from (hlds_of c.args.maker.now.program.now) c.args.depth (frame_of c.args.callee.now) (job_of c.args.job.now) (run_of c.args.run) (told_of c.in_ok-told.told) (env_of c.in-Answered.env.now) (job_of c.in_ok-caller-in-Answered.caller) (run_of c.in_ok-exited-in-Answered.exited)
    c.requires (c.in_ok-told.ensures ∙ ap (λ (i : Job). traces (hlds_of c.args.maker.now.program.now) c.args.depth i (run_of c.args.run)) c.cut_off.ensures) (ap end_of c.in-Answered.is) c.in_ok-exited-in-Answered.ensures c.in_ok-caller-in-Answered.ensures)
    c.trace-in-Answered.ensures

pub with_first-returns-in_ok-failed-in-Missed : goal.with_first-returns-in_ok-failed-in-Missed
with_first-returns-in_ok-failed-in-Missed t c =
    c.ended.ensures
    ∙ fails_from (hlds_of c.args.maker.now.program.now) c.args.depth (frame_of c.args.callee.now) (job_of c.args.job.now) (run_of c.args.run) (told_of c.in_ok-told.told) (run_of c.in_ok-failed-in-Missed.failed) c.requires (c.in_ok-told.ensures ∙ ap (λ (i : Job). traces (hlds_of c.args.maker.now.program.now) c.args.depth i (run_of c.args.run)) c.cut_off.ensures) (ap end_of c.in-Missed.is) c.in_ok-failed-in-Missed.ensures

pub with_first-returns-in_ok-left-in-Thrown : goal.with_first-returns-in_ok-left-in-Thrown
with_first-returns-in_ok-left-in-Thrown t c =
    subst (λ (u : Told). IfOk c.leave.result (λ t. told_of t ≡ u))
    (leaves_from (hlds_of c.args.maker.now.program.now) c.args.depth (frame_of c.args.callee.now) (job_of c.args.job.now) (run_of c.args.run) (told_of c.in_ok-told.told) (run_of c.in_ok-left-in-Thrown.left) c.requires (c.in_ok-told.ensures ∙ ap (λ (i : Job). traces (hlds_of c.args.maker.now.program.now) c.args.depth i (run_of c.args.run)) c.cut_off.ensures) (ap end_of c.in-Thrown.is) c.in_ok-left-in-Thrown.ensures)
    c.leave.ensures

pub with_first-returns-in-Over : goal.with_first-returns-in-Over
with_first-returns-in-Over t c =
    over_from (hlds_of c.args.maker.now.program.now) c.args.depth (frame_of c.args.callee.now) (job_of c.args.job.now) (run_of c.args.run) (told_of c.in_ok-told.told) c.requires (c.in_ok-told.ensures ∙ ap (λ (i : Job). traces (hlds_of c.args.maker.now.program.now) c.args.depth i (run_of c.args.run)) c.cut_off.ensures) (ap end_of c.in-Over.is)

pub returns-trace-requires : goal.returns-trace-requires
returns-trace-requires t c = omega (arith, ap (λ (j : Job). length j.callers) c.in_ok-resumed-in-Some.ensures, ap length (is_innermost (frames_of c.args.job.now.callers.now) (job_of c.in-Some.caller) (sym (ap option_job c.in-Some.is) ∙ c.innermost.ensures)))

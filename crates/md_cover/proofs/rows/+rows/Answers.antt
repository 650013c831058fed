use Rattle.std.proofs.Common.{refl, rules, ◌≡◌, ◌∙◌, ◌+◌, ◌++◌, sym, ap, subst, arith, List, drop, length, OnOk}
use Rattle.std.proofs.lemmas.Grind.{common_steps}
use Rattle.md_hlds.specs.declared.goal.GoalKind.{the_lemmas}
use Rattle.md_hlds.specs.HldsGoal.{GoalExpr, goal_of, goals_of, gathered, goals_size, parts_size}
use Rattle.md_cover.specs.declared.coverage.GoalCount.{GoalCount}
use Rattle.md_cover.specs.Rows.{expr_rows}
use Rattle.md_cover.proofs.BuildingLemmas.{conj-is, disj-is, if-is, parts-step}
use Rattle.md_cover.proofs.RowLemmas.{each-step, rows-long, if-rows}
use Rattle.md_cover.proofs.rows.+rows.Goals as goal

pub add_each-loop-goal-preserved : goal.add_each-loop-goal-preserved
add_each-loop-goal-preserved t c =
    let i = c.loop-goal.goal-index in
    let gs = c.args.goals.now in
    let ps = gathered (goals_of (drop i gs)) in
    let rest = gathered (goals_of (drop (i + 1) gs)) in
    let p = goal_of c.goal-item.result in
    let step = parts-step gs i c.goal-item.result (omega arith) c.goal-item.is in
    let size = ap goals_size step in
    let long = rows-long c.loop-goal.rows.items c.add_rows.new.rows.items c.args.depth p c.in_ok-add_rows.ensures in
    let inv = c.loop-goal.invariant in (
      each-step c.loop-goal.rows.items c.add_rows.new.rows.items c.args.depth ps rest p step c.in_ok-add_rows.ensures ∙ inv.0,
      omega (arith, inv.1, long, size),
      omega (arith, inv.2, size),
    )

pub add_inner-returns-in-Conj : goal.add_inner-returns-in-Conj
add_inner-returns-in-Conj t c =
    subst (λ (x : GoalExpr). OnOk c.add_each.result (c.add_each.new.rows.items ≡ c.args.rows.now.items ++ expr_rows (length c.args.rows.now.items) c.args.depth x))
    (sym (conj-is c.args.kind.now c.in-Conj.goals c.as_slice.result.now c.in-Conj.is c.as_slice.ensures.value)) c.add_each.ensures

pub add_inner-returns-in-Disj : goal.add_inner-returns-in-Disj
add_inner-returns-in-Disj t c =
    subst (λ (x : GoalExpr). OnOk c.add_each-in-Disj.result (c.add_each-in-Disj.new.rows.items ≡ c.args.rows.now.items ++ expr_rows (length c.args.rows.now.items) c.args.depth x))
    (sym (disj-is c.args.kind.now c.in-Disj.arms c.as_slice-in-Disj.result.now c.in-Disj.is c.as_slice-in-Disj.ensures.value)) c.add_each-in-Disj.ensures

pub add_inner-returns-in_ok-add_rows-in-If-2 : goal.add_inner-returns-in_ok-add_rows-in-If-2
add_inner-returns-in_ok-add_rows-in-If-2 t c =
    subst (λ (xs : List GoalCount). OnOk c.add_rows-in-If-2.result (c.add_rows-in-If-2.new.rows.items ≡ xs))
    (if-rows c.args.rows.now.items c.add_rows.new.rows.items c.add_rows-in-If.new.rows.items c.args.depth (goal_of c.deref.result.now) (goal_of c.deref-in-If.result.now) (goal_of c.deref-in-If-2.result.now)
    c.in_ok-add_rows-in-If.ensures c.in_ok-add_rows-in-If-2.ensures
    ∙ ap (λ (x : GoalExpr). c.args.rows.now.items ++ expr_rows (length c.args.rows.now.items) c.args.depth x)
    (sym (if-is c.args.kind.now c.in-If.condition c.in-If.then c.in-If.otherwise c.deref.result.now c.deref-in-If.result.now c.deref-in-If-2.result.now c.in-If.is c.deref.ensures c.deref-in-If.ensures c.deref-in-If-2.ensures)))
    c.add_rows-in-If-2.ensures

pub add_each-returns : goal.add_each-returns
add_each-returns t c = grind (arith, common_steps)

pub add_inner-returns-in-Not : goal.add_inner-returns-in-Not
add_inner-returns-in-Not t c = grind (arith, common_steps)

pub add_inner-returns-in-Some : goal.add_inner-returns-in-Some
add_inner-returns-in-Some t c = grind (arith, common_steps)

pub add_inner-returns-in-True : goal.add_inner-returns-in-True
add_inner-returns-in-True t c = grind (arith, common_steps)

pub add_inner-returns-in-True-2 : goal.add_inner-returns-in-True-2
add_inner-returns-in-True-2 t c = grind (arith, common_steps)

pub add_inner-returns-in-True-3 : goal.add_inner-returns-in-True-3
add_inner-returns-in-True-3 t c = grind (arith, common_steps)

pub add_inner-returns-in-True-4 : goal.add_inner-returns-in-True-4
add_inner-returns-in-True-4 t c = grind (arith, common_steps)

pub add_inner-returns-in-True-5 : goal.add_inner-returns-in-True-5
add_inner-returns-in-True-5 t c = grind (arith, common_steps)

pub add_inner-returns-in-True-6 : goal.add_inner-returns-in-True-6
add_inner-returns-in-True-6 t c = grind (arith, common_steps)

pub add_inner-returns-in-True-7 : goal.add_inner-returns-in-True-7
add_inner-returns-in-True-7 t c = grind (arith, common_steps)

pub add_inner-returns-in-True-8 : goal.add_inner-returns-in-True-8
add_inner-returns-in-True-8 t c = grind (arith, common_steps)

pub add_inner-returns-in-True-9 : goal.add_inner-returns-in-True-9
add_inner-returns-in-True-9 t c = grind (arith, common_steps)

pub add_rows-returns : goal.add_rows-returns
add_rows-returns t c = grind (arith, common_steps)

pub add_inner-add_each-requires : goal.add_inner-add_each-requires
add_inner-add_each-requires t c =
    let size = ap parts_size (conj-is c.args.kind.now c.in-Conj.goals c.as_slice.result.now c.in-Conj.is c.as_slice.ensures.value) in
    (search (rules, the_lemmas), (omega (arith, size, c.requires.few), omega (arith, size, c.requires.deep)))

pub add_inner-add_each-requires-in-Disj : goal.add_inner-add_each-requires-in-Disj
add_inner-add_each-requires-in-Disj t c =
    let size = ap parts_size (disj-is c.args.kind.now c.in-Disj.arms c.as_slice-in-Disj.result.now c.in-Disj.is c.as_slice-in-Disj.ensures.value) in
    (search (rules, the_lemmas), (omega (arith, size, c.requires.few), omega (arith, size, c.requires.deep)))

pub add_inner-add_rows-requires-in-If : goal.add_inner-add_rows-requires-in-If
add_inner-add_rows-requires-in-If t c =
    let size = ap parts_size (if-is c.args.kind.now c.in-If.condition c.in-If.then c.in-If.otherwise c.deref.result.now c.deref-in-If.result.now c.in-If.otherwise.value c.in-If.is c.deref.ensures c.deref-in-If.ensures refl) in
    let long = rows-long c.args.rows.now.items c.add_rows.new.rows.items c.args.depth (goal_of c.deref.result.now) c.in_ok-add_rows-in-If.ensures in
    (search (rules, the_lemmas), (omega (arith, size, long, c.requires.few), omega (arith, size, c.requires.deep)))

pub add_inner-add_rows-requires-in-If-2 : goal.add_inner-add_rows-requires-in-If-2
add_inner-add_rows-requires-in-If-2 t c =
    let size = ap parts_size (if-is c.args.kind.now c.in-If.condition c.in-If.then c.in-If.otherwise c.deref.result.now c.deref-in-If.result.now c.deref-in-If-2.result.now c.in-If.is c.deref.ensures c.deref-in-If.ensures c.deref-in-If-2.ensures) in
    let long = rows-long c.args.rows.now.items c.add_rows.new.rows.items c.args.depth (goal_of c.deref.result.now) c.in_ok-add_rows-in-If.ensures in
    let longer = rows-long c.add_rows.new.rows.items c.add_rows-in-If.new.rows.items c.args.depth (goal_of c.deref-in-If.result.now) c.in_ok-add_rows-in-If-2.ensures in
    (search (rules, the_lemmas), (omega (arith, size, long, longer, c.requires.few), omega (arith, size, c.requires.deep)))

use Rattle.std.proofs.Common.{arith, rules, refl, ◌≡◌, ◌<◌, ◌∙◌, ◌+◌, ◌++◌, ap, sym, subst, List, ℕ, drop, IfOk, OnOk}
use Rattle.std.proofs.lemmas.Grind.{common_steps}
use Rattle.md_hlds.specs.declared.goal.Goal.{Goal}
use Rattle.md_hlds.specs.declared.goal.GoalKind.{the_lemmas}
use Rattle.md_hlds.specs.HldsGoal.{also, goals_of, gathered, numbered_from, goals_size, goal_size, parts_size, goal_of, goals_among}
use Rattle.md_hlds.specs.Hlds.{hlds_of}
use Rattle.md_feedback.specs.declared.pairs.Pair.{Pair}
use Rattle.md_feedback.specs.Search.{StandsFrom, reading_in, costly_call, binds_in, led_by, each_pairs, arm_pairs}
use Rattle.md_feedback.proofs.Parts.{parts-step, behind, size-step, each-step, arm-step, size-Conj, size-Disj, pairs-Conj, pairs-Disj}
use Rattle.md_feedback.proofs.Standing.{stands-parts, stands-apart, stands-below, stands-Conj, stands-Disj, is-If, is-Not, is-Some}
use Rattle.md_feedback.proofs.search.+search.Goals as goal

pub add_goal-returns-in-Conj-clause-next : goal.add_goal-returns-in-Conj-clause-next
add_goal-returns-in-Conj-clause-next t c =
    let items : goals_size (gathered (goals_of c.as_slice.result.now)) ≡ goals_size (gathered (goals_of c.in-Conj.goals.items)) = ap (λ (gs : List Goal). goals_size (gathered (goals_of gs))) c.as_slice.ensures.value in
    let e : c.args.number + 1 + goals_size (gathered (goals_of c.as_slice.result.now)) ≡ c.args.number + goal_size (goal_of c.args.goal.now)
    = omega (arith, items, size-Conj c.args.goal.now c.in-Conj.goals c.in-Conj.is) in
    subst (λ (n : ℕ). IfOk c.add_conjunction.result (λ next. next ≡ n)) e c.add_conjunction.ensures.next

pub add_goal-returns-in-Conj-clause-pairs : goal.add_goal-returns-in-Conj-clause-pairs
add_goal-returns-in-Conj-clause-pairs t c =
    let r = reading_in c.args.search.now in
    subst (λ (ps : List Pair). OnOk c.add_conjunction.result (c.add_conjunction.new.pairs ≡ c.args.pairs.now ++ ps))
    (ap (λ (gs : List Goal). each_pairs r (c.args.number + 1) (gathered (goals_of gs))) c.as_slice.ensures.value
    ∙ sym (pairs-Conj r (c.args.number + 1) c.args.goal.now.kind c.in-Conj.goals c.in-Conj.is))
    c.add_conjunction.ensures.pairs

pub add_goal-returns-in-Disj-clause-next : goal.add_goal-returns-in-Disj-clause-next
add_goal-returns-in-Disj-clause-next t c =
    let items : goals_size (gathered (goals_of c.as_slice-in-Disj.result.now)) ≡ goals_size (gathered (goals_of c.in-Disj.arms.items)) = ap (λ (gs : List Goal). goals_size (gathered (goals_of gs))) c.as_slice-in-Disj.ensures.value in
    let e : c.args.number + 1 + goals_size (gathered (goals_of c.as_slice-in-Disj.result.now)) ≡ c.args.number + goal_size (goal_of c.args.goal.now)
    = omega (arith, items, size-Disj c.args.goal.now c.in-Disj.arms c.in-Disj.is) in
    subst (λ (n : ℕ). IfOk c.add_arms.result (λ next. next ≡ n)) e c.add_arms.ensures.next

pub add_goal-returns-in-Disj-clause-pairs : goal.add_goal-returns-in-Disj-clause-pairs
add_goal-returns-in-Disj-clause-pairs t c =
    let r = reading_in c.args.search.now in
    subst (λ (ps : List Pair). OnOk c.add_arms.result (c.add_arms.new.pairs ≡ c.args.pairs.now ++ ps))
    (ap (λ (gs : List Goal). arm_pairs r (c.args.number + 1) (gathered (goals_of gs))) c.as_slice-in-Disj.ensures.value
    ∙ sym (pairs-Disj r (c.args.number + 1) c.args.goal.now.kind c.in-Disj.arms c.in-Disj.is))
    c.add_arms.ensures.pairs

pub add_conjunction-loop-place-preserved : goal.add_conjunction-loop-place-preserved
add_conjunction-loop-place-preserved t c =
    let i = c.loop-place.place in
    let gs = c.args.goals.now in
    let ps = gathered (goals_of (drop i gs)) in
    let rest = gathered (goals_of (drop (i + 1) gs)) in
    let p = goal_of c.index-goals-place.result in
    let step : ps ≡ also p rest = ap gathered (parts-step gs i c.index-goals-place.result c.loop-place-test.true c.index-goals-place.is) in
    let at = c.in_ok-next.ensures.next in
    let inv = c.loop-place.invariant in
    let parts = stands-parts (hlds_of c.args.search.now.moded.now) c.loop-place.number c.in_ok-next.next ps rest p step at inv.1 in (
      size-step ps rest p c.loop-place.number c.in_ok-next.next step at ∙ inv.0,
      parts.1,
      each-step (reading_in c.args.search.now) c.loop-place.number c.in_ok-next.next ps rest p (c.args.pairs.now ++ each_pairs (reading_in c.args.search.now) c.args.first (gathered (goals_of gs)))
          c.loop-place.pairs c.add_goal.new.pairs c.add_led_by.new.pairs step at c.in_ok-next.ensures.pairs
          (c.in_ok-add_led_by.ensures ∙ ap (λ (hs : List Goal). c.add_goal.new.pairs ++ led_by (reading_in c.args.search.now) (costly_call (reading_in c.args.search.now) c.loop-place.number p) (binds_in (reading_in c.args.search.now) c.loop-place.number) (numbered_from c.in_ok-next.next (gathered (goals_of hs)))) (behind gs (i + 1)))
          inv.2,
    )

pub add_arms-loop-arm-preserved : goal.add_arms-loop-arm-preserved
add_arms-loop-arm-preserved t c =
    let i = c.loop-arm.arm-index in
    let gs = c.args.arms.now in
    let ps = gathered (goals_of (drop i gs)) in
    let rest = gathered (goals_of (drop (i + 1) gs)) in
    let p = goal_of c.arm-item.result in
    let step : ps ≡ also p rest = ap gathered (parts-step gs i c.arm-item.result c.loop-arm-test.true c.arm-item.is) in
    let at = c.in_ok-number.ensures.next in
    let inv = c.loop-arm.invariant in
    let parts = stands-parts (hlds_of c.args.search.now.moded.now) c.loop-arm.number c.in_ok-number.number ps rest p step at inv.1 in (
      size-step ps rest p c.loop-arm.number c.in_ok-number.number step at ∙ inv.0,
      parts.1,
      arm-step (reading_in c.args.search.now) c.loop-arm.number c.in_ok-number.number ps rest p (c.args.pairs.now ++ arm_pairs (reading_in c.args.search.now) c.args.first (gathered (goals_of gs)))
          c.loop-arm.pairs c.add_goal.new.pairs step at c.in_ok-number.ensures.pairs inv.2,
    )

pub add_goal-returns-in-True-2-clause-next : goal.add_goal-returns-in-True-2-clause-next
add_goal-returns-in-True-2-clause-next t c = grind (arith, common_steps)

pub add_goal-returns-in-True-2-clause-pairs : goal.add_goal-returns-in-True-2-clause-pairs
add_goal-returns-in-True-2-clause-pairs t c = grind (arith, common_steps)

pub add_goal-returns-in-True-9-clause-next : goal.add_goal-returns-in-True-9-clause-next
add_goal-returns-in-True-9-clause-next t c = grind (arith, common_steps)

pub add_goal-returns-in-True-9-clause-pairs : goal.add_goal-returns-in-True-9-clause-pairs
add_goal-returns-in-True-9-clause-pairs t c = grind (arith, common_steps)

pub add_goal-returns-in-Some-clause-next : goal.add_goal-returns-in-Some-clause-next
add_goal-returns-in-Some-clause-next t c = grind (arith, common_steps)

pub add_goal-returns-in-Some-clause-pairs : goal.add_goal-returns-in-Some-clause-pairs
add_goal-returns-in-Some-clause-pairs t c = grind (arith, common_steps)

pub add_arms-returns-clause-next : goal.add_arms-returns-clause-next
add_arms-returns-clause-next t c = grind (arith, common_steps)

pub add_arms-returns-clause-pairs : goal.add_arms-returns-clause-pairs
add_arms-returns-clause-pairs t c = grind (arith, common_steps)

pub add_goal-returns-in-True-11-clause-next : goal.add_goal-returns-in-True-11-clause-next
add_goal-returns-in-True-11-clause-next t c = grind (arith, common_steps)

pub add_goal-returns-in-True-11-clause-pairs : goal.add_goal-returns-in-True-11-clause-pairs
add_goal-returns-in-True-11-clause-pairs t c = grind (arith, common_steps)

pub add_goal-returns-in-True-4-clause-next : goal.add_goal-returns-in-True-4-clause-next
add_goal-returns-in-True-4-clause-next t c = grind (arith, common_steps)

pub add_goal-returns-in-True-4-clause-pairs : goal.add_goal-returns-in-True-4-clause-pairs
add_goal-returns-in-True-4-clause-pairs t c = grind (arith, common_steps)

pub add_goal-returns-in-True-clause-next : goal.add_goal-returns-in-True-clause-next
add_goal-returns-in-True-clause-next t c = grind (arith, common_steps)

pub add_goal-returns-in-True-clause-pairs : goal.add_goal-returns-in-True-clause-pairs
add_goal-returns-in-True-clause-pairs t c = grind (arith, common_steps)

pub add_goal-returns-in-True-5-clause-next : goal.add_goal-returns-in-True-5-clause-next
add_goal-returns-in-True-5-clause-next t c = grind (arith, common_steps)

pub add_goal-returns-in-True-5-clause-pairs : goal.add_goal-returns-in-True-5-clause-pairs
add_goal-returns-in-True-5-clause-pairs t c = grind (arith, common_steps)

pub add_goal-returns-in-True-10-clause-next : goal.add_goal-returns-in-True-10-clause-next
add_goal-returns-in-True-10-clause-next t c = grind (arith, common_steps)

pub add_goal-returns-in-True-10-clause-pairs : goal.add_goal-returns-in-True-10-clause-pairs
add_goal-returns-in-True-10-clause-pairs t c = grind (arith, common_steps)

pub add_goal-returns-in-True-7-clause-next : goal.add_goal-returns-in-True-7-clause-next
add_goal-returns-in-True-7-clause-next t c = grind (arith, common_steps)

pub add_goal-returns-in-True-7-clause-pairs : goal.add_goal-returns-in-True-7-clause-pairs
add_goal-returns-in-True-7-clause-pairs t c = grind (arith, common_steps)

pub add_goal-returns-in-True-6-clause-next : goal.add_goal-returns-in-True-6-clause-next
add_goal-returns-in-True-6-clause-next t c = grind (arith, common_steps)

pub add_goal-returns-in-True-6-clause-pairs : goal.add_goal-returns-in-True-6-clause-pairs
add_goal-returns-in-True-6-clause-pairs t c = grind (arith, common_steps)

pub add_goal-returns-in_ok-third-in-If-clause-next : goal.add_goal-returns-in_ok-third-in-If-clause-next
add_goal-returns-in_ok-third-in-If-clause-next t c = grind (arith, common_steps)

pub add_goal-returns-in_ok-third-in-If-clause-pairs : goal.add_goal-returns-in_ok-third-in-If-clause-pairs
add_goal-returns-in_ok-third-in-If-clause-pairs t c = grind (arith, common_steps)

pub add_conjunction-offset_bounds-goals-place-in-loop-place : goal.add_conjunction-offset_bounds-goals-place-in-loop-place
add_conjunction-offset_bounds-goals-place-in-loop-place t c = grind (arith, common_steps)

pub add_goal-returns-in-True-3-clause-next : goal.add_goal-returns-in-True-3-clause-next
add_goal-returns-in-True-3-clause-next t c = grind (arith, common_steps)

pub add_goal-returns-in-True-3-clause-pairs : goal.add_goal-returns-in-True-3-clause-pairs
add_goal-returns-in-True-3-clause-pairs t c = grind (arith, common_steps)

pub add_goal-returns-in-True-8-clause-next : goal.add_goal-returns-in-True-8-clause-next
add_goal-returns-in-True-8-clause-next t c = grind (arith, common_steps)

pub add_goal-returns-in-True-8-clause-pairs : goal.add_goal-returns-in-True-8-clause-pairs
add_goal-returns-in-True-8-clause-pairs t c = grind (arith, common_steps)

pub add_conjunction-returns-clause-next : goal.add_conjunction-returns-clause-next
add_conjunction-returns-clause-next t c = grind (arith, common_steps)

pub add_conjunction-returns-clause-pairs : goal.add_conjunction-returns-clause-pairs
add_conjunction-returns-clause-pairs t c = grind (arith, common_steps)

pub add_goal-returns-in-Not-clause-next : goal.add_goal-returns-in-Not-clause-next
add_goal-returns-in-Not-clause-next t c = grind (arith, common_steps)

pub add_goal-returns-in-Not-clause-pairs : goal.add_goal-returns-in-Not-clause-pairs
add_goal-returns-in-Not-clause-pairs t c = grind (arith, common_steps)

pub add_goal-add_conjunction-requires : goal.add_goal-add_conjunction-requires
add_goal-add_conjunction-requires t c =
    let s = hlds_of c.args.search.now.moded.now in
    let items : goals_size (gathered (goals_of c.as_slice.result.now)) ≡ goals_size (gathered (goals_of c.in-Conj.goals.items)) = ap (λ (gs : List Goal). goals_size (gathered (goals_of gs))) c.as_slice.ensures.value in
    let few : c.args.number + 1 + goals_size (gathered (goals_of c.as_slice.result.now)) < 4294967295 = omega (arith, items, size-Conj c.args.goal.now c.in-Conj.goals c.in-Conj.is, c.requires.few) in
    (search (rules, the_lemmas), (few, stands-Conj s c.args.number c.args.goal.now c.in-Conj.goals c.as_slice.result.now c.in-Conj.is c.as_slice.ensures.value c.requires.stands))

pub add_goal-add_arms-requires : goal.add_goal-add_arms-requires
add_goal-add_arms-requires t c =
    let s = hlds_of c.args.search.now.moded.now in
    let items : goals_size (gathered (goals_of c.as_slice-in-Disj.result.now)) ≡ goals_size (gathered (goals_of c.in-Disj.arms.items)) = ap (λ (gs : List Goal). goals_size (gathered (goals_of gs))) c.as_slice-in-Disj.ensures.value in
    let few : c.args.number + 1 + goals_size (gathered (goals_of c.as_slice-in-Disj.result.now)) < 4294967295 = omega (arith, items, size-Disj c.args.goal.now c.in-Disj.arms c.in-Disj.is, c.requires.few) in
    (search (rules, the_lemmas), (few, stands-Disj s c.args.number c.args.goal.now c.in-Disj.arms c.as_slice-in-Disj.result.now c.in-Disj.is c.as_slice-in-Disj.ensures.value c.requires.stands))

pub add_goal-add_goal-requires : goal.add_goal-add_goal-requires
add_goal-add_goal-requires t c =
    let s = hlds_of c.args.search.now.moded.now in
    let x = goal_of c.deref.result.now in
    let n = c.args.number + 1 in
    let is = is-If c.args.goal.now.kind c.in-If.condition c.in-If.then c.in-If.otherwise c.deref.result.now c.in-If.then.value c.in-If.otherwise.value c.in-If.is c.deref.ensures refl refl in
    let size = ap parts_size is in
    (search (rules, the_lemmas), (omega (arith, size, c.requires.few), (stands-apart s n (n + goal_size x) x _ refl (stands-below s c.args.number c.args.goal.now.line _ _ is c.requires.stands)).0))

pub add_goal-add_goal-requires-in-If : goal.add_goal-add_goal-requires-in-If
add_goal-add_goal-requires-in-If t c =
    let s = hlds_of c.args.search.now.moded.now in
    let x = goal_of c.deref.result.now in
    let y = goal_of c.deref-in-If.result.now in
    let n = c.args.number + 1 in
    let m = c.in_ok-second-in-If.second in
    let is = is-If c.args.goal.now.kind c.in-If.condition c.in-If.then c.in-If.otherwise c.deref.result.now c.deref-in-If.result.now c.in-If.otherwise.value c.in-If.is c.deref.ensures c.deref-in-If.ensures refl in
    let size = ap parts_size is in
    let behind = (stands-apart s n m x _ c.in_ok-second-in-If.ensures.next (stands-below s c.args.number c.args.goal.now.line _ _ is c.requires.stands)).1 in
    (search (rules, the_lemmas), (omega (arith, size, c.in_ok-second-in-If.ensures.next, c.requires.few), (stands-apart s m (m + goal_size y) y _ refl behind).0))

pub add_goal-add_goal-requires-in-If-2 : goal.add_goal-add_goal-requires-in-If-2
add_goal-add_goal-requires-in-If-2 t c =
    let s = hlds_of c.args.search.now.moded.now in
    let x = goal_of c.deref.result.now in
    let y = goal_of c.deref-in-If.result.now in
    let n = c.args.number + 1 in
    let m = c.in_ok-second-in-If.second in
    let is = is-If c.args.goal.now.kind c.in-If.condition c.in-If.then c.in-If.otherwise c.deref.result.now c.deref-in-If.result.now c.deref-in-If-2.result.now c.in-If.is c.deref.ensures c.deref-in-If.ensures c.deref-in-If-2.ensures in
    let size = ap parts_size is in
    let behind = (stands-apart s n m x _ c.in_ok-second-in-If.ensures.next (stands-below s c.args.number c.args.goal.now.line _ _ is c.requires.stands)).1 in
    let few : c.in_ok-third-in-If.third + goal_size (goal_of c.deref-in-If-2.result.now) < 4294967295 = omega (arith, size, c.in_ok-second-in-If.ensures.next, c.in_ok-third-in-If.ensures.next, c.requires.few) in
    (search (rules, the_lemmas), (few, (stands-apart s m c.in_ok-third-in-If.third y _ c.in_ok-third-in-If.ensures.next behind).1))

pub add_goal-add_goal-requires-in-Not : goal.add_goal-add_goal-requires-in-Not
add_goal-add_goal-requires-in-Not t c =
    let s = hlds_of c.args.search.now.moded.now in
    let is = is-Not c.args.goal.now.kind c.in-Not.part c.deref-in-Not.result.now c.in-Not.is c.deref-in-Not.ensures in
    let size = ap parts_size is in
    (search (rules, the_lemmas), (omega (arith, size, c.requires.few), stands-below s c.args.number c.args.goal.now.line _ _ is c.requires.stands))

pub add_goal-add_goal-requires-in-Some : goal.add_goal-add_goal-requires-in-Some
add_goal-add_goal-requires-in-Some t c =
    let s = hlds_of c.args.search.now.moded.now in
    let is = is-Some c.args.goal.now.kind c.in-Some.field-0 c.in-Some.part c.deref-in-Some.result.now c.in-Some.is c.deref-in-Some.ensures in
    let size = ap parts_size is in
    (search (rules, the_lemmas), (omega (arith, size, c.requires.few), stands-below s c.args.number c.args.goal.now.line _ _ is c.requires.stands))

pub add_conjunction-add_goal-requires : goal.add_conjunction-add_goal-requires
add_conjunction-add_goal-requires t c =
    let s = hlds_of c.args.search.now.moded.now in
    let i = c.loop-place.place in
    let gs = c.args.goals.now in
    let rest = gathered (goals_of (drop (i + 1) gs)) in
    let p = goal_of c.index-goals-place.result in
    let step : gathered (goals_of (drop i gs)) ≡ also p rest = ap gathered (parts-step gs i c.index-goals-place.result c.loop-place-test.true c.index-goals-place.is) in
    let size = ap goals_size step in
    let n = c.loop-place.number in
    (search (rules, the_lemmas), (omega (arith, size, c.loop-place.invariant.0, c.requires.few), (stands-parts s n (n + goal_size p) _ rest p step refl c.loop-place.invariant.1).0))

pub add_conjunction-add_led_by-requires-clause-stands : goal.add_conjunction-add_led_by-requires-clause-stands
add_conjunction-add_led_by-requires-clause-stands t c =
    let s = hlds_of c.args.search.now.moded.now in
    let i = c.loop-place.place in
    let gs = c.args.goals.now in
    let rest = gathered (goals_of (drop (i + 1) gs)) in
    let p = goal_of c.index-goals-place.result in
    let step : gathered (goals_of (drop i gs)) ≡ also p rest = ap gathered (parts-step gs i c.index-goals-place.result c.loop-place-test.true c.index-goals-place.is) in
    subst (λ (hs : List Goal). StandsFrom s c.in_ok-next.next (goals_among (gathered (goals_of hs)))) (sym (behind gs (i + 1)))
    (stands-parts s c.loop-place.number c.in_ok-next.next _ rest p step c.in_ok-next.ensures.next c.loop-place.invariant.1).1

pub add_arms-add_goal-requires : goal.add_arms-add_goal-requires
add_arms-add_goal-requires t c =
    let s = hlds_of c.args.search.now.moded.now in
    let i = c.loop-arm.arm-index in
    let gs = c.args.arms.now in
    let rest = gathered (goals_of (drop (i + 1) gs)) in
    let p = goal_of c.arm-item.result in
    let step : gathered (goals_of (drop i gs)) ≡ also p rest = ap gathered (parts-step gs i c.arm-item.result c.loop-arm-test.true c.arm-item.is) in
    let size = ap goals_size step in
    let n = c.loop-arm.number in
    (search (rules, the_lemmas), (omega (arith, size, c.loop-arm.invariant.0, c.requires.few), (stands-parts s n (n + goal_size p) _ rest p step refl c.loop-arm.invariant.1).0))

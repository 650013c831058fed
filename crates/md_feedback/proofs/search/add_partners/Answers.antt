use Rattle.std.proofs.Common.{◌≡◌, ◌∙◌, ◌+◌, ap, drop, arith, refl, subst, List, ℕ, Bool}
use Rattle.std.proofs.lemmas.Grind.{common_steps}
use Rattle.md_hlds.specs.Hlds.{hlds_of}
use Rattle.md_hlds.specs.HldsGoal.{also, gathered, goal_of, goals_of, goal_size, goals_size}
use Rattle.md_feedback.specs.Search.{reading_in, binds_in, Marks}
use Rattle.md_feedback.proofs.Parts.{parts-step, size-step, marked_at_first, partners_go_on}
use Rattle.md_feedback.proofs.Standing.{stands-parts, size-there}
use Rattle.md_feedback.proofs.search.add_partners.Goals as goal

pub loop-goal-init : goal.loop-goal-init
loop-goal-init c =
    let binds = binds_in (reading_in c.args.search.now) c.args.number in
    let marks : Marks c.new-bound.result.items c.mark.new.marks.items binds = subst (λ (xs : List ℕ). Marks c.new-bound.result.items c.mark.new.marks.items xs) c.binds.ensures c.in_ok-mark.ensures in (
      refl,
      c.requires.stands,
      (binds, marked_at_first c.mark.new.marks.items binds (subst (λ (ms : List Bool). Marks ms c.mark.new.marks.items binds) c.new-bound.ensures.items marks), refl),
    )

pub loop-goal-preserved : goal.loop-goal-preserved
loop-goal-preserved c =
    let r = reading_in c.args.search.now in
    let s = hlds_of c.args.search.now.moded.now in
    let i = c.loop-goal.goal-index in
    let gs = c.args.behind.now in
    let ps = gathered (goals_of (drop i gs)) in
    let rest = gathered (goals_of (drop (i + 1) gs)) in
    let p = goal_of c.goal-item.result in
    let place = c.loop-goal.place in
    let inv = c.loop-goal.invariant in
    let step : ps ≡ also p rest = ap gathered (parts-step gs i c.goal-item.result (omega arith) c.goal-item.is) in
    let size = size-there s place p (stands-parts s place (place + goal_size p) ps rest p step refl inv.1).0 in
    let at : c.after-place.result ≡ place + goal_size p = c.after-place.ensures.after ∙ ap (λ n. place + n) size in (
      size-step ps rest p place c.after-place.result step at ∙ inv.0,
      (stands-parts s place c.after-place.result ps rest p step at inv.1).1,
      partners_go_on r (c.args.first.0, c.args.first.1) gs i place c.after-place.result (goal_size p) c.goal-item.result
          c.loop-goal.bound.items c.add_partner.new.bound.items _ c.loop-goal.pairs c.add_partner.new.pairs (omega arith) c.goal-item.is refl at
          c.in_ok-add_partner.ensures inv.2,
    )

pub after-place-requires : goal.after-place-requires
after-place-requires c =
    let i = c.loop-goal.goal-index in
    let gs = c.args.behind.now in
    let step : gathered (goals_of (drop i gs)) ≡ also (goal_of c.goal-item.result) (gathered (goals_of (drop (i + 1) gs))) = ap gathered (parts-step gs i c.goal-item.result (omega arith) c.goal-item.is) in
    let size = ap goals_size step in
    omega (arith, c.loop-goal.invariant.0, size, c.requires.few)

pub returns : goal.returns
returns c = grind (arith, common_steps)

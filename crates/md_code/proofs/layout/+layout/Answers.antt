use Rattle.std.proofs.Common.{◌≡◌, ◌∙◌, ◌+◌, sym, subst, arith, Some}
use Rattle.md_hlds.specs.Hlds.{hlds_of, goal_at}
use Rattle.md_hlds.specs.HldsGoal.{expr_of, goal_of, goals_of, gathered, goal_size}
use Rattle.md_det.specs.Findings.{program_findings, switch_at}
use Rattle.md_code.specs.Leaves.{leaves_table}
use Rattle.md_code.specs.Tables.{heights_of}
use Rattle.md_code.specs.Blocks.{arm_place, conjunct_place, other_after, pending_after, pending_behind}
use Rattle.md_code.specs.Told.{place_told}
use Rattle.md_code.specs.Adds.{laid}
use Rattle.md_code.proofs.SurveyLemmas.{expr_of-If}
use Rattle.md_code.proofs.BlockLemmas.{expr-Conj, expr-Disj}
use Rattle.md_code.proofs.LayoutLemmas.{on-ok-map, goal-laid, parts-next, parts-end, arms-next, arms-end, entry, inner-Conj, inner-Disj, inner-If, inner-Not, inner-Some, expr-Not, expr-Some, what-is-left}
use Rattle.md_code.proofs.layout.+layout.Goals as goal

pub lay-returns : goal.lay-returns
lay-returns t c =
    on-ok-map c.lay_inner.result
    (λ made stand. goal-laid (hlds_of c.args.tables.now.source.checked.now) c.args.output.now (record { instructions = c.add_block.new.instructions; details = c.push.new.self }) c.lay_inner.new.output
    c.in_ok-number.number c.args.goal.now.line (expr_of c.args.goal.now.kind) (place_told c.args.at) c.in_ok-detail_of.field-0
    (omega (arith, c.in_ok-number.ensures, c.len.ensures, c.args.output.now.details.ok)) c.in_ok-add_block.ensures c.in_ok-push.ensures.items c.in_ok-detail_of.ensures made stand)
    c.lay_inner.ensures

pub lay_arms-loop-place-preserved : goal.lay_arms-loop-place-preserved
lay_arms-loop-place-preserved t c =
    let s = hlds_of c.args.tables.now.source.checked.now in
    let n = c.args.number in
    let at = place_told c.args.at in
    let w = switch_at (program_findings s) n in
    let mid = c.loop-place.output in
    let i = c.loop-place.place in
    let g = c.index-arms-place.result in
    let now = c.loop-place.entry in
    let part : c.in_ok-part.part ≡ laid mid = omega (arith, c.in_ok-part.ensures, c.len.ensures, c.loop-place.output.details.ok) in
    arms-next s n at (place_told c.in_ok-standing.standing) w c.args.output.now mid c.lay.new.output c.args.arms.now i g c.args.first now c.in_ok-entry.entry
    (omega arith) c.index-arms-place.is c.loop-place.invariant
    (λ there. c.in_ok-standing.ensures (goal_of g) (subst (λ k. goal_at s k ≡ Some (goal_of g)) (sym part) there)
    ∙ (λ j. arm_place s n (part j) (part j + goal_size (goal_of g)) (gathered (goals_of (what-is-left (i + 1) c.args.arms.now j))) at w now.pending now.height))
    c.in_ok-lay.ensures
    (λ there. c.in_ok-entry.ensures (goal_of g) (subst (λ k. goal_at s k ≡ Some (goal_of g)) (sym part) there)
    ∙ (λ j. entry now.other (pending_behind w now.pending) (now.height + heights_of s (part j) (goal_of g))))

pub lay_arms-returns : goal.lay_arms-returns
lay_arms-returns t c =
    let s = hlds_of c.args.tables.now.source.checked.now in
    arms-end s c.args.number (place_told c.args.at) (switch_at (program_findings s) c.args.number) c.args.output.now c.loop-place.output c.args.arms.now c.loop-place.place c.args.first c.loop-place.entry (omega arith) c.loop-place.invariant

pub lay_conjunction-loop-place-preserved : goal.lay_conjunction-loop-place-preserved
lay_conjunction-loop-place-preserved t c =
    let s = hlds_of c.args.tables.now.source.checked.now in
    let at = place_told c.args.at in
    let mid = c.loop-place.output in
    let i = c.loop-place.place in
    let g = c.index-goals-place.result in
    let now = c.loop-place.entry in
    let number : c.in_ok-number.number ≡ laid mid = omega (arith, c.in_ok-number.ensures, c.len.ensures, c.loop-place.output.details.ok) in
    parts-next s at (place_told c.in_ok-part.part) c.args.output.now mid c.lay.new.output c.args.goals.now i g c.args.first now c.in_ok-entry.entry
    (omega arith) c.index-goals-place.is c.loop-place.invariant
    (λ there. c.in_ok-part.ensures (goal_of g) (subst (λ k. goal_at s k ≡ Some (goal_of g)) (sym number) there)
    ∙ (λ j. conjunct_place s (number j) (goal_of g) (gathered (goals_of (what-is-left (i + 1) c.args.goals.now j))) at now.other now.pending now.height))
    c.in_ok-lay.ensures
    (λ there. c.in_ok-entry.ensures (goal_of g) (subst (λ k. goal_at s k ≡ Some (goal_of g)) (sym number) there)
    ∙ (λ j. entry (other_after now.other (leaves_table s (number j))) (pending_after s (number j) now.pending (goal_of g)) (now.height + heights_of s (number j) (goal_of g))))

pub lay_conjunction-returns : goal.lay_conjunction-returns
lay_conjunction-returns t c =
    parts-end (hlds_of c.args.tables.now.source.checked.now) (place_told c.args.at) c.args.output.now c.loop-place.output c.args.goals.now c.loop-place.place c.args.first c.loop-place.entry (omega arith) c.loop-place.invariant

pub lay_inner-returns-in_ok-first_entry-in-Conj : goal.lay_inner-returns-in_ok-first_entry-in-Conj
lay_inner-returns-in_ok-first_entry-in-Conj t c =
    on-ok-map c.lay_conjunction.result
    (inner-Conj (hlds_of c.args.tables.now.source.checked.now) c.args.output.now c.lay_conjunction.new.output c.args.number (expr_of c.args.kind.now) (gathered (goals_of c.as_slice.result.now)) (place_told c.args.at) c.in_ok-first_entry-in-Conj.field-0
    (expr-Conj c.args.kind.now c.in-Conj.goals c.as_slice.result.now c.in-Conj.is c.as_slice.ensures.value) c.in_ok-first_entry-in-Conj.ensures)
    c.lay_conjunction.ensures

pub lay_inner-returns-in_ok-first_entry-in-Disj : goal.lay_inner-returns-in_ok-first_entry-in-Disj
lay_inner-returns-in_ok-first_entry-in-Disj t c =
    on-ok-map c.lay_arms.result
    (inner-Disj (hlds_of c.args.tables.now.source.checked.now) c.args.output.now c.lay_arms.new.output c.args.number (expr_of c.args.kind.now) (gathered (goals_of c.as_slice-in-Disj.result.now)) (place_told c.args.at) c.in_ok-first_entry-in-Disj.field-0
    (expr-Disj c.args.kind.now c.in-Disj.arms c.as_slice-in-Disj.result.now c.in-Disj.is c.as_slice-in-Disj.ensures.value) c.in_ok-first_entry-in-Disj.ensures)
    c.lay_arms.ensures

pub lay_inner-returns-in_ok-lay-in-If-2 : goal.lay_inner-returns-in_ok-lay-in-If-2
lay_inner-returns-in_ok-lay-in-If-2 t c =
    on-ok-map c.lay-in-If-2.result
    (inner-If (hlds_of c.args.tables.now.source.checked.now) c.args.output.now c.lay.new.output c.lay-in-If.new.output c.lay-in-If-2.new.output c.args.number (expr_of c.args.kind.now)
    (goal_of c.deref.result.now) (goal_of c.deref-in-If.result.now) (goal_of c.deref-in-If-2.result.now) (place_told c.args.at)
    (place_told c.in_ok-places-in-If.places.condition) (place_told c.in_ok-places-in-If.places.then) (place_told c.in_ok-places-in-If.places.otherwise)
    (expr_of-If c.args.kind.now c.in-If.condition c.in-If.then c.in-If.otherwise c.deref.result.now c.deref-in-If.result.now c.deref-in-If-2.result.now c.in-If.is c.deref.ensures c.deref-in-If.ensures c.deref-in-If-2.ensures)
    c.in_ok-places-in-If.ensures c.in_ok-lay-in-If.ensures c.in_ok-lay-in-If-2.ensures)
    c.lay-in-If-2.ensures

pub lay_inner-returns-in_ok-negated_place-in-Not : goal.lay_inner-returns-in_ok-negated_place-in-Not
lay_inner-returns-in_ok-negated_place-in-Not t c =
    on-ok-map c.lay-in-Not.result
    (inner-Not (hlds_of c.args.tables.now.source.checked.now) c.args.output.now c.lay-in-Not.new.output c.args.number (expr_of c.args.kind.now) (goal_of c.deref-in-Not.result.now) (place_told c.args.at) (place_told c.in_ok-negated_place-in-Not.field-0)
    (expr-Not c.args.kind.now c.in-Not.inner c.deref-in-Not.result.now c.in-Not.is c.deref-in-Not.ensures) c.in_ok-negated_place-in-Not.ensures)
    c.lay-in-Not.ensures

pub lay_inner-returns-in_ok-some_place-in-Some : goal.lay_inner-returns-in_ok-some_place-in-Some
lay_inner-returns-in_ok-some_place-in-Some t c =
    on-ok-map c.lay-in-Some.result
    (inner-Some (hlds_of c.args.tables.now.source.checked.now) c.args.output.now c.lay-in-Some.new.output c.args.number (expr_of c.args.kind.now) c.in-Some.field-0 (goal_of c.deref-in-Some.result.now) (place_told c.args.at) (place_told c.in_ok-some_place-in-Some.field-0)
    (expr-Some c.args.kind.now c.in-Some.field-0 c.in-Some.inner c.deref-in-Some.result.now c.in-Some.is c.deref-in-Some.ensures) c.in_ok-some_place-in-Some.ensures)
    c.lay-in-Some.ensures

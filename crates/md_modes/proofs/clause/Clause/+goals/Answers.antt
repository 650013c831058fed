use Rattle.std.proofs.Common.{◌≡◌, ◌∙◌, refl, sym, ap, arith, subst, false, true, [], ◌∷◌, ◌++◌, List, Option, length, ◌<◌, Ok, Err, add-one, rules}
use Rattle.std.proofs.lemmas.Grind.{common_steps}
use Rattle.std.proofs.lemmas.Result.{err_from_is_err_and}
use Rattle.md_hlds.specs.HldsGoal.{DisjGoal, goal_of, goals_of, expr_of, gathered}
use Rattle.md_inst.specs.Instantiation.{InstMap}
use Rattle.md_inst.specs.Kinds.{inst_map_of}
use Rattle.md_modes.specs.Branches.{After, after, binds_some}
use Rattle.md_modes.specs.Goals.{goal, expr, each, arms, variables, expr_variables}
use Rattle.md_modes.specs.Notes.{Note, role_of, inner_notes, each_notes, arm_notes}
use Rattle.md_modes.specs.Classes.{class_told, notes_told}
use Rattle.md_modes.specs.Joins.{occurs, Ends}
use Rattle.md_modes.specs.declared.joined.Joined.{Joined}
use Rattle.md_modes.specs.Views.{seen, put_all, seen_ends, Leaves, AllLeave}
use Rattle.md_modes.specs.Clauses.{scope_at}
use Rattle.md_modes.proofs.ArmLemmas.{no_ends, seen_ends-more, all_leave-more}
use Rattle.md_modes.proofs.Choices.{reaches_along, not_is, some_is, conj_is, disj_is, choose_is, three_variables, inside_ok, inside_by, inside_binds, condition_fault, then_fault, choose_last, choose_fault, once_fault, once_outside, once_right}
use Rattle.md_modes.proofs.GoalLemmas.{each-more, each-fault, each-end, arms-begin, arms-more, arms-fault, either_fault, arms-end}
use Rattle.md_modes.proofs.Insides.{places_of, view_leaves, views_leave, put_back, put_own, own_leaves, is_arm, among_first, among_others, among_itself, among_second, among_third, among_goals, binds_by, branch_end, own_note, view_counts, view_along, ends_seen, ends_viewed, reaches_from}
use Rattle.md_modes.proofs.Listed.{goals_variables, goals_variables-Disj, variables-If}
use Rattle.md_modes.proofs.NoteNames.{own_size}
use Rattle.md_modes.proofs.Views.{length-seen}
use Rattle.md_inst.proofs.Insts.{length-inst_map_of}
use Rattle.md_modes.specs.Inside.{IsViewOf, IsChoice}
use Rattle.md_modes.proofs.Notings.{not_notes_is, some_notes_is, each-loop, each-loop-end, within_notes, goal_notes, notes_along, each_notes_is, arm_notes_is, arms-loop, arms-loop-end, choice_noted, choice_notes_is, kept_note, always}
use Rattle.md_modes.proofs.clause.Clause.+goals.Goals as goals

pub check_viewed-index_mut-requires : goals.check_viewed-index_mut-requires
check_viewed-index_mut-requires t c =
    let lt = within_notes c.args.notes.now.items c.add_note.new.notes.items c.check_kind.new.notes.items c.in_ok-add_note.ensures.note _ c.in_ok-add_note.ensures.added c.in_ok-reach.ensures.notes in
    omega (arith, lt, c.len-number.ensures)

pub check_viewed-overflow_sub-size : goals.check_viewed-overflow_sub-size
check_viewed-overflow_sub-size t c =
    let lt = within_notes c.args.notes.now.items c.add_note.new.notes.items c.check_kind.new.notes.items c.in_ok-add_note.ensures.note _ c.in_ok-add_note.ensures.added c.in_ok-reach.ensures.notes in
    omega (arith, lt, c.len-number.ensures, c.len.ensures)

pub check_viewed-end_note-requires : goals.check_viewed-end_note-requires
check_viewed-end_note-requires t c =
    let view = c.args.view.now in
    sym (length-inst_map_of view.before.now) ∙ (ap length c.requires.view.before ∙ length-seen (places_of view) (inst_map_of c.args.insts.now.items))

pub check_viewed-returns-clause-notes : goals.check_viewed-returns-clause-notes
check_viewed-returns-clause-notes t c =
    let k = c.args.self.now in
    let view = c.args.view.now in
    let scope = scope_at k c.args.strict in
    let s = inst_map_of c.args.insts.now.items in
    let r = inst_map_of c.check_kind.new.insts.items in
    let l = c.args.goal.now.line in
    let kind = expr_of c.args.goal.now.kind in
    let old = c.args.notes.now.items in
    let begun = c.add_note.new.notes.items in
    let more = c.check_kind.new.notes.items in
    let number = c.len-number.result in
    let first = c.in_ok-add_note.ensures.note in
    let note = c.end_note.new.note in
    let told = c.in_ok-end_note.ensures in
    let at : number ≡ length old = omega (arith, c.len-number.ensures) in
    let inner = c.in_ok-reach.ensures.notes in
    let within' : number < length more = omega (arith, within_notes old begun more first _ c.in_ok-add_note.ensures.added inner, at) in
    let kept = kept_note old begun more number first c.index_mut.result.now _ c.in_ok-add_note.ensures.added at inner within' c.index_mut.ensures.value in
    let size = own_size scope l kind s old begun more first number c.len.result _ c.in_ok-add_note.ensures.added at inner (omega (arith, c.len.ensures)) refl in
    goal_notes old begun more _ number first note _ (inner_notes scope kind s) c.in_ok-add_note.ensures.added at inner refl
    (own_note scope l kind (places_of view) view.outside.local.now.counts.items (places_of view) s r (inst_map_of view.before.now) (seen (places_of view) (inst_map_of c.deref-2.result.now))
    c.in_ok-reach.reach (class_told note.class) (role_of scope.program kind s) note.binds.items note.names_io note.binds_outside note.named note.size
    c.requires.view.local refl c.in_ok-reach.ensures.reaches c.requires.view.before (rw c.deref-2.ensures.value refl)
    (ap class_told told.class ∙ (ap (λ (n : Note). n.role) kept ∙ (c.in_ok-add_note.ensures.class ∙ rw c.deref.ensures.value refl)))
    told.binds told.state (told.named ∙ (ap (λ (n : Note). n.named) kept ∙ c.in_ok-add_note.ensures.named)) (told.size ∙ size)
    (told.outside scope.all (expr_variables kind) (view_counts k view (expr_variables kind) s c.args.strict c.requires.view) c.requires.view.local))

pub check_arms-loop-goal-init : goals.check_arms-loop-goal-init
check_arms-loop-goal-init t c view = record {
  ends = [];
  are_ends = subst (λ (j : Option Joined). Ends (occurs c.args.view.now.outside) (seen (places_of c.args.view.now) (inst_map_of c.args.insts.now.items)) j []) (sym c.requires.none) (no_ends _ _);
  leave = tt;
  rest = arms-begin _;
  known = refl;
  noted = refl;
}

pub check_arms-returns-in_err-arm-clause-reaches : goals.check_arms-returns-in_err-arm-clause-reaches
check_arms-returns-in_err-arm-clause-reaches t c view =
    let scope = scope_at c.args.self.now c.args.at.strict in
    let s = inst_map_of c.args.insts.now.items in
    let inv = c.loop-goal.invariant view in
    let told = err_from_is_err_and c.from_residual.result c.from_residual.ensures.1 in
    rw (told.1, told.2)
    (λ ne.
    either_fault scope c.args.at.line (gathered (goals_of c.args.goals.now)) s c.in_err-arm.field-0.0
    (inv.rest ∙ arms-fault scope c.args.goals.now c.loop-goal.goal-index c.goal-item.result s c.in_err-arm.field-0.0 inv.ends c.loop-goal-test.true c.goal-item.is
    (subst (λ (k : InstMap). goal scope (goal_of c.goal-item.result) k ≡ Err c.in_err-arm.field-0.0) inv.known (c.in_err-arm.ensures.reaches ne))))

pub check_arms-loop-goal-preserved : goals.check_arms-loop-goal-preserved
check_arms-loop-goal-preserved t c h =
    let k = c.args.self.now in
    let view = c.args.view.now in
    let gs = c.args.goals.now in
    let vars = goals_variables gs in
    let scope = scope_at k c.args.at.strict in
    let s = inst_map_of c.args.insts.now.items in
    let r = inst_map_of c.check_arm.new.insts.items in
    let a = after r c.in_ok-arm.arm.reach in
    let inv = c.loop-goal.invariant h in
    let i = c.loop-goal.goal-index in
    let g = c.goal-item.result in
    let p = occurs view.outside in
    let found : goal scope (goal_of g) s ≡ Ok a = rw (← inv.known) c.in_ok-arm.ensures.reaches in
    let leaves = view_leaves k view vars s scope (goal_of g) a h (among_goals gs i g c.loop-goal-test.true c.goal-item.is) found in
    let arm = c.in_ok-arm.arm in
    let own = arm.start.value.local.places.items in
    let before : inst_map_of arm.start.value.before.items ≡ seen own s = c.in_ok-arm.ensures.before ∙ rw inv.known refl in
    let alone : Leaves own s r = own_leaves own arm.start.value.local.counts.items s scope (goal_of g) a c.in_ok-arm.ensures.local found in
    let ends = seen_ends (places_of view) inv.ends in
    record {
      ends = inv.ends ++ a ∷ [];
      are_ends =
          subst (λ (es : List After). Ends p (seen (places_of view) s) c.add_checked.new.joined es) (sym (seen_ends-more (places_of view) inv.ends a))
          (ends_seen k view vars s p c.add_checked.new.joined _ h
          (c.in_ok-add_checked.ensures.ends s ends (is_arm k view vars own s r h alone) (ends_viewed k view vars s p c.loop-goal.joined ends h inv.are_ends)));
      leave = all_leave-more (places_of view) s inv.ends a inv.leave leaves;
      rest = inv.rest ∙ rw add-one (arms-more scope gs i g s a inv.ends c.loop-goal-test.true c.goal-item.is found);
      known = put_own own s r (inst_map_of arm.start.value.before.items) (inst_map_of c.add_checked.new.insts.items) before alone c.in_ok-add_checked.ensures.insts;
      noted = arms-loop scope gs i g s (notes_told c.loop-goal.notes.items) (notes_told c.check_arm.new.notes.items) _ c.loop-goal-test.true c.goal-item.is
          (rw (← inv.known) c.in_ok-arm.ensures.notes) inv.noted;
    }

pub check_arms-returns-clause-reaches : goals.check_arms-returns-clause-reaches
check_arms-returns-clause-reaches t c h =
    let k = c.args.self.now in
    let view = c.args.view.now in
    let gs = c.args.goals.now in
    let vars = goals_variables gs in
    let scope = scope_at k c.args.at.strict in
    let s = inst_map_of c.args.insts.now.items in
    let inv = c.loop-goal.invariant h in
    let p = occurs view.outside in
    let ends = seen_ends (places_of view) inv.ends in
    let now = inst_map_of c.end_arms.new.insts.items in
    let all : arms scope (gathered (goals_of gs)) s ≡ Ok inv.ends = inv.rest ∙ arms-end scope gs c.loop-goal.goal-index s inv.ends (omega arith) in
    branch_end k view vars s now c.args.at.strict c.args.at.line inv.ends c.end_arms.result _ h inv.leave (rw all refl)
    (reaches_from c.end_arms.result now (inst_map_of c.loop-goal.insts.items) s (places_of view) _ inv.known
    (c.end_arms.ensures p ends (ends_viewed k view vars s p c.loop-goal.joined ends h inv.are_ends)
    (h.before ∙ ap (seen (places_of view)) (sym inv.known))))

pub check_arms-returns-clause-notes : goals.check_arms-returns-clause-notes
check_arms-returns-clause-notes t c h =
    always c.end_arms.result
    (arms-loop-end (scope_at c.args.self.now c.args.at.strict) c.args.goals.now c.loop-goal.goal-index (inst_map_of c.args.insts.now.items) _ _ (omega arith)
    (c.loop-goal.invariant h).noted)

pub check_condition-returns-then-binds-clause-reaches : goals.check_condition-returns-then-binds-clause-reaches
check_condition-returns-then-binds-clause-reaches t c vars h among ne =
    let k = c.args.self.now in
    let view = c.args.view.now in
    let scope = scope_at k true in
    let s = inst_map_of c.args.insts.now.items in
    let r = inst_map_of c.check.new.insts.items in
    let a = after r c.in_ok-reach.reach in
    let p = goal_of c.args.goal.now in
    let known = ap inst_map_of c.deref.ensures.value in
    inside_binds scope c.args.line vars p s a c.in_ok-reach.ensures.reaches
    (binds_by k view vars s r true true h (view_leaves k view vars s scope p a h among c.in_ok-reach.ensures.reaches)
    (ap (λ m. binds_some (occurs view.outside) (inst_map_of view.before.now) (seen (places_of view) m)) (sym known) ∙ (sym c.in_ok-binds.ensures ∙ c.if-binds.true)))

pub check_condition-returns-clause-reaches : goals.check_condition-returns-clause-reaches
check_condition-returns-clause-reaches t c vars h among =
    let k = c.args.self.now in
    let view = c.args.view.now in
    let scope = scope_at k true in
    let s = inst_map_of c.args.insts.now.items in
    let r = inst_map_of c.check.new.insts.items in
    let a = after r c.in_ok-reach.reach in
    let p = goal_of c.args.goal.now in
    let known = ap inst_map_of c.deref.ensures.value in
    inside_by scope c.args.line vars p s a c.in_ok-reach.ensures.reaches
    (binds_by k view vars s r true false h (view_leaves k view vars s scope p a h among c.in_ok-reach.ensures.reaches)
    (ap (λ m. binds_some (occurs view.outside) (inst_map_of view.before.now) (seen (places_of view) m)) (sym known) ∙ (sym c.in_ok-binds.ensures ∙ c.if-binds.false)))

pub check_inside-returns-in_err-check_condition-clause-reaches : goals.check_inside-returns-in_err-check_condition-clause-reaches
check_inside-returns-in_err-check_condition-clause-reaches t c =
    let vs = c.args.quantified.now in
    let p = goal_of c.args.inner.now in
    let told = err_from_is_err_and c.from_residual.result c.from_residual.ensures.1 in
    rw (told.1, told.2)
    (λ ne.
    once_fault (scope_at c.args.self.now c.args.at.strict) c.args.at.line vs p (inst_map_of c.args.insts.now.items) _
    (c.in_err-check_condition.ensures.reaches (vs ++ variables p) c.requires.view (among_others (variables p) (variables p) vs (among_itself (variables p))) ne))

pub check_inside-returns-then-has_some-clause-reaches : goals.check_inside-returns-then-has_some-clause-reaches
check_inside-returns-then-has_some-clause-reaches t c ne =
    let k = c.args.self.now in
    let scope = scope_at k c.args.at.strict in
    let vs = c.args.quantified.now in
    let p = goal_of c.args.inner.now in
    let vars = vs ++ variables p in
    let s = inst_map_of c.args.insts.now.items in
    once_outside scope c.args.at.line vs p s _
    (c.in_ok-check_condition.ensures.reaches vars c.requires.view (among_others (variables p) (variables p) vs (among_itself (variables p))))
    (sym (c.has_some.ensures scope.all vars (view_counts k c.args.view.now vars s c.args.at.strict c.requires.view) c.requires.view.local) ∙ c.if-has_some.true)

pub check_inside-returns-clause-reaches : goals.check_inside-returns-clause-reaches
check_inside-returns-clause-reaches t c =
    let k = c.args.self.now in
    let view = c.args.view.now in
    let scope = scope_at k c.args.at.strict in
    let vs = c.args.quantified.now in
    let p = goal_of c.args.inner.now in
    let vars = vs ++ variables p in
    let s = inst_map_of c.args.insts.now.items in
    let r = inst_map_of c.check_condition.new.insts.items in
    let among = among_others (variables p) (variables p) vs (among_itself (variables p)) in
    let inside' = c.in_ok-check_condition.ensures.reaches vars c.requires.view among in
    let leaves = view_leaves k view vars s (scope_at k true) p _ c.requires.view among (inside_ok (scope_at k true) c.args.at.line vars p s _ inside') in
    let back : inst_map_of c.put_all.new.insts.items ≡ s =
    put_back k view vars s r _ c.requires.view leaves (c.put_all.ensures ∙ ap (λ xs. put_all xs (inst_map_of view.before.now) r) c.deref.ensures.value) in
    rw back
    (once_right scope c.args.at.line vs p s _ inside'
    (sym (c.has_some.ensures scope.all vars (view_counts k view vars s c.args.at.strict c.requires.view) c.requires.view.local) ∙ c.if-has_some.false))

pub check_kind-returns-in-Conj-clause-reaches : goals.check_kind-returns-in-Conj-clause-reaches
check_kind-returns-in-Conj-clause-reaches t c =
    let scope = scope_at c.args.self.now c.args.strict in
    let s = inst_map_of c.args.insts.now.items in
    reaches_along c.check_each.result (inst_map_of c.check_each.new.insts.items) _ _
    (conj_is scope c.args.goal.now.line c.args.goal.now.kind c.in-Conj.goals s c.in-Conj.is ∙ ap (λ gs. each scope (gathered (goals_of gs)) s) (sym c.as_slice.ensures.value))
    c.check_each.ensures.reaches

pub check_kind-returns-in-Conj-clause-notes : goals.check_kind-returns-in-Conj-clause-notes
check_kind-returns-in-Conj-clause-notes t c =
    let scope = scope_at c.args.self.now c.args.strict in
    let s = inst_map_of c.args.insts.now.items in
    notes_along c.check_each.result (notes_told c.args.notes.now.items) (notes_told c.check_each.new.notes.items) _ _
    (each_notes_is scope c.args.goal.now.kind c.in-Conj.goals s c.in-Conj.is ∙ ap (λ gs. each_notes scope (gathered (goals_of gs)) s) (sym c.as_slice.ensures.value))
    c.check_each.ensures.notes

pub check_kind-returns-in-Disj-clause-reaches : goals.check_kind-returns-in-Disj-clause-reaches
check_kind-returns-in-Disj-clause-reaches t c =
    let scope = scope_at c.args.self.now c.args.strict in
    let s = inst_map_of c.args.insts.now.items in
    reaches_along c.check_disjunction.result (inst_map_of c.check_disjunction.new.insts.items) _ _
    (disj_is scope c.args.goal.now.line c.args.goal.now.kind c.in-Disj.arms s c.in-Disj.is
    ∙ ap (λ gs. expr scope c.args.goal.now.line (DisjGoal (gathered (goals_of gs))) s) (sym c.as_slice-in-Disj.ensures.value))
    (c.check_disjunction.ensures.reaches (view_along c.args.self.now c.args.view.now _ _ s
    (goals_variables-Disj c.args.goal.now.kind c.in-Disj.arms c.in-Disj.is ∙ ap goals_variables (sym c.as_slice-in-Disj.ensures.value)) c.requires.view))

pub check_kind-returns-in-Disj-clause-notes : goals.check_kind-returns-in-Disj-clause-notes
check_kind-returns-in-Disj-clause-notes t c =
    let scope = scope_at c.args.self.now c.args.strict in
    let s = inst_map_of c.args.insts.now.items in
    notes_along c.check_disjunction.result (notes_told c.args.notes.now.items) (notes_told c.check_disjunction.new.notes.items) _ _
    (arm_notes_is scope c.args.goal.now.kind c.in-Disj.arms s c.in-Disj.is ∙ ap (λ gs. arm_notes scope (gathered (goals_of gs)) s) (sym c.as_slice-in-Disj.ensures.value))
    (c.check_disjunction.ensures.notes (view_along c.args.self.now c.args.view.now _ _ s
    (goals_variables-Disj c.args.goal.now.kind c.in-Disj.arms c.in-Disj.is ∙ ap goals_variables (sym c.as_slice-in-Disj.ensures.value)) c.requires.view))

pub check_kind-check_choice-requires : goals.check_kind-check_choice-requires
check_kind-check_choice-requires t c = (search rules, (subst (λ k. IsChoice (expr_of k)) (sym c.in-If.is) tt, c.requires.view))

pub check_parts-returns-in_err-check_condition-in-If-clause-reaches : goals.check_parts-returns-in_err-check_condition-in-If-clause-reaches
check_parts-returns-in_err-check_condition-in-If-clause-reaches t c =
    let k = c.args.self.now in
    let scope = scope_at k c.args.strict in
    let l = c.args.goal.now.line in
    let kind = c.args.goal.now.kind in
    let s = inst_map_of c.args.insts.now.items in
    let g = c.deref.result.now in
    let h = c.in-If.then.value in
    let j = c.in-If.otherwise.value in
    let vars = three_variables (goal_of g) (goal_of h) (goal_of j) in
    let view = view_along k c.args.view.now _ vars s (variables-If kind c.in-If.condition c.in-If.then c.in-If.otherwise g h j c.in-If.is c.deref.ensures refl refl) c.requires.view in
    let told = err_from_is_err_and c.from_residual.result c.from_residual.ensures.1 in
    rw (told.1, told.2)
    (λ ne. choose_is scope l kind c.in-If.condition c.in-If.then c.in-If.otherwise g h j s c.in-If.is c.deref.ensures refl refl
    ∙ condition_fault scope l (goal_of g) (goal_of h) (goal_of j) s _ (c.in_err-check_condition-in-If.ensures.reaches vars view (among_first _ _) ne))

pub check_parts-returns-in_err-reach-in-If-clause-reaches : goals.check_parts-returns-in_err-reach-in-If-clause-reaches
check_parts-returns-in_err-reach-in-If-clause-reaches t c =
    let k = c.args.self.now in
    let scope = scope_at k c.args.strict in
    let l = c.args.goal.now.line in
    let kind = c.args.goal.now.kind in
    let s = inst_map_of c.args.insts.now.items in
    let g = c.deref.result.now in
    let h = c.deref-in-If.result.now in
    let j = c.in-If.otherwise.value in
    let vars = three_variables (goal_of g) (goal_of h) (goal_of j) in
    let view = view_along k c.args.view.now _ vars s (variables-If kind c.in-If.condition c.in-If.then c.in-If.otherwise g h j c.in-If.is c.deref.ensures c.deref-in-If.ensures refl) c.requires.view in
    let first = c.in_ok-check_condition-in-If.ensures.reaches vars view (among_first _ _) in
    let told = err_from_is_err_and c.from_residual-in_err-reach-in-If.result c.from_residual-in_err-reach-in-If.ensures.1 in
    rw (told.1, told.2)
    (λ ne. choose_is scope l kind c.in-If.condition c.in-If.then c.in-If.otherwise g h j s c.in-If.is c.deref.ensures c.deref-in-If.ensures refl
    ∙ then_fault scope l (goal_of g) (goal_of h) (goal_of j) s _ _ first (c.in_err-reach-in-If.ensures.reaches ne))

pub check_parts-returns-clause-reaches : goals.check_parts-returns-clause-reaches
check_parts-returns-clause-reaches t c =
    let k = c.args.self.now in
    let scope = scope_at k c.args.strict in
    let l = c.args.goal.now.line in
    let kind = c.args.goal.now.kind in
    let s = inst_map_of c.args.insts.now.items in
    let g = c.deref.result.now in
    let h = c.deref-in-If.result.now in
    let j = c.deref-in-If-2.result.now in
    let p = goal_of g in
    let t' = goal_of h in
    let e = goal_of j in
    let vars = three_variables p t' e in
    let view = view_along k c.args.view.now _ vars s
    (variables-If kind c.in-If.condition c.in-If.then c.in-If.otherwise g h j c.in-If.is c.deref.ensures c.deref-in-If.ensures c.deref-in-If-2.ensures) c.requires.view in
    let a = after (inst_map_of c.check_condition.new.insts.items) c.in_ok-check_condition-in-If.field-0 in
    let first = c.in_ok-check_condition-in-If.ensures.reaches vars view (among_first _ _) in
    let b = after (inst_map_of c.check.new.insts.items) c.in_ok-reach-in-If.reach in
    let then' : goal scope t' a.known ≡ Ok b = c.in_ok-reach-in-If.ensures.reaches in
    let leaves = views_leave k c.args.view.now vars s (scope_at k true) scope p t' a b view (among_first _ _) (among_second p t' e) (inside_ok (scope_at k true) l vars p s a first) then' in
    let own = places_of c.args.view.now in
    let now = inst_map_of c.add_part.new.insts.items in
    let back : now ≡ s = put_own own s b.known (inst_map_of c.args.view.now.before.now) now view.before leaves c.in_ok-add_part-in-If.ensures.insts in
    let is = choose_is scope l kind c.in-If.condition c.in-If.then c.in-If.otherwise g h j s c.in-If.is c.deref.ensures c.deref-in-If.ensures c.deref-in-If-2.ensures in
    c.check_last_arm.ensures.reaches vars (b ∷ []) (subst (λ (m : InstMap). IsViewOf k c.args.view.now vars m) (sym back) view) (among_third p t' e)
    (subst (λ (m : InstMap). AllLeave (places_of c.args.view.now) m (b ∷ [])) (sym back) (leaves, tt))
    (c.in_ok-add_part-in-If.ensures.ends s [] (is_arm k c.args.view.now vars own s b.known view leaves)
    (subst (λ (j : Option Joined). Ends (occurs c.args.view.now.outside) (inst_map_of c.args.view.now.before.now) j []) (sym c.requires.none) (no_ends _ _))) (expr scope l (expr_of kind) s)
    (λ d right. is ∙ choose_last scope l p t' e s now a b d first then' back right)
    (λ x wrong. is ∙ choose_fault scope l p t' e s now a b x first then' back wrong)

pub check_parts-returns-clause-notes : goals.check_parts-returns-clause-notes
check_parts-returns-clause-notes t c =
    let k = c.args.self.now in
    let scope = scope_at k c.args.strict in
    let l = c.args.goal.now.line in
    let kind = c.args.goal.now.kind in
    let s = inst_map_of c.args.insts.now.items in
    let g = c.deref.result.now in
    let h = c.deref-in-If.result.now in
    let j = c.deref-in-If-2.result.now in
    let p = goal_of g in
    let t' = goal_of h in
    let e = goal_of j in
    let vars = three_variables p t' e in
    let view = view_along k c.args.view.now _ vars s
    (variables-If kind c.in-If.condition c.in-If.then c.in-If.otherwise g h j c.in-If.is c.deref.ensures c.deref-in-If.ensures c.deref-in-If-2.ensures) c.requires.view in
    let a = after (inst_map_of c.check_condition.new.insts.items) c.in_ok-check_condition-in-If.field-0 in
    let first = c.in_ok-check_condition-in-If.ensures.reaches vars view (among_first _ _) in
    let b = after (inst_map_of c.check.new.insts.items) c.in_ok-reach-in-If.reach in
    let then' : goal scope t' a.known ≡ Ok b = c.in_ok-reach-in-If.ensures.reaches in
    let leaves = views_leave k c.args.view.now vars s (scope_at k true) scope p t' a b view (among_first _ _) (among_second p t' e) (inside_ok (scope_at k true) l vars p s a first) then' in
    let own = places_of c.args.view.now in
    let now = inst_map_of c.add_part.new.insts.items in
    let back : now ≡ s = put_own own s b.known (inst_map_of c.args.view.now.before.now) now view.before leaves c.in_ok-add_part-in-If.ensures.insts in
    notes_along c.check_last_arm.result (notes_told c.args.notes.now.items) (notes_told c.check_last_arm.new.notes.items) _ _
    (choice_notes_is scope kind c.in-If.condition c.in-If.then c.in-If.otherwise g h j s c.in-If.is c.deref.ensures c.deref-in-If.ensures c.deref-in-If-2.ensures)
    (choice_noted scope (scope_at k true) p t' e s now a c.check_last_arm.result _ _ _ _ (inside_ok (scope_at k true) l vars p s a first)
    c.in_ok-check_condition-in-If.ensures.notes c.in_ok-reach-in-If.ensures.notes back c.check_last_arm.ensures.notes)

pub check_last_arm-returns-in_err-reach-clause-reaches : goals.check_last_arm-returns-in_err-reach-clause-reaches
check_last_arm-returns-in_err-reach-clause-reaches t c vars ends h among leave are v right wrong =
    let told = err_from_is_err_and c.from_residual.result c.from_residual.ensures.1 in
    rw (told.1, told.2) (λ ne. wrong _ (c.in_err-reach.ensures.reaches ne))

pub check_last_arm-returns-clause-reaches : goals.check_last_arm-returns-clause-reaches
check_last_arm-returns-clause-reaches t c vars ends h among leave are v right wrong =
    let k = c.args.self.now in
    let view = c.args.view.now in
    let scope = scope_at k c.args.at.strict in
    let l = c.args.at.line in
    let s = inst_map_of c.args.insts.now.items in
    let p = goal_of c.args.goal.now in
    let places = places_of view in
    let d = after (inst_map_of c.check.new.insts.items) c.in_ok-reach.reach in
    let found : goal scope p s ≡ Ok d = c.in_ok-reach.ensures.reaches in
    let leaves = view_leaves k view vars s scope p d h among found in
    let back = put_own places s d.known (inst_map_of view.before.now) (inst_map_of c.add_part.new.insts.items) h.before leaves c.in_ok-add_part.ensures.insts in
    let all = subst (λ (es : List After). Ends (occurs view.outside) (inst_map_of view.before.now) c.add_part.new.joined es) (sym (seen_ends-more places ends d))
    (c.in_ok-add_part.ensures.ends s (seen_ends places ends) (is_arm k view vars places s d.known h leaves) are) in
    let now = inst_map_of c.end_arms.new.insts.items in
    branch_end k view vars s now c.args.at.strict l (ends ++ d ∷ []) c.end_arms.result _ h (all_leave-more places s ends d leave leaves)
    (right d found)
    (reaches_from c.end_arms.result now (inst_map_of c.add_part.new.insts.items) s places _ back
    (c.end_arms.ensures (occurs view.outside) (seen_ends places (ends ++ d ∷ [])) all (h.before ∙ ap (seen places) (sym back))))

pub check_last_arm-returns-clause-notes : goals.check_last_arm-returns-clause-notes
check_last_arm-returns-clause-notes t c = always c.end_arms.result c.in_ok-reach.ensures.notes

pub check_each-loop-goal-preserved : goals.check_each-loop-goal-preserved
check_each-loop-goal-preserved t c =
    let scope = scope_at c.args.self.now c.args.strict in
    let gs = c.args.goals.now in
    let i = c.loop-goal.goal-index in
    let g = c.goal-item.result in
    let s = inst_map_of c.loop-goal.insts.items in
    let r = inst_map_of c.check.new.insts.items in
    let inv = c.loop-goal.invariant in
    let found = c.in_ok-goes_on.ensures.reaches in (
      inv.0 ∙ (each-more scope gs i g s r c.loop-goal.reach c.in_ok-goes_on.goes_on c.loop-goal-test.true c.goal-item.is found ∙ rw (c.both-reach.ensures, add-one) refl),
      each-loop scope gs i g s (after r c.in_ok-goes_on.goes_on) (notes_told c.loop-goal.notes.items) (notes_told c.check.new.notes.items) _ c.loop-goal-test.true c.goal-item.is
          c.in_ok-goes_on.ensures.notes found inv.1,
    )

pub check_each-returns-in_err-goes_on-clause-reaches : goals.check_each-returns-in_err-goes_on-clause-reaches
check_each-returns-in_err-goes_on-clause-reaches t c =
    let inv = c.loop-goal.invariant in
    let told = err_from_is_err_and c.from_residual.result c.from_residual.ensures.1 in
    rw (told.1, told.2)
    (λ ne.
    inv.0
    ∙ each-fault (scope_at c.args.self.now c.args.strict) c.args.goals.now c.loop-goal.goal-index c.goal-item.result (inst_map_of c.loop-goal.insts.items) c.loop-goal.reach _
    c.loop-goal-test.true c.goal-item.is (c.in_err-goes_on.ensures.reaches ne))

pub check_each-returns-clause-reaches : goals.check_each-returns-clause-reaches
check_each-returns-clause-reaches t c =
    c.loop-goal.invariant.0
    ∙ each-end (scope_at c.args.self.now c.args.strict) c.args.goals.now c.loop-goal.goal-index (inst_map_of c.loop-goal.insts.items) c.loop-goal.reach (omega arith)

pub check_each-returns-clause-notes : goals.check_each-returns-clause-notes
check_each-returns-clause-notes t c =
    each-loop-end (scope_at c.args.self.now c.args.strict) c.args.goals.now c.loop-goal.goal-index (inst_map_of c.loop-goal.insts.items) _ _ (omega arith) c.loop-goal.invariant.1

pub check-check_viewed-reach-requires : goals.check-check_viewed-reach-requires
check-check_viewed-reach-requires t c = (
  search rules,
  record {
    local = rw (c.deref-4.ensures, c.in_ok-view.ensures.local, c.deref-2.ensures) c.in_ok-start.ensures.local;
    all = rw (c.deref-4.ensures, c.in_ok-view.ensures.all) c.deref-3.ensures.value;
    before = rw (c.deref-4.ensures, c.in_ok-view.ensures.local, c.in_ok-view.ensures.before, c.deref-2.ensures) (c.in_ok-start.ensures.before ∙ rw c.deref.ensures.value refl);
  },
)

pub check_viewed-check_kind-requires : goals.check_viewed-check_kind-requires
check_viewed-check_kind-requires t c = (search rules, c.requires.view)

pub check_kind-returns-in-Not-clause-reaches : goals.check_kind-returns-in-Not-clause-reaches
check_kind-returns-in-Not-clause-reaches t c =
    reaches_along c.check_inside.result (inst_map_of c.check_inside.new.insts.items) _ _
    (not_is (scope_at c.args.self.now c.args.strict) c.args.goal.now.line c.args.goal.now.kind c.in-Not.inner c.deref.result.now (inst_map_of c.args.insts.now.items)
    c.in-Not.is c.deref.ensures)
    c.check_inside.ensures.reaches

pub check_kind-returns-in-Not-clause-notes : goals.check_kind-returns-in-Not-clause-notes
check_kind-returns-in-Not-clause-notes t c =
    notes_along c.check_inside.result (notes_told c.args.notes.now.items) (notes_told c.check_inside.new.notes.items) _ _
    (not_notes_is (scope_at c.args.self.now c.args.strict) c.args.goal.now.kind c.in-Not.inner c.deref.result.now (inst_map_of c.args.insts.now.items)
    c.in-Not.is c.deref.ensures)
    c.check_inside.ensures.notes

pub check_kind-returns-in-Some-clause-reaches : goals.check_kind-returns-in-Some-clause-reaches
check_kind-returns-in-Some-clause-reaches t c =
    reaches_along c.check_inside-in-Some.result (inst_map_of c.check_inside-in-Some.new.insts.items) _ _
    (some_is (scope_at c.args.self.now c.args.strict) c.args.goal.now.line c.args.goal.now.kind c.as_slice-in-Some.result.now c.in-Some.quantified c.in-Some.inner
    c.deref-in-Some.result.now (inst_map_of c.args.insts.now.items) c.in-Some.is c.deref-in-Some.ensures c.as_slice-in-Some.ensures)
    c.check_inside-in-Some.ensures.reaches

pub check_kind-returns-in-Some-clause-notes : goals.check_kind-returns-in-Some-clause-notes
check_kind-returns-in-Some-clause-notes t c =
    notes_along c.check_inside-in-Some.result (notes_told c.args.notes.now.items) (notes_told c.check_inside-in-Some.new.notes.items) _ _
    (some_notes_is (scope_at c.args.self.now c.args.strict) c.args.goal.now.kind c.in-Some.quantified c.in-Some.inner c.deref-in-Some.result.now (inst_map_of c.args.insts.now.items)
    c.in-Some.is c.deref-in-Some.ensures)
    c.check_inside-in-Some.ensures.notes

pub check_arm-returns-clause-local : goals.check_arm-returns-clause-local
check_arm-returns-clause-local t c = c.in_ok-start.ensures.local

pub check_arm-returns-clause-before : goals.check_arm-returns-clause-before
check_arm-returns-clause-before t c = c.in_ok-start.ensures.before ∙ rw c.deref.ensures.value refl

pub check_condition-returns-clause-notes : goals.check_condition-returns-clause-notes
check_condition-returns-clause-notes t c = grind (arith, common_steps)

pub check_inside-returns-then-has_some-clause-notes : goals.check_inside-returns-then-has_some-clause-notes
check_inside-returns-then-has_some-clause-notes t c = grind (arith, common_steps)

pub check_viewed-returns-clause-reaches : goals.check_viewed-returns-clause-reaches
check_viewed-returns-clause-reaches t c = grind (arith, common_steps)

pub check_condition-returns-then-binds-clause-notes : goals.check_condition-returns-then-binds-clause-notes
check_condition-returns-then-binds-clause-notes t c = grind (arith, common_steps)

pub check_arm-returns-clause-notes : goals.check_arm-returns-clause-notes
check_arm-returns-clause-notes t c = grind (arith, common_steps)

pub check_arm-returns-clause-reaches : goals.check_arm-returns-clause-reaches
check_arm-returns-clause-reaches t c = grind (arith, common_steps)

pub check_inside-returns-clause-notes : goals.check_inside-returns-clause-notes
check_inside-returns-clause-notes t c = grind (arith, common_steps)

pub check-returns-clause-notes : goals.check-returns-clause-notes
check-returns-clause-notes t c = grind (arith, common_steps)

pub check-returns-clause-reaches : goals.check-returns-clause-reaches
check-returns-clause-reaches t c = grind (arith, common_steps)

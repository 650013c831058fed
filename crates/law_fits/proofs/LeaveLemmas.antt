-- What the checks find says which goals leave choices, and which disjunctions are switches, at each turn that fits.
use Rattle.std.proofs.Common.{◌≡◌, refl, sym, ap, ◌∙◌, subst, ℕ, suc, ◌+◌, Bool, List, Option, Some, None, Ok, slice_get}
use Rattle.md_hlds.specs.declared.goal.PredName.{PredName}
use Rattle.md_hlds.specs.HldsGoal.{HldsGoal, At, GoalExpr, SimpleGoal, CallGoal, HoCallGoal, ConjGoal, DisjGoal, IfGoal, NotGoal, SomeGoal, HldsGoals, nothing, also, goal_size, Numbered}
use Rattle.md_hlds.specs.Hlds.{Procedure, Hlds, procedure_called}
use Rattle.md_hlds.specs.Value.{Value, Env, value_at}
use Rattle.md_hlds.specs.Switch.{Key, switch_shape}
use Rattle.md_inst.specs.Instantiation.{Instantiation, free, has, InstMap, known_at}
use Rattle.md_modes.specs.Branches.{After}
use Rattle.md_modes.specs.Goals.{variables, parts_variables, goal, each}
use Rattle.md_det.specs.declared.finding.Switch.{Switch}
use Rattle.md_det.specs.Switches.{switch_on_known, switch_with, switch_of}
use Rattle.md_det.specs.Findings.{expr_switch, program_findings, switch_of_finding, switch_at}
use Rattle.law_safety.specs.Values.{Agrees, Fits}
use Rattle.law_safety.specs.Known as known
use Rattle.law_safety.specs.Known.{place, Begins, BeginsParts, BeginsArms, FitsAt}
use Rattle.law_safety.specs.Unfolding.{expr_in, switch_value}
use Rattle.law_safety.proofs.Accepted.{each_ok, if_ok}
use Rattle.law_safety.proofs.Safe.{fits_left}
use Rattle.law_safety.proofs.SwitchLemmas.{shape_occurs}
use Rattle.law_safety.proofs.NotedGoals.{noted}
use Rattle.law_safety.proofs.FoundGoals.{pairs_are_found}
use Rattle.law_fits.specs.Handing.{HandsOpen}
use Rattle.md_code.specs.Leaves.{has_choices, named_leaves, role_leaves, leaves, expr_leaves, found_leaves, leaves_table}
use Rattle.law_fits.specs.Leaves.{EachInTable, PartsInTable, MeetsSwitch}

-- ---- the table at the goals of a clause

pub table_at : (s : Hlds) (q : ℕ × Procedure) (strict : Bool) (n : ℕ) (p : HldsGoal) (kn : InstMap) → slice_get s.procedures q.0 ≡ Some q.1 → Begins s q strict n p kn → leaves_table s n ≡ leaves s n p
table_at s q strict n p kn at before = ap (λ o. found_leaves s n o) (noted s q strict n p kn at before).goal

pub parts_in_table : (s : Hlds) (q : ℕ × Procedure) (strict : Bool) (n : ℕ) (ps : HldsGoals) (kn : InstMap) (a : After) → slice_get s.procedures q.0 ≡ Some q.1 → BeginsParts s q strict n ps kn
    → each (place s q.1 strict) ps kn ≡ Ok a → EachInTable s n ps
parts_in_table s q strict n nothing kn a at before ok = tt
parts_in_table s q strict n (also p ps) kn a at before ok =
    let o = each_ok (place s q.1 strict) p ps kn a ok in (
      table_at s q strict n p kn at (known.part strict n p ps kn before),
      parts_in_table s q strict (n + goal_size p) ps o.first.known o.rest at (known.next_parts strict n p ps kn o.first before o.begins) o.goes_on,
    )

pub arms_in_table : (s : Hlds) (q : ℕ × Procedure) (strict : Bool) (n : ℕ) (ps : HldsGoals) (kn : InstMap) → slice_get s.procedures q.0 ≡ Some q.1 → BeginsArms s q strict n ps kn → EachInTable s n ps
arms_in_table s q strict n nothing kn at before = tt
arms_in_table s q strict n (also p ps) kn at before =
    (table_at s q strict n p kn at (known.arm strict n p ps kn before), arms_in_table s q strict (n + goal_size p) ps kn at (known.next_arms strict n p ps kn before))

goal_parts : (s : Hlds) (q : ℕ × Procedure) (strict : Bool) (n l : ℕ) (t : GoalExpr) (kn : InstMap) (a : After) → slice_get s.procedures q.0 ≡ Some q.1 → Begins s q strict n (At l t) kn
    → goal (place s q.1 strict) (At l t) kn ≡ Ok a → PartsInTable s n t
goal_parts s q strict n l (SimpleGoal g) kn a at before ok = tt
goal_parts s q strict n l (CallGoal site name ys) kn a at before ok = tt
goal_parts s q strict n l (HoCallGoal site f ys) kn a at before ok = tt
goal_parts s q strict n l (ConjGoal ps) kn a at before ok = parts_in_table s q strict (suc n) ps kn a at (known.parts strict n l ps kn before) ok
goal_parts s q strict n l (DisjGoal ps) kn a at before ok = arms_in_table s q strict (suc n) ps kn at (known.arms strict n l ps kn before)
goal_parts s q strict n l (IfGoal c t e) kn a at before ok =
    let o = if_ok (place s q.1 strict) l c t e kn a ok in (
      table_at s q strict (suc n + goal_size c) t o.condition.known at (known.then strict n l c t e kn o.condition before o.begins),
      table_at s q strict (suc n + goal_size c + goal_size t) e kn at (known.else strict n l c t e kn before),
    )
goal_parts s q strict n l (NotGoal c) kn a at before ok = tt
goal_parts s q strict n l (SomeGoal vs c) kn a at before ok = tt

-- at a turn the table has the goal and its parts
pub turn_in_table : (s : Hlds) (e : Env) (g : Numbered) (goals : List Numbered) (l : ℕ) (t : GoalExpr) → FitsAt s e g goals → g.goal ≡ At l t → (leaves_table s g.number ≡ expr_leaves s g.number t) × PartsInTable s g.number t
turn_in_table s e g goals l t h is = (
  table_at s h.procedure h.strict g.number (At l t) h.known h.at (subst (λ (p : HldsGoal). Begins s h.procedure h.strict g.number p h.known) is h.before),
  goal_parts s h.procedure h.strict g.number l t h.known h.after h.at (subst (λ (p : HldsGoal). Begins s h.procedure h.strict g.number p h.known) is h.before)
      (subst (λ (p : HldsGoal). goal (place s h.procedure.1 h.strict) p h.known ≡ Ok h.after) is h.accepted),
)

-- ---- switches

met_known : (s : Hlds) (e : Env) (ps : HldsGoals) (x : ℕ) (keys : List Key) (k : Instantiation) (o : Option Value) → switch_shape s ps ≡ Some (x, keys) → value_at e x ≡ o → Agrees s o k → MeetsSwitch s e ps (switch_on_known s x keys k)
met_known s e ps x keys free None shape at h = ap (λ w. switch_value w e) shape ∙ at
met_known s e ps x keys free (Some v) shape at h = elim h [ ]
met_known s e ps x keys (has t used) None shape at h = elim h [ ]
met_known s e ps x keys (has t used) (Some v) shape at h = (keys, shape, (v, at))

met_shape : (s : Hlds) (e : Env) (ps : HldsGoals) (kn : InstMap) (o : Option (ℕ × List Key)) → switch_shape s ps ≡ o → Fits s (parts_variables ps) kn e → MeetsSwitch s e ps (switch_with s o kn)
met_shape s e ps kn None shape fits = ap (λ w. switch_value w e) shape
met_shape s e ps kn (Some w) shape fits =
    met_known s e ps w.0 w.1 (known_at kn w.0) (value_at e w.0) shape refl (fits.each w.0 (shape_occurs s ps w.0 w.1 shape))

-- the switch that the checks find at the goal's number
pub switch_met : (s : Hlds) (e : Env) (g : Numbered) (goals : List Numbered) (l : ℕ) (ps : HldsGoals) → FitsAt s e g goals → g.goal ≡ At l (DisjGoal ps) → MeetsSwitch s e ps (switch_at (program_findings s) g.number)
switch_met s e g goals l ps h is =
    let found = ap (λ o. switch_of_finding o) (pairs_are_found s h.procedure h.strict g.number g.goal h.known h.at h.before) in
    let switch : switch_at (program_findings s) g.number ≡ switch_of s ps h.known = found ∙ ap (λ (p : HldsGoal). expr_switch s (expr_in p) h.known) is in
    let fits : Fits s (parts_variables ps) h.known e = subst (λ (p : HldsGoal). Fits s (variables p) h.known e) is (fits_left s (variables g.goal) _ h.known e h.fits) in
    subst (λ (w : Option Switch). MeetsSwitch s e ps w) (sym switch) (met_shape s e ps h.known (switch_shape s ps) refl fits)

-- ---- calls

pub named_leaves_as : (s : Hlds) (e : Env) (g : Numbered) (goals : List Numbered) (l site : ℕ) (name : PredName) (ys : List ℕ) (q : ℕ × Procedure) → FitsAt s e g goals → g.goal ≡ At l (CallGoal site name ys) → procedure_called s name ≡ Some q
    → leaves_table s g.number ≡ has_choices q.1.det
named_leaves_as s e g goals l site name ys q h is called = (turn_in_table s e g goals l (CallGoal site name ys) h is).0 ∙ ap (λ o. named_leaves o) called

pub open_leaves_as : (s : Hlds) (e : Env) (g : Numbered) (goals : List Numbered) (l site x : ℕ) (ys : List ℕ) → FitsAt s e g goals → g.goal ≡ At l (HoCallGoal site x ys) → (c : HandsOpen s e g.number x ys)
    → leaves_table s g.number ≡ has_choices c.procedure.det
open_leaves_as s e g goals l site x ys h is c = (turn_in_table s e g goals l (HoCallGoal site x ys) h is).0 ∙ ap (λ r. role_leaves r) c.noted

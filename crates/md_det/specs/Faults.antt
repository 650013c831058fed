-- The faults of determinism, in text order.
use Rattle.std.specs.Prelude.{ℕ, Bool, false, not, ◌&&◌, ◌||◌, List, [], ◌∷◌, ◌++◌, Option, Some, None, cond, is_none}
use Rattle.md_hlds.specs.declared.types.Mode.{Mode}
use Rattle.md_hlds.specs.declared.types.Det.TheVariants as det
use Rattle.md_hlds.specs.HldsGoal.{HldsGoal, At, GoalExpr, SimpleGoal, CallGoal, HoCallGoal, ConjGoal, DisjGoal, IfGoal, NotGoal, SomeGoal, HldsGoals, nothing, also}
use Rattle.md_hlds.specs.Hlds.{HldsType, Procedure, Hlds}
use Rattle.md_inst.specs.HldsTypes.{is_world, same_det}
use Rattle.md_inst.specs.Instantiation.{InstMap}
use Rattle.md_modes.specs.Branches.{outside, binds_some}
use Rattle.md_modes.specs.Goals.{Scope, within, variables, goal}
use Rattle.md_modes.specs.Modes.{entry, scope_of}
use Rattle.md_modes.specs.Notes.{known_after, names_state}
use Rattle.md_det.specs.declared.fault.DetFault.{DetFault}
use Rattle.md_det.specs.declared.fault.DetFault.TheVariants.{Declared, ManyInCondition, IoInBacktracking}
use Rattle.md_det.specs.declared.pair.Pair.{Pair}
use Rattle.md_det.specs.Bounds.{is_many}
use Rattle.md_det.specs.Pairs.{pair_of, det_of, allows}
use Rattle.md_det.specs.Switches.{switch_of}
use Rattle.md_det.specs.Determinism.{goal_pair}

-- this fault, where that holds
abbrev pub fault_if : Bool → DetFault → List DetFault
fault_if b f = cond b (f ∷ []) []

-- A condition with many solutions binds a variable that occurs outside it: one that is free before it and bound after it.
abbrev pub binds_many : Scope → HldsGoal → InstMap → Bool
binds_many c p s =
    is_many (goal_pair (within c) None p s).bound && binds_some (outside c.all (variables p)) s (known_after s (goal (within c) p s))

-- The faults of a goal itself. `again` holds in an alternative and after a goal with many solutions, where a run may come
-- back.
abbrev pub own_faults : Scope → Bool → ℕ → GoalExpr → InstMap → List DetFault
own_faults c again l (ConjGoal ps) s = []
own_faults c again l (DisjGoal ps) s = []
own_faults c again l (IfGoal p t e) s = fault_if (binds_many c p s) (ManyInCondition l)
own_faults c again l t s = fault_if (again && names_state t s (known_after s (goal c (At l t) s))) (IoInBacktracking l)

-- The faults of a goal and of those within it, outer before inner.
abbrev mutual
  pub goal_faults : Scope → Bool → HldsGoal → InstMap → List DetFault
  goal_faults c again (At l t) s = own_faults c again l t s ++ inner_faults c again t s

  pub inner_faults : Scope → Bool → GoalExpr → InstMap → List DetFault
  inner_faults c again (SimpleGoal g) s = []
  inner_faults c again (CallGoal site q ys) s = []
  inner_faults c again (HoCallGoal site f ys) s = []
  inner_faults c again (ConjGoal ps) s = each_faults c again ps s
  inner_faults c again (DisjGoal ps) s = arm_faults c (again || is_none (switch_of c.program ps s)) ps s
  inner_faults c again (IfGoal p t e) s =
      goal_faults (within c) again p s ++ (goal_faults c again t (known_after s (goal (within c) p s)) ++ goal_faults c again e s)
  inner_faults c again (NotGoal p) s = goal_faults (within c) again p s
  inner_faults c again (SomeGoal vs p) s = goal_faults (within c) again p s

  pub each_faults : Scope → Bool → HldsGoals → InstMap → List DetFault
  each_faults c again nothing s = []
  each_faults c again (also p ps) s =
      goal_faults c again p s ++ each_faults c (again || is_many (goal_pair c None p s).bound) ps (known_after s (goal c p s))

  pub arm_faults : Scope → Bool → HldsGoals → InstMap → List DetFault
  arm_faults c again nothing s = []
  arm_faults c again (also p ps) s = goal_faults c again p s ++ arm_faults c again ps s

-- ---- a predicate

abbrev pub has_world : List (HldsType × Mode) → Bool
has_world [] = false
has_world (a ∷ args) = is_world a.0 || has_world args

-- an io state in a predicate that isn't det
abbrev pub state_faults : Procedure → List DetFault
state_faults p = fault_if (has_world p.args && not (same_det p.det det.Det)) (IoInBacktracking p.line)

-- a body that does more than its declaration says
abbrev pub declared_faults : Procedure → Pair → List DetFault
declared_faults p body =
    fault_if (not (allows (pair_of p.det) body))
    (Declared p.line p.det (det_of body.may_fail body.bound))

abbrev pub body_pair : Hlds → Procedure → Pair
body_pair s p = goal_pair (scope_of s p) None p.body (entry p)

abbrev pub procedure_faults : Hlds → Procedure → List DetFault
procedure_faults s p = state_faults p ++ (goal_faults (scope_of s p) false p.body (entry p) ++ declared_faults p (body_pair s p))

abbrev pub faults_of : Hlds → List Procedure → List DetFault
faults_of s [] = []
faults_of s (p ∷ ps) = procedure_faults s p ++ faults_of s ps

abbrev pub first_of : List DetFault → Option DetFault
first_of [] = None
first_of (f ∷ fs) = Some f

-- the first fault of determinism
unfoldable pub det_fault : Hlds → Option DetFault
det_fault s = first_of (faults_of s s.procedures)

-- What the checks find at each goal: its pair, and the switch that it is.
use Rattle.std.specs.Prelude.{ℕ, Bool, List, [], ◌∷◌, ◌++◌, Option, Some, None, slice_get}
use Rattle.md_hlds.specs.HldsGoal.{HldsGoal, At, GoalExpr, SimpleGoal, CallGoal, HoCallGoal, ConjGoal, DisjGoal, IfGoal, NotGoal, SomeGoal, HldsGoals, nothing, also}
use Rattle.md_hlds.specs.Hlds.{Procedure, Hlds}
use Rattle.md_inst.specs.Instantiation.{InstMap}
use Rattle.md_modes.specs.Goals.{Scope, within, goal}
use Rattle.md_modes.specs.Modes.{entry, scope_of}
use Rattle.md_modes.specs.Notes.{known_after}
use Rattle.md_det.specs.declared.finding.Finding.{Finding}
use Rattle.md_det.specs.declared.finding.Switch.{Switch}
use Rattle.md_det.specs.declared.pair.Bound.{Bound}
use Rattle.md_det.specs.declared.pair.Bound.TheVariants.{Zero, One, Many}
use Rattle.md_det.specs.Switches.{switch_of, variable_of}
use Rattle.md_det.specs.Determinism.{expr_pair}

-- only a disjunction is a switch
abbrev pub expr_switch : Hlds → GoalExpr → InstMap → Option Switch
expr_switch p (DisjGoal ps) s = switch_of p ps s
expr_switch p t s = None

-- the findings at a goal and at those within it, outer before inner, in text order
abbrev mutual
  pub findings : Scope → Option ℕ → HldsGoal → InstMap → List Finding
  findings c at (At l t) s = record { switch = expr_switch c.program t s; pair = expr_pair c at t s } ∷ inner_findings c at t s

  pub inner_findings : Scope → Option ℕ → GoalExpr → InstMap → List Finding
  inner_findings c at (SimpleGoal g) s = []
  inner_findings c at (CallGoal site q ys) s = []
  inner_findings c at (HoCallGoal site f ys) s = []
  inner_findings c at (ConjGoal ps) s = each_findings c at ps s
  inner_findings c at (DisjGoal ps) s = arm_findings c (variable_of (switch_of c.program ps s)) ps s
  inner_findings c at (IfGoal p t e) s =
      findings (within c) None p s ++ (findings c None t (known_after s (goal (within c) p s)) ++ findings c None e s)
  inner_findings c at (NotGoal p) s = findings (within c) None p s
  inner_findings c at (SomeGoal vs p) s = findings (within c) None p s

  pub each_findings : Scope → Option ℕ → HldsGoals → InstMap → List Finding
  each_findings c at nothing s = []
  each_findings c at (also p ps) s = findings c at p s ++ each_findings c None ps (known_after s (goal c p s))

  pub arm_findings : Scope → Option ℕ → HldsGoals → InstMap → List Finding
  arm_findings c at nothing s = []
  arm_findings c at (also p ps) s = findings c at p s ++ arm_findings c at ps s

abbrev pub findings_from : Hlds → List Procedure → List Finding
findings_from s [] = []
findings_from s (p ∷ ps) = findings (scope_of s p) None p.body (entry p) ++ findings_from s ps

-- the findings at all goals of a program, in text order
unfoldable pub program_findings : Hlds → List Finding
program_findings s = findings_from s s.procedures

-- ---- what is found at the goal of a number

abbrev pub switch_of_finding : Option Finding → Option Switch
switch_of_finding None = None
switch_of_finding (Some f) = f.switch

-- the switch that the goal of this number is; none, where it is none or there is no such goal
abbrev pub switch_at : List Finding → ℕ → Option Switch
switch_at fs n = switch_of_finding (slice_get fs n)

-- 0, 1, and 2 for many
abbrev pub number_of : Bound → ℕ
number_of Zero = 0
number_of One = 1
number_of Many = 2

abbrev pub pair_of_finding : Option Finding → Option (Bool × ℕ)
pair_of_finding None = None
pair_of_finding (Some f) = Some (f.pair.may_fail, number_of f.pair.bound)

-- whether the goal of this number may fail, and its bound; none, where there is no such goal
abbrev pub pair_at : List Finding → ℕ → Option (Bool × ℕ)
pair_at fs n = pair_of_finding (slice_get fs n)

-- What the mode rules have as known before each goal of a clause, and environments that fit it at a turn.
use Rattle.std.specs.Prelude.{⊤, ◌≡◌, ℕ, suc, ◌+◌, Bool, true, false, List, [], ◌∷◌, ◌++◌, Option, Some, None, Ok, slice_get}
use Rattle.md_hlds.specs.HldsGoal.{HldsGoal, At, ConjGoal, DisjGoal, IfGoal, NotGoal, SomeGoal, HldsGoals, also, goal_size, Numbered}
use Rattle.md_hlds.specs.Hlds.{Procedure, Hlds, body_number, goal_at, procedure_called}
use Rattle.md_hlds.specs.Value.{Value, Env, value_at}
use Rattle.md_hlds.specs.Switch.{Key, arm_key, has_the_key}
use Rattle.md_hlds.specs.Run.{main_name}
use Rattle.md_inst.specs.Instantiation.{InstMap}
use Rattle.md_modes.specs.Branches.{After}
use Rattle.md_modes.specs.Goals.{Scope, variables, clause_variables, goal}
use Rattle.md_modes.specs.Modes.{entry}
use Rattle.md_modes.specs.Notes.{role_of, program_notes}
use Rattle.md_modes.specs.Classes.{role_at}
use Rattle.md_det.specs.Switches.{switch_of, variable_of}
use Rattle.law_safety.specs.Values.{Fits}
use Rattle.law_safety.specs.Turns.{IsTidy}
use Rattle.law_safety.specs.Unfolding.{main_job, expr_in, ComesToTurn}

-- where a goal of the clause stands, within a condition, a negation or `some` or not
abbrev pub place : Hlds → Procedure → Bool → Scope
place s p strict = record { program = s; all = clause_variables p; strict = strict }

mutual
  -- In the clause of that number the mode rules come to the goal of this number with this known. The bool says whether it
  -- is within a condition, a negation or `some`.
  pub data Begins (s : Hlds) (q : ℕ × Procedure) : Bool → ℕ → HldsGoal → InstMap → Type 0 where
    body : Begins s q false (body_number s q.0) q.1.body (entry q.1)
    part : (b : Bool) (n : ℕ) (p : HldsGoal) (ps : HldsGoals) (kn : InstMap) → BeginsParts s q b n (also p ps) kn → Begins s q b n p kn
    arm : (b : Bool) (n : ℕ) (p : HldsGoal) (ps : HldsGoals) (kn : InstMap) → BeginsArms s q b n (also p ps) kn → Begins s q b n p kn
    condition : (b : Bool) (n l : ℕ) (c t e : HldsGoal) (kn : InstMap) → Begins s q b n (At l (IfGoal c t e)) kn → Begins s q true (suc n) c kn
    then : (b : Bool) (n l : ℕ) (c t e : HldsGoal) (kn : InstMap) (a : After) → Begins s q b n (At l (IfGoal c t e)) kn → goal (place s q.1 true) c kn ≡ Ok a
        → Begins s q b (suc n + goal_size c) t a.known
    else : (b : Bool) (n l : ℕ) (c t e : HldsGoal) (kn : InstMap) → Begins s q b n (At l (IfGoal c t e)) kn → Begins s q b (suc n + goal_size c + goal_size t) e kn
    negated : (b : Bool) (n l : ℕ) (c : HldsGoal) (kn : InstMap) → Begins s q b n (At l (NotGoal c)) kn → Begins s q true (suc n) c kn
    quantified : (b : Bool) (n l : ℕ) (vs : List ℕ) (c : HldsGoal) (kn : InstMap) → Begins s q b n (At l (SomeGoal vs c)) kn → Begins s q true (suc n) c kn

  -- parts of a conjunction, each with what is known after the one before it
  pub data BeginsParts (s : Hlds) (q : ℕ × Procedure) : Bool → ℕ → HldsGoals → InstMap → Type 0 where
    parts : (b : Bool) (n l : ℕ) (ps : HldsGoals) (kn : InstMap) → Begins s q b n (At l (ConjGoal ps)) kn → BeginsParts s q b (suc n) ps kn
    next_parts : (b : Bool) (n : ℕ) (p : HldsGoal) (ps : HldsGoals) (kn : InstMap) (a : After) → BeginsParts s q b n (also p ps) kn → goal (place s q.1 b) p kn ≡ Ok a
        → BeginsParts s q b (n + goal_size p) ps a.known

  -- arms of a disjunction, each with what is known before it
  pub data BeginsArms (s : Hlds) (q : ℕ × Procedure) : Bool → ℕ → HldsGoals → InstMap → Type 0 where
    arms : (b : Bool) (n l : ℕ) (ps : HldsGoals) (kn : InstMap) → Begins s q b n (At l (DisjGoal ps)) kn → BeginsArms s q b (suc n) ps kn
    next_arms : (b : Bool) (n : ℕ) (p : HldsGoal) (ps : HldsGoals) (kn : InstMap) → BeginsArms s q b n (also p ps) kn → BeginsArms s q b (n + goal_size p) ps kn

-- ---- the switch whose arm a goal begins

-- The variable of the switch whose arm the goal at this place begins, if it begins one: of an arm of a disjunction that
-- is a switch there, and of the first part of such an arm.
abbrev mutual
  pub switches_on : {s : Hlds} {q : ℕ × Procedure} {b : Bool} {n : ℕ} {p : HldsGoal} {kn : InstMap} → Begins s q b n p kn → Option ℕ
  switches_on body = None
  switches_on (part b n p ps kn h) = parts_switch_on h
  switches_on (arm b n p ps kn h) = arms_switch_on h
  switches_on (condition b n l c t e kn h) = None
  switches_on (then b n l c t e kn a h ok) = None
  switches_on (else b n l c t e kn h) = None
  switches_on (negated b n l c kn h) = None
  switches_on (quantified b n l vs c kn h) = None

  pub parts_switch_on : {s : Hlds} {q : ℕ × Procedure} {b : Bool} {n : ℕ} {ps : HldsGoals} {kn : InstMap} → BeginsParts s q b n ps kn → Option ℕ
  parts_switch_on (parts b n l ps kn h) = switches_on h
  parts_switch_on (next_parts b n p ps kn a h ok) = None

  pub arms_switch_on : {s : Hlds} {q : ℕ × Procedure} {b : Bool} {n : ℕ} {ps : HldsGoals} {kn : InstMap} → BeginsArms s q b n ps kn → Option ℕ
  arms_switch_on {s} (arms b n l ps kn h) = variable_of (switch_of s ps kn)
  arms_switch_on (next_arms b n p ps kn h) = arms_switch_on h

-- a value has a key
abbrev pub IsKeyed : Key → Option Value → Type 0
IsKeyed k None = ⊥
IsKeyed k (Some v) = has_the_key v k ≡ true

-- where a goal begins an arm of a switch on a variable, the variable's value has the arm's key
abbrev pub IsChosen : Hlds → Option ℕ → HldsGoal → Env → Type 0
IsChosen s None p e = ⊤
IsChosen s (Some x) p e = (k : Key) × (arm_key s p ≡ Some (x, k)) × IsKeyed k (value_at e x)

-- ---- turns

-- the variables of goals
abbrev pub goals_variables : List Numbered → List ℕ
goals_variables [] = []
goals_variables (g ∷ goals) = variables g.goal ++ goals_variables goals

-- At a turn the environment fits what the mode rules have as known before the goal, as far as the variables of that goal,
-- of the frame's goals after it and of its clause's head are concerned; with that known they accept the goal, which is as the
-- grammar has it; and if the goal begins an arm of a switch, that is the arm for the value of the switch's variable.
pub record FitsAt (s : Hlds) (e : Env) (g : Numbered) (goals : List Numbered) : Type 0 where
  pub procedure : ℕ × Procedure
  pub at : slice_get s.procedures procedure.0 ≡ Some procedure.1
  pub strict : Bool
  pub known : InstMap
  pub before : Begins s procedure strict g.number g.goal known
  pub tidy : IsTidy g.goal
  pub after : After
  pub accepted : goal (place s procedure.1 strict) g.goal known ≡ Ok after
  pub fits : Fits s (variables g.goal ++ (goals_variables goals ++ procedure.1.head)) known e
  pub chosen : IsChosen s (switches_on before) g.goal e

-- where there is a goal to do
abbrev pub FitsFirst : Hlds → Env → List Numbered → Type 0
FitsFirst s e [] = ⊤
FitsFirst s e (g ∷ goals) = FitsAt s e g goals

-- The turn of the activation a at the goal of number n, in a run within this budget: main's trace comes to it, and the
-- environment fits there.
pub record FitsInRun (s : Hlds) (budget a n : ℕ) : Type 0 where
  pub main : ℕ × Procedure
  pub called : procedure_called s main_name ≡ Some main
  pub turn : ComesToTurn s (main_job s budget main) a n
  pub fits : FitsFirst s turn.to.frame.env turn.to.frame.goals

-- The goal of that number, and what the checks find there: the role of a unification or of a closure's call is the one that
-- this known has.
pub record IsNoted (s : Hlds) (n : ℕ) (p : HldsGoal) (kn : InstMap) : Type 0 where
  pub goal : goal_at s n ≡ Some p
  pub role : role_at (program_notes s) n ≡ role_of s (expr_in p) kn

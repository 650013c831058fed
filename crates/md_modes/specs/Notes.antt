-- What the checks find at each goal: what a unification does, the type of the closure that is called, what a goal binds, and
-- what its name stands for.
use Rattle.std.specs.Prelude.{ℕ, suc, Bool, true, false, ◌||◌, List, [], ◌∷◌, ◌++◌, length, Option, Some, None, Ok, Err, cond}
use Rattle.md_hlds.specs.declared.goal.Term.{Term}
use Rattle.md_hlds.specs.declared.goal.Term.TheVariants.{Var, Int, Str, Name}
use Rattle.md_hlds.specs.HldsGoal.{Unifies, HldsGoal, At, GoalExpr, SimpleGoal, CallGoal, HoCallGoal, ConjGoal, DisjGoal, IfGoal, NotGoal, SomeGoal, HldsGoals, nothing, also, goal_size}
use Rattle.md_hlds.specs.Hlds.{HldsType, closure, Procedure, Hlds}
use Rattle.md_inst.specs.Verdict.{Verdict}
use Rattle.md_inst.specs.Instantiation.{Instantiation, free, has, InstMap, known_at, is_bound, is_newly_bound}
use Rattle.md_inst.specs.Named.{Functor, functor_called}
use Rattle.md_inst.specs.HldsTypes.{is_world}
use Rattle.md_names.specs.declared.named.Named.{Named}
use Rattle.md_names.specs.Named.{expr_name}
use Rattle.md_modes.specs.Branches.{After, outside, some_of}
use Rattle.md_modes.specs.Goals.{Scope, within, expr_variables, goal}
use Rattle.md_modes.specs.Modes.{entry, scope_of}

-- what a unification does, or a call of a closure of this type
pub data Role : Type 0 where
  constructs : Role
  closes : Role
  -- the places, from 0, of the arguments that are bound before the goal
  takes_apart : (bound : List ℕ) → Role
  -- the variable that it binds
  assigns : (to : ℕ) → Role
  tests : Role
  applies : (t : HldsType) → Role

-- the places of the variables that are bound, counted on from n
abbrev pub bound_places : ℕ → List ℕ → InstMap → List ℕ
bound_places n [] s = []
bound_places n (y ∷ ys) s = cond (is_bound (known_at s y)) (n ∷ bound_places (suc n) ys s) (bound_places (suc n) ys s)

abbrev pub role_of_variables : (x y : ℕ) → Instantiation → Instantiation → Role
role_of_variables x y (has t used) free = assigns y
role_of_variables x y free k = assigns x
role_of_variables x y (has t used) (has u spent) = tests

abbrev pub role_of_term : List ℕ → Instantiation → InstMap → Role
role_of_term ys free s = constructs
role_of_term ys (has t used) s = takes_apart (bound_places 0 ys s)

abbrev pub role_of_name : List ℕ → Instantiation → InstMap → Option Functor → Role
role_of_name ys k s (Some f) = role_of_term ys k s
role_of_name ys k s None = closes

abbrev pub role_of_unification : Hlds → ℕ → Term → InstMap → Role
role_of_unification p x (Var y) s = role_of_variables x y (known_at s x) (known_at s y)
role_of_unification p x (Int n) s = role_of_term [] (known_at s x) s
role_of_unification p x (Str bytes) s = role_of_term [] (known_at s x) s
role_of_unification p x (Name q ys) s = role_of_name ys (known_at s x) s (functor_called p q (length ys))

abbrev pub role_of_sort : HldsType → Option Role
role_of_sort (closure ts ms d) = Some (applies (closure ts ms d))
role_of_sort t = None

abbrev pub role_of_closure : Instantiation → Option Role
role_of_closure free = None
role_of_closure (has t used) = role_of_sort t

-- unifications and calls of closures have a role
abbrev pub role_of : Hlds → GoalExpr → InstMap → Option Role
role_of p (SimpleGoal (Unifies x t)) s = Some (role_of_unification p x t s)
role_of p (HoCallGoal site f ys) s = role_of_closure (known_at s f)
role_of p t s = None

-- a unification or a higher-order call
abbrev pub has_role : HldsGoal → Bool
has_role (At l (SimpleGoal (Unifies x t))) = true
has_role (At l (HoCallGoal site f ys)) = true
has_role p = false

abbrev pub is_with_role : Option HldsGoal → Bool
is_with_role None = false
is_with_role (Some p) = has_role p

-- the variables that are free before and bound after, in rising order from n on
abbrev pub newly_bound : ℕ → InstMap → InstMap → List ℕ
newly_bound n (k ∷ s) (j ∷ r) = cond (is_newly_bound k j) (n ∷ newly_bound (suc n) s r) (newly_bound (suc n) s r)
newly_bound n s r = []

-- what a goal binds; nothing, where the place after it isn't reachable
abbrev pub binds : InstMap → Verdict After → List ℕ
binds s (Ok a) = cond a.reach (newly_bound 0 s a.known) []
binds s (Err e) = []

-- the variable is bound to an io state
abbrev pub is_state : Instantiation → Bool
is_state free = false
is_state (has t used) = is_world t

-- A variable of the goal is an io state before or after it. (The determinism checks ask that of goals that are no
-- conjunction, no disjunction and no if-then-else.)
abbrev pub names_state : GoalExpr → InstMap → InstMap → Bool
names_state (ConjGoal ps) s r = false
names_state (DisjGoal ps) s r = false
names_state (IfGoal p t e) s r = false
names_state t s r = some_of (λ x. is_state (known_at s x) || is_state (known_at r x)) (expr_variables t)

pub record Note : Type 0 where
  pub role : Option Role
  pub binds : List ℕ
  -- the goal names an io state; the determinism checks read this
  pub state : Bool
  -- what the name in the goal stands for
  pub named : Named
  -- how many goals it has, itself among them
  pub size : ℕ
  -- it binds a variable that occurs outside it
  pub outside : Bool

-- what is known after a goal; after one with a fault, what was known before it
abbrev pub known_after : InstMap → Verdict After → InstMap
known_after s (Ok a) = a.known
known_after s (Err e) = s

-- the notes of a goal and of those within it, outer before inner, in text order
abbrev mutual
  pub notes : Scope → HldsGoal → InstMap → List Note
  notes c (At l t) s = record {
    role = role_of c.program t s;
    binds = binds s (goal c (At l t) s);
    state = names_state t s (known_after s (goal c (At l t) s));
    named = expr_name c.program t;
    size = goal_size (At l t);
    outside = some_of (outside c.all (expr_variables t)) (binds s (goal c (At l t) s));
  } ∷ inner_notes c t s

  pub inner_notes : Scope → GoalExpr → InstMap → List Note
  inner_notes c (SimpleGoal g) s = []
  inner_notes c (CallGoal site q ys) s = []
  inner_notes c (HoCallGoal site f ys) s = []
  inner_notes c (ConjGoal ps) s = each_notes c ps s
  inner_notes c (DisjGoal ps) s = arm_notes c ps s
  inner_notes c (IfGoal p t e) s = notes (within c) p s ++ (notes c t (known_after s (goal (within c) p s)) ++ notes c e s)
  inner_notes c (NotGoal p) s = notes (within c) p s
  inner_notes c (SomeGoal vs p) s = notes (within c) p s

  pub each_notes : Scope → HldsGoals → InstMap → List Note
  each_notes c nothing s = []
  each_notes c (also p ps) s = notes c p s ++ each_notes c ps (known_after s (goal c p s))

  pub arm_notes : Scope → HldsGoals → InstMap → List Note
  arm_notes c nothing s = []
  arm_notes c (also p ps) s = notes c p s ++ arm_notes c ps s

abbrev pub clause_notes : Hlds → Procedure → List Note
clause_notes s p = notes (scope_of s p) p.body (entry p)

abbrev pub notes_from : Hlds → List Procedure → List Note
notes_from s [] = []
notes_from s (p ∷ ps) = clause_notes s p ++ notes_from s ps

-- the notes of all goals of a program, in text order
unfoldable pub program_notes : Hlds → List Note
program_notes s = notes_from s s.procedures

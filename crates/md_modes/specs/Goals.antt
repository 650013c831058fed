-- Goals: what is known after a goal by what is known before it, or its first fault.
use Rattle.std.specs.Prelude.{ℕ, Bool, true, not, ◌&&◌, List, [], ◌∷◌, ◌++◌, Ok}
use Rattle.md_hlds.specs.declared.goal.Term.{Term}
use Rattle.md_hlds.specs.declared.goal.Term.TheVariants.{Var, Int, Str, Name}
use Rattle.md_hlds.specs.HldsGoal.{Simple, Succeeds, Fails, Unifies, Computes, Compares, WritesInt, WritesText, EndsLine, Raises, HldsGoal, At, GoalExpr, SimpleGoal, CallGoal, HoCallGoal, ConjGoal, DisjGoal, IfGoal, NotGoal, SomeGoal, HldsGoals, nothing, also}
use Rattle.md_hlds.specs.Hlds.{Procedure, Hlds}
use Rattle.md_inst.specs.declared.fault.ModeFault.TheVariants.{BranchBinds}
use Rattle.md_inst.specs.Verdict.{Verdict, ◌>>=◌, ◌>>◌, fault_unless}
use Rattle.md_inst.specs.Instantiation.{InstMap}
use Rattle.md_inst.specs.Simple.{atomic, goes_on}
use Rattle.md_modes.specs.Branches.{After, after, outside, binds_some, some_of, joined}

-- ---- the variables of a goal, as often as they occur, in text order

abbrev pub term_variables : Term → List ℕ
term_variables (Var y) = y ∷ []
term_variables (Int n) = []
term_variables (Str bytes) = []
term_variables (Name q ys) = ys

abbrev pub simple_variables : Simple → List ℕ
simple_variables Succeeds = []
simple_variables Fails = []
simple_variables (Unifies x t) = x ∷ term_variables t
simple_variables (Computes z a op b) = z ∷ a ∷ b ∷ []
simple_variables (Compares a cmp b) = a ∷ b ∷ []
simple_variables (WritesInt x before after) = x ∷ before ∷ after ∷ []
simple_variables (WritesText x before after) = x ∷ before ∷ after ∷ []
simple_variables (EndsLine before after) = before ∷ after ∷ []
simple_variables (Raises x) = x ∷ []

abbrev mutual
  pub variables : HldsGoal → List ℕ
  variables (At l t) = expr_variables t

  pub expr_variables : GoalExpr → List ℕ
  expr_variables (SimpleGoal g) = simple_variables g
  expr_variables (CallGoal site q ys) = ys
  expr_variables (HoCallGoal site f ys) = f ∷ ys
  expr_variables (ConjGoal ps) = parts_variables ps
  expr_variables (DisjGoal ps) = parts_variables ps
  expr_variables (IfGoal c t e) = variables c ++ (variables t ++ variables e)
  expr_variables (NotGoal c) = variables c
  expr_variables (SomeGoal vs c) = vs ++ variables c

  pub parts_variables : HldsGoals → List ℕ
  parts_variables nothing = []
  parts_variables (also p ps) = variables p ++ parts_variables ps

-- the variables of a clause
abbrev pub clause_variables : Procedure → List ℕ
clause_variables p = p.head ++ variables p.body

-- ---- what is known after a goal

-- where a goal stands: the program, the variables of its clause as often as they occur, and whether it is within a
-- condition, a negation or `some`
pub record Scope : Type 0 where
  pub program : Hlds
  pub all : List ℕ
  pub strict : Bool

-- within a condition, a negation or `some`
abbrev pub within : Scope → Scope
within c = record { program = c.program; all = c.all; strict = true }

abbrev pub reached : Bool → Verdict InstMap → Verdict After
reached reach v = v >>= (λ s. Ok (after s reach))

-- the place after a goal that is no conjunction and no branch
abbrev pub goes_on_after : GoalExpr → Bool
goes_on_after (SimpleGoal g) = goes_on g
goes_on_after t = true

abbrev pub atomic_expr : Scope → ℕ → GoalExpr → InstMap → Verdict After
atomic_expr c l t s = reached (goes_on_after t) (atomic c.program c.strict l t s)

-- a goal that may bind only what occurs nowhere outside
abbrev pub binds_inside : ℕ → (ℕ → Bool) → InstMap → After → Verdict (Unit {0})
binds_inside l p s a = fault_unless (not (binds_some p s a.known)) (BranchBinds l)

abbrev mutual
  pub goal : Scope → HldsGoal → InstMap → Verdict After
  goal c (At l t) s = expr c l t s

  pub expr : Scope → ℕ → GoalExpr → InstMap → Verdict After
  expr c l (SimpleGoal g) s = atomic_expr c l (SimpleGoal g) s
  expr c l (CallGoal site q ys) s = atomic_expr c l (CallGoal site q ys) s
  expr c l (HoCallGoal site f ys) s = atomic_expr c l (HoCallGoal site f ys) s
  expr c l (ConjGoal ps) s = each c ps s
  expr c l (DisjGoal ps) s = do
    ends ← arms c ps s
    joined l (outside c.all (parts_variables ps)) s ends
  expr c l (IfGoal p t e) s = do
    a ← goal (within c) p s
    binds_inside l (outside c.all (variables p ++ (variables t ++ variables e))) s a
    b ← goal c t a.known
    d ← goal c e s
    joined l (outside c.all (variables p ++ (variables t ++ variables e))) s (b ∷ d ∷ [])
  expr c l (NotGoal p) s = do
    a ← goal (within c) p s
    binds_inside l (outside c.all (variables p)) s a
    Ok (after s true)
  expr c l (SomeGoal vs p) s = do
    a ← goal (within c) p s
    binds_inside l (outside c.all (vs ++ variables p)) s a
    fault_unless (not (some_of (outside c.all (vs ++ variables p)) vs)) (BranchBinds l)
    Ok (after s true)

  -- one goal after the other; the place after them is reachable where the place after each is
  pub each : Scope → HldsGoals → InstMap → Verdict After
  each c nothing s = Ok (after s true)
  each c (also p ps) s = do
    a ← goal c p s
    rest ← each c ps a.known
    Ok (after rest.known (a.reach && rest.reach))

  -- the end of each arm; all begin with what is known at entry
  pub arms : Scope → HldsGoals → InstMap → Verdict (List After)
  arms c nothing s = Ok []
  arms c (also p ps) s = do
    a ← goal c p s
    ends ← arms c ps s
    Ok (a ∷ ends)

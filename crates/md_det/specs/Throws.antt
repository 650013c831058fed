-- Which goals throw: `require.error`, and those that it is within.
use Rattle.std.specs.Prelude.{Bool, true, false, ◌||◌, List, [], ◌∷◌}
use Rattle.md_hlds.specs.HldsGoal.{Simple, Raises, HldsGoal, At, GoalExpr, SimpleGoal, CallGoal, HoCallGoal, ConjGoal, DisjGoal, IfGoal, NotGoal, SomeGoal, HldsGoals, nothing, also}
use Rattle.md_hlds.specs.Hlds.{Procedure, Hlds}

abbrev pub is_error : Simple → Bool
is_error (Raises x) = true
is_error g = false

abbrev mutual
  pub has_error : HldsGoal → Bool
  has_error (At l t) = expr_has_error t

  pub expr_has_error : GoalExpr → Bool
  expr_has_error (SimpleGoal g) = is_error g
  expr_has_error (CallGoal site q ys) = false
  expr_has_error (HoCallGoal site f ys) = false
  expr_has_error (ConjGoal ps) = some_has_error ps
  expr_has_error (DisjGoal ps) = some_has_error ps
  expr_has_error (IfGoal c t e) = has_error c || (has_error t || has_error e)
  expr_has_error (NotGoal c) = has_error c
  expr_has_error (SomeGoal vs c) = has_error c

  pub some_has_error : HldsGoals → Bool
  some_has_error nothing = false
  some_has_error (also p ps) = has_error p || some_has_error ps

abbrev pub clauses_have_error : List Procedure → Bool
clauses_have_error [] = false
clauses_have_error (p ∷ ps) = has_error p.body || clauses_have_error ps

-- the program has a `require.error`
abbrev pub throws : Hlds → Bool
throws s = clauses_have_error s.procedures

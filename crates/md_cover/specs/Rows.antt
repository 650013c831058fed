-- The goals of a goal in text order, outer before inner, with their places, depths, lines and kinds.
use Rattle.std.specs.Prelude.{ℕ, suc, ◌+◌, List, [], ◌∷◌, ◌++◌, None}
use Rattle.md_hlds.specs.HldsGoal as goal
use Rattle.md_hlds.specs.HldsGoal.{Simple, HldsGoal, At, GoalExpr, SimpleGoal, CallGoal, HoCallGoal, ConjGoal, DisjGoal, IfGoal, NotGoal, SomeGoal, HldsGoals, nothing, also, goal_size}
use Rattle.md_cover.specs.declared.coverage.KindName.{KindName}
use Rattle.md_cover.specs.declared.coverage.KindName.TheVariants as kind
use Rattle.md_cover.specs.declared.coverage.GoalCount.{GoalCount}

abbrev pub simple_kind : Simple → KindName
simple_kind goal.Succeeds = kind.True
simple_kind goal.Fails = kind.Fail
simple_kind (goal.Unifies x t) = kind.Unify
simple_kind (goal.Computes z a op b) = kind.Arith
simple_kind (goal.Compares a c b) = kind.Compare
simple_kind (goal.WritesInt x b a) = kind.Write
simple_kind (goal.WritesText x b a) = kind.Write
simple_kind (goal.EndsLine b a) = kind.Write
simple_kind (goal.Raises x) = kind.Error

abbrev pub kind_of : GoalExpr → KindName
kind_of (SimpleGoal s) = simple_kind s
kind_of (CallGoal site q ys) = kind.Call
kind_of (HoCallGoal site f ys) = kind.ClosureCall
kind_of (ConjGoal ps) = kind.Conj
kind_of (DisjGoal ps) = kind.Disj
kind_of (IfGoal c t e) = kind.If
kind_of (NotGoal c) = kind.Not
kind_of (SomeGoal vs c) = kind.Some

abbrev mutual
  pub goal_rows : (place depth : ℕ) → HldsGoal → List GoalCount
  goal_rows n d (At l t) = record { place = n; depth = d; line = l; kind = kind_of t; turns = None } ∷ expr_rows (suc n) (suc d) t

  pub expr_rows : (place depth : ℕ) → GoalExpr → List GoalCount
  expr_rows n d (SimpleGoal s) = []
  expr_rows n d (CallGoal site q ys) = []
  expr_rows n d (HoCallGoal site f ys) = []
  expr_rows n d (ConjGoal ps) = each_rows n d ps
  expr_rows n d (DisjGoal ps) = each_rows n d ps
  expr_rows n d (IfGoal c t e) = goal_rows n d c ++ (goal_rows (n + goal_size c) d t ++ goal_rows (n + goal_size c + goal_size t) d e)
  expr_rows n d (NotGoal c) = goal_rows n d c
  expr_rows n d (SomeGoal vs c) = goal_rows n d c

  pub each_rows : (place depth : ℕ) → HldsGoals → List GoalCount
  each_rows n d nothing = []
  each_rows n d (also p ps) = goal_rows n d p ++ each_rows (n + goal_size p) d ps

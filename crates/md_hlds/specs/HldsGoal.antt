-- Goals as plain data, as the definitions read them: a goal of a program has the line of its first token, and what it
-- is, is its expression. The names are those of the goals of a high-level data structure (HLDS).
use Rattle.std.specs.Prelude.{ℕ, suc, ◌+◌, List, [], ◌∷◌, ◌++◌, length}
use Rattle.md_hlds.specs.declared.goal.Goal.{Goal}
use Rattle.md_hlds.specs.declared.goal.GoalKind.{GoalKind, True, Fail, Unify, Arith, Compare, WriteInt, WriteStr, Nl, Call, HoCall, Conj', Disj', If', Not', Some', Error, Row_of-Goal, end_of-Goal, more_of-Goal}
use Rattle.md_hlds.specs.declared.goal.Term.{Term}
use Rattle.md_hlds.specs.declared.goal.Op.{Op}
use Rattle.md_hlds.specs.declared.goal.Cmp.{Cmp}
use Rattle.md_hlds.specs.declared.goal.PredName.{PredName}

-- the goals with neither parts nor calls
pub data Simple : Type 0 where
  Succeeds : Simple
  Fails : Simple
  Unifies : (x : ℕ) (t : Term) → Simple
  Computes : (z a : ℕ) (op : Op) (b : ℕ) → Simple
  Compares : (a : ℕ) (cmp : Cmp) (b : ℕ) → Simple
  WritesInt : (x before after : ℕ) → Simple
  WritesText : (x before after : ℕ) → Simple
  EndsLine : (before after : ℕ) → Simple
  -- an exception with the bytes of a variable
  Raises : (x : ℕ) → Simple

mutual
  pub data HldsGoal : Type 0 where
    At : (line : ℕ) (t : GoalExpr) → HldsGoal

  pub data GoalExpr : Type 0 where
    -- a simple goal
    SimpleGoal : (s : Simple) → GoalExpr
    -- a call of a predicate at a site
    CallGoal : (site : ℕ) (q : PredName) (ys : List ℕ) → GoalExpr
    -- a call of the closure that the variable f has, at a site
    HoCallGoal : (site f : ℕ) (ys : List ℕ) → GoalExpr
    -- a conjunction
    ConjGoal : (ps : HldsGoals) → GoalExpr
    -- a disjunction
    DisjGoal : (ps : HldsGoals) → GoalExpr
    -- an if-then-else
    IfGoal : (c t e : HldsGoal) → GoalExpr
    -- a negation
    NotGoal : (c : HldsGoal) → GoalExpr
    -- a quantified goal, which is cut at its first solution
    SomeGoal : (vs : List ℕ) (c : HldsGoal) → GoalExpr

  pub data HldsGoals : Type 0 where
    nothing : HldsGoals
    also : (p : HldsGoal) (ps : HldsGoals) → HldsGoals

-- parts as a list
abbrev pub listed : HldsGoals → List HldsGoal
listed nothing = []
listed (also p ps) = p ∷ listed ps

-- a list as parts
abbrev pub gathered : List HldsGoal → HldsGoals
gathered [] = nothing
gathered (p ∷ ps) = also p (gathered ps)

abbrev mutual
  -- a goal of the program's type, as plain data
  pub expr_of : GoalKind → GoalExpr
  expr_of True = SimpleGoal Succeeds
  expr_of Fail = SimpleGoal Fails
  expr_of (Unify x t) = SimpleGoal (Unifies x t)
  expr_of (Arith z a op b) = SimpleGoal (Computes z a op b)
  expr_of (Compare a cmp b) = SimpleGoal (Compares a cmp b)
  expr_of (WriteInt x before after) = SimpleGoal (WritesInt x before after)
  expr_of (WriteStr x before after) = SimpleGoal (WritesText x before after)
  expr_of (Nl before after) = SimpleGoal (EndsLine before after)
  expr_of (Error x) = SimpleGoal (Raises x)
  expr_of (Call site q ys) = CallGoal site q ys
  expr_of (HoCall site f ys) = HoCallGoal site f ys
  expr_of (Conj' shape row) = ConjGoal (row_goals row)
  expr_of (Disj' shape row) = DisjGoal (row_goals row)
  expr_of (If' p l c q m t r n e) = IfGoal (At l (expr_of c)) (At m (expr_of t)) (At n (expr_of e))
  expr_of (Not' p l c) = NotGoal (At l (expr_of c))
  expr_of (Some' vs p l c) = SomeGoal vs (At l (expr_of c))

  pub row_goals : {n : _} → Row_of-Goal n → HldsGoals
  row_goals end_of-Goal = nothing
  row_goals (more_of-Goal l k rest) = also (At l (expr_of k)) (row_goals rest)

abbrev pub goal_of : Goal → HldsGoal
goal_of g = At g.line (expr_of g.kind)

-- the goals of a vector
abbrev pub goals_of : List Goal → List HldsGoal
goals_of [] = []
goals_of (g ∷ gs) = goal_of g ∷ goals_of gs

-- the lines of a goal's call sites, plain and higher-order, in text order
abbrev mutual
  pub site_lines : HldsGoal → List ℕ
  site_lines (At l t) = expr_lines l t

  pub expr_lines : ℕ → GoalExpr → List ℕ
  expr_lines l (SimpleGoal s) = []
  expr_lines l (CallGoal site q ys) = l ∷ []
  expr_lines l (HoCallGoal site f ys) = l ∷ []
  expr_lines l (ConjGoal ps) = goals_lines ps
  expr_lines l (DisjGoal ps) = goals_lines ps
  expr_lines l (IfGoal c t e) = site_lines c ++ (site_lines t ++ site_lines e)
  expr_lines l (NotGoal c) = site_lines c
  expr_lines l (SomeGoal vs c) = site_lines c

  pub goals_lines : HldsGoals → List ℕ
  goals_lines nothing = []
  goals_lines (also p ps) = site_lines p ++ goals_lines ps

-- how many goals a goal is: itself and its parts, with theirs
abbrev mutual
  pub goal_size : HldsGoal → ℕ
  goal_size (At l t) = suc (parts_size t)

  pub parts_size : GoalExpr → ℕ
  parts_size (SimpleGoal s) = 0
  parts_size (CallGoal site q ys) = 0
  parts_size (HoCallGoal site f ys) = 0
  parts_size (ConjGoal ps) = goals_size ps
  parts_size (DisjGoal ps) = goals_size ps
  parts_size (IfGoal c t e) = goal_size c + (goal_size t + goal_size e)
  parts_size (NotGoal c) = goal_size c
  parts_size (SomeGoal vs c) = goal_size c

  pub goals_size : HldsGoals → ℕ
  goals_size nothing = 0
  goals_size (also p ps) = goal_size p + goals_size ps

-- a goal and the goals within it, in text order, outer before inner
abbrev mutual
  pub goals_within : HldsGoal → List HldsGoal
  goals_within (At l t) = At l t ∷ goals_below t

  pub goals_below : GoalExpr → List HldsGoal
  goals_below (SimpleGoal s) = []
  goals_below (CallGoal site q ys) = []
  goals_below (HoCallGoal site f ys) = []
  goals_below (ConjGoal ps) = goals_among ps
  goals_below (DisjGoal ps) = goals_among ps
  goals_below (IfGoal c t e) = goals_within c ++ (goals_within t ++ goals_within e)
  goals_below (NotGoal c) = goals_within c
  goals_below (SomeGoal vs c) = goals_within c

  pub goals_among : HldsGoals → List HldsGoal
  goals_among nothing = []
  goals_among (also p ps) = goals_within p ++ goals_among ps

-- A goal with its number: goals are counted from 0 in text order over the file, outer before inner, and the parts of an
-- if-then-else are its condition, its then part and its else part.
pub record Numbered : Type 0 where
  pub number : ℕ
  pub goal : HldsGoal

abbrev pub numbered_goal : ℕ → HldsGoal → Numbered
numbered_goal n p = record { number = n; goal = p }

-- goals one after the other, the first of which has the number n
abbrev pub numbered_from : ℕ → HldsGoals → List Numbered
numbered_from n nothing = []
numbered_from n (also p ps) = numbered_goal n p ∷ numbered_from (n + goal_size p) ps

-- how many call sites a goal has
abbrev pub site_count : HldsGoal → ℕ
site_count p = length (site_lines p)

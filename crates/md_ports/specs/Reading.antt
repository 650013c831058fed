-- The call sites of a program as they are read off by the numbers of its goals, by which the names in them are told.
use Rattle.std.specs.Prelude.{ℕ, suc, ◌+◌, List, [], ◌∷◌, ◌++◌}
use Rattle.md_hlds.specs.HldsGoal.{HldsGoal, At, GoalExpr, SimpleGoal, CallGoal, HoCallGoal, ConjGoal, DisjGoal, IfGoal, NotGoal, SomeGoal, HldsGoals, nothing, also, goal_size}
use Rattle.md_hlds.specs.Hlds.{Procedure, Hlds}
use Rattle.md_names.specs.declared.named.Named.{Named}
use Rattle.md_names.specs.declared.named.Named.TheVariants as name
use Rattle.md_names.specs.Named.{name_at}
use Rattle.md_static.specs.declared.entry.Site.{Site}
use Rattle.md_static.specs.declared.entry.SiteKind.{SiteKind}
use Rattle.md_static.specs.declared.entry.SiteKind.TheVariants.{Plain, HigherOrder}
use Rattle.md_ports.specs.Ports.{site_at}

-- what a call calls, by what the name in it stands for
abbrev pub kind_named : Named → SiteKind
kind_named (name.Functor k) = HigherOrder
kind_named (name.Predicate q) = Plain q
kind_named name.Nothing = HigherOrder

-- what the goal of this number calls, where it is a call; a call of a closure has no name
abbrev pub kind_at : Hlds → ℕ → SiteKind
kind_at s n = kind_named (name_at s n)

-- the call sites of a goal of this number and of the goals within it
abbrev mutual
  pub read_goal : Hlds → (owner n : ℕ) → HldsGoal → List Site
  read_goal s owner n (At line t) = read_expr s owner line n t

  pub read_expr : Hlds → (owner line n : ℕ) → GoalExpr → List Site
  read_expr s owner line n (SimpleGoal g) = []
  read_expr s owner line n (CallGoal site q ys) = site_at owner line (kind_at s n) ∷ []
  read_expr s owner line n (HoCallGoal site f ys) = site_at owner line (kind_at s n) ∷ []
  read_expr s owner line n (ConjGoal ps) = read_goals s owner (n + 1) ps
  read_expr s owner line n (DisjGoal ps) = read_goals s owner (n + 1) ps
  read_expr s owner line n (IfGoal c t e) =
      read_goal s owner (n + 1) c ++ (read_goal s owner (n + 1 + goal_size c) t ++ read_goal s owner (n + 1 + goal_size c + goal_size t) e)
  read_expr s owner line n (NotGoal c) = read_goal s owner (n + 1) c
  read_expr s owner line n (SomeGoal vs c) = read_goal s owner (n + 1) c

  -- of goals one after the other, the first of which has the number n
  pub read_goals : Hlds → (owner n : ℕ) → HldsGoals → List Site
  read_goals s owner n nothing = []
  read_goals s owner n (also p ps) = read_goal s owner n p ++ read_goals s owner (n + goal_size p) ps

-- of these procedures' clauses: the first procedure has the number `owner`, and its body the number n
abbrev pub read_clauses : Hlds → (owner n : ℕ) → List Procedure → List Site
read_clauses s owner n [] = []
read_clauses s owner n (p ∷ ps) = read_goal s owner n p.body ++ read_clauses s (suc owner) (n + goal_size p.body) ps

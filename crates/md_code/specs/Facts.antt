-- What the code of a goal needs to know of the goals of a program before it is laid out, by their numbers.
use Rattle.std.specs.Prelude.{ℕ, suc, ◌+◌, ◌≡◌, Bool, true, false, ◌||◌, List, [], ◌∷◌, length, Option, Some, None, cond}
use Rattle.md_hlds.specs.declared.goal.Term.{Term}
use Rattle.md_hlds.specs.declared.goal.Term.TheVariants.{Name}
use Rattle.md_hlds.specs.HldsGoal.{Simple, Succeeds, Unifies, Computes, HldsGoal, At, GoalExpr, SimpleGoal, CallGoal, HoCallGoal, ConjGoal, DisjGoal, IfGoal, NotGoal, SomeGoal, HldsGoals, nothing, also, goal_size, goals_below, goals_lines, site_count}
use Rattle.md_hlds.specs.Hlds.{Procedure, Hlds, goal_at}
use Rattle.md_hlds.specs.Trace.{call_weight}
use Rattle.md_modes.specs.Notes.{Role, constructs, assigns, program_notes}
use Rattle.md_modes.specs.Classes.{role_at}
use Rattle.md_code.specs.declared.fact.Change.{Change}
use Rattle.md_code.specs.declared.fact.Fact.{Fact}
use Rattle.md_code.specs.declared.callee.Callee.{Callee}
use Rattle.md_code.specs.Leaves.{leaves, parts_leave}
use Rattle.md_code.specs.Tables.{heights_of, goals_heights}

-- these goals are those of a program, the first of which has the number n
abbrev pub Stand : Hlds → ℕ → List HldsGoal → Type 0
Stand s n [] = Unit {0}
Stand s n (g ∷ gs) = (goal_at s n ≡ Some g) × Stand s (suc n) gs

-- the goal of number n is that, with those within it
pub record Stands (s : Hlds) (n : ℕ) (t : GoalExpr) : Type 0 where
  pub line : ℕ
  pub own : goal_at s n ≡ Some (At line t)
  pub below : Stand s (suc n) (goals_below t)

-- ---- how what is pending changes at a goal

abbrev pub change : Bool → ℕ → Change
change keeps weight = record { keeps = keeps; weight = weight }

-- what was pending before is so behind, with a weight more; or it is charged, and a weight is pending
abbrev pub kept_with : ℕ → Change
kept_with weight = change true weight

abbrev pub charged_with : ℕ → Change
charged_with weight = change false weight

-- what is pending behind, where p is pending before
abbrev pub pending_behind : Change → (p : ℕ) → ℕ
pending_behind c p = cond c.keeps (p + c.weight) c.weight

-- one change and then another
abbrev pub then_change : Change → Change → Change
then_change c d = cond d.keeps (change c.keeps (c.weight + d.weight)) d

abbrev pub construction_change : Term → Change
construction_change (Name q (y ∷ ys)) = charged_with 0
construction_change t = kept_with 1

abbrev pub unification_change : Term → Option Role → Change
unification_change t (Some constructs) = construction_change t
unification_change t (Some (assigns to)) = kept_with 1
unification_change t r = charged_with 0

abbrev pub simple_change : Simple → Option Role → Change
simple_change Succeeds r = kept_with 1
simple_change (Unifies x t) r = unification_change t r
simple_change (Computes z a o b) r = kept_with 1
simple_change g r = charged_with 0

abbrev mutual
  pub change_of : Hlds → ℕ → HldsGoal → Change
  change_of s n (At l t) = expr_change s n t

  pub expr_change : Hlds → ℕ → GoalExpr → Change
  expr_change s n (SimpleGoal g) = simple_change g (role_at (program_notes s) n)
  expr_change s n (CallGoal site q ys) = charged_with 0
  expr_change s n (HoCallGoal site f ys) = charged_with 0
  expr_change s n (ConjGoal ps) = then_change (kept_with 1) (parts_change s (suc n) ps)
  expr_change s n (DisjGoal ps) = charged_with 0
  expr_change s n (IfGoal c t e) = charged_with 0
  expr_change s n (NotGoal c) = charged_with 0
  expr_change s n (SomeGoal vs c) = then_change (kept_with 1) (change_of s (suc n) c)

  pub parts_change : Hlds → ℕ → HldsGoals → Change
  parts_change s n nothing = kept_with 0
  parts_change s n (also g gs) = then_change (change_of s n g) (parts_change s (n + goal_size g) gs)

-- ---- facts

abbrev pub fact : Bool → (heights sites : ℕ) → Change → Fact
fact leaves heights sites change = record { leaves = leaves; heights = heights; sites = sites; change = change }

-- whether the goal of number n may leave a choice, how many heights it keeps, how many call sites it has, and its change
abbrev pub fact_of : Hlds → ℕ → HldsGoal → Fact
fact_of s n g = fact (leaves s n g) (heights_of s n g) (site_count g) (change_of s n g)

-- the same of goals one after the other
abbrev pub parts_fact : Hlds → ℕ → HldsGoals → Fact
parts_fact s n ps = fact (parts_leave s n ps) (goals_heights s n ps) (length (goals_lines ps)) (parts_change s n ps)

-- of one thing and then another
abbrev pub both_facts : Fact → Fact → Fact
both_facts a b = fact (a.leaves || b.leaves) (a.heights + b.heights) (a.sites + b.sites) (then_change a.change b.change)

abbrev pub no_fact : Fact
no_fact = fact false 0 0 (kept_with 0)

-- of goals, the first of which has the number n
abbrev pub facts_from : Hlds → ℕ → List HldsGoal → List Fact
facts_from s n [] = []
facts_from s n (g ∷ gs) = fact_of s n g ∷ facts_from s (suc n) gs

abbrev pub fact_if : Hlds → ℕ → Option HldsGoal → Fact
fact_if s n None = no_fact
fact_if s n (Some g) = fact_of s n g

-- of the goal of that number in the program
abbrev pub fact_at : Hlds → ℕ → Fact
fact_at s n = fact_if s n (goal_at s n)

-- ---- procedures that are called: the weight of a call, and the number of the body

abbrev pub callee : (weight body : ℕ) → Callee
callee weight body = record { weight = weight; body = body }

-- of procedures, the body of the first of which has the number n
abbrev pub callees_from : ℕ → List Procedure → List Callee
callees_from n [] = []
callees_from n (p ∷ ps) = callee (call_weight p) n ∷ callees_from (n + goal_size p.body) ps

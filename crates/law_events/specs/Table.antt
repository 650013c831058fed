-- The site table of a program: what its text fixes of its calls.
use Rattle.std.specs.Prelude.{⊤, ◌≡◌, ℕ, suc, ◌<◌, List, [], ◌∷◌, ◌++◌, length, map, Option, Some, None}
use Rattle.md_hlds.specs.HldsGoal.{HldsGoal, At, GoalExpr, SimpleGoal, CallGoal, HoCallGoal, ConjGoal, DisjGoal, IfGoal, NotGoal, SomeGoal, HldsGoals, nothing, also}
use Rattle.md_hlds.specs.Hlds.{Hlds, Procedure, procedure_called}
use Rattle.md_hlds.specs.Run.{main_name}
use Rattle.md_trace.specs.PortHistory.{CallSite, SiteTable}

-- the number of a procedure that was looked up
abbrev pub number_of : Option (ℕ × Procedure) → Option ℕ
number_of None = None
number_of (Some q) = Some q.0

-- a call site beside the number that its goal names: the procedure that has it, and the one that it calls
abbrev pub named_site : ℕ → ℕ → Option ℕ → ℕ × CallSite
named_site site owner callee = (site, record { owner = owner; callee = callee })

-- the call sites of a goal of this procedure, in text order
abbrev mutual
  pub goal_sites : Hlds → ℕ → HldsGoal → List (ℕ × CallSite)
  goal_sites s owner (At l t) = expr_sites s owner t

  pub expr_sites : Hlds → ℕ → GoalExpr → List (ℕ × CallSite)
  expr_sites s owner (SimpleGoal g) = []
  expr_sites s owner (CallGoal site q ys) = named_site site owner (number_of (procedure_called s q)) ∷ []
  expr_sites s owner (HoCallGoal site f ys) = named_site site owner None ∷ []
  expr_sites s owner (ConjGoal ps) = goals_sites s owner ps
  expr_sites s owner (DisjGoal ps) = goals_sites s owner ps
  expr_sites s owner (IfGoal c t e) = goal_sites s owner c ++ (goal_sites s owner t ++ goal_sites s owner e)
  expr_sites s owner (NotGoal c) = goal_sites s owner c
  expr_sites s owner (SomeGoal vs c) = goal_sites s owner c

  pub goals_sites : Hlds → ℕ → HldsGoals → List (ℕ × CallSite)
  goals_sites s owner nothing = []
  goals_sites s owner (also p ps) = goal_sites s owner p ++ goals_sites s owner ps

-- the call sites of these procedures, the first of which has the number n, in text order
abbrev pub clause_sites : Hlds → ℕ → List Procedure → List (ℕ × CallSite)
clause_sites s n [] = []
clause_sites s n (p ∷ ps) = goal_sites s n p.body ++ clause_sites s (suc n) ps

abbrev pub program_sites : Hlds → List (ℕ × CallSite)
program_sites s = clause_sites s 0 s.procedures

-- the number of main, where it is declared
abbrev pub number_or_zero : Option ℕ → ℕ
number_or_zero None = 0
number_or_zero (Some n) = n

-- the site of a number beside it
abbrev pub site_alone : ℕ × CallSite → CallSite
site_alone x = x.1

-- The site table of a program. A plain call of a predicate that isn't declared has no callee there.
abbrev pub site_table : Hlds → SiteTable
site_table s = record {
  main = number_or_zero (number_of (procedure_called s main_name));
  procedures = length s.procedures;
  sites = map site_alone (program_sites s);
}

-- these sites have the numbers n, n + 1 and so on
abbrev pub AreNumberedFrom : ℕ → List (ℕ × CallSite) → Type 0
AreNumberedFrom n [] = ⊤
AreNumberedFrom n (x ∷ xs) = (x.0 ≡ n) × AreNumberedFrom (suc n) xs

-- the goals of a program name its sites, which are numbered from 0 in text order over the file
abbrev pub HasSites : Hlds → Type 0
HasSites s = AreNumberedFrom 0 (program_sites s)

-- a predicate `main` is declared, and its clause has a variable, as one with an io state has
pub record HasMain (s : Hlds) : Type 0 where
  pub number : ℕ
  pub procedure : Procedure
  pub called : procedure_called s main_name ≡ Some (number, procedure)
  pub variable : 0 < length procedure.vars

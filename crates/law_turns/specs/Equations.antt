-- The equations between how often each goal of a procedure is entered and left, and its counts of ports.
use Rattle.std.specs.Prelude.{⊤, ◌≡◌, ◌≤◌, ℕ, zero, suc, ◌+◌, Bool, true, false, List, [], ◌∷◌, ◌++◌, map, Option, Some, None}
use Rattle.md_hlds.specs.HldsGoal.{Simple, Fails, Raises, HldsGoal, At, GoalExpr, SimpleGoal, CallGoal, HoCallGoal, ConjGoal, DisjGoal, IfGoal, NotGoal, SomeGoal, HldsGoals, nothing, also, goal_size}
use Rattle.md_hlds.specs.Hlds.{Procedure, Hlds, body_number}
use Rattle.md_det.specs.declared.finding.Finding.{Finding}
use Rattle.md_det.specs.declared.finding.Switch.{Switch}
use Rattle.md_det.specs.Findings.{program_findings, switch_at, pair_at}
use Rattle.law_turns.specs.Counts.{PortCounts}

-- how often the goal of a number is entered, and how often it is left with a solution
pub data Quantity : Type 0 where
  Entries : (goal : ℕ) → Quantity
  Exits : (goal : ℕ) → Quantity

-- The whole is the sum of the parts and the number.
pub record Equation : Type 0 where
  pub whole : Quantity
  pub parts : List Quantity
  pub number : ℕ

abbrev pub sums : Quantity → List Quantity → Equation
sums whole parts = record { whole = whole; parts = parts; number = 0 }

abbrev pub equals : Quantity → Quantity → Equation
equals a b = sums a (b ∷ [])

abbrev pub is_count : Quantity → ℕ → Equation
is_count a n = record { whole = a; parts = []; number = n }

-- the numbers of goals one after the other, the first of which has the number n
abbrev pub numbers_from : ℕ → HldsGoals → List ℕ
numbers_from n nothing = []
numbers_from n (also p ps) = n ∷ numbers_from (n + goal_size p) ps

-- ---- one goal

-- it succeeds exactly once, by the pair that the checks find there
abbrev pub if_one : ℕ → Option (Bool × ℕ) → List Equation
if_one n (Some (false, suc zero)) = equals (Exits n) (Entries n) ∷ []
if_one n p = []

abbrev pub simple_equations : List Finding → ℕ → Simple → List Equation
simple_equations fs n Fails = is_count (Exits n) 0 ∷ []
simple_equations fs n (Raises x) = is_count (Entries n) 0 ∷ is_count (Exits n) 0 ∷ []
simple_equations fs n g = if_one n (pair_at fs n)

abbrev pub call_equations : PortCounts → ℕ → ℕ → List Equation
call_equations c n site = is_count (Entries n) (c.site_calls site) ∷ is_count (Exits n) (c.site_exits site) ∷ []

-- a disjunction that isn't a switch enters its first arm
abbrev pub first_arm : ℕ → List ℕ → List Equation
first_arm n [] = []
first_arm n (m ∷ ms) = equals (Entries m) (Entries n) ∷ []

-- a switch with no functor missing enters one arm
abbrev pub one_arm : ℕ → List ℕ → Bool → List Equation
one_arm n ms true = sums (Entries n) (map Entries ms) ∷ []
one_arm n ms false = []

abbrev pub entering : ℕ → List ℕ → Option Switch → List Equation
entering n ms None = first_arm n ms
entering n ms (Some w) = []

abbrev pub choosing : ℕ → List ℕ → Option Switch → List Equation
choosing n ms None = []
choosing n ms (Some w) = one_arm n ms w.whole

-- an if-then-else of number n with the condition p, the then part t and the else part e, and the equations of these
abbrev pub if_equations : (n p t e : ℕ) → (of_p of_t of_e : List Equation) → List Equation
if_equations n p t e of_p of_t of_e =
    equals (Entries p) (Entries n)
    ∷ (of_p
    ++ equals (Entries t) (Exits p)
    ∷ (of_t
    ++ sums (Entries n) (Entries t ∷ Entries e ∷ [])
    ∷ (of_e
    ++ sums (Exits n) (Exits t ∷ Exits e ∷ [])
    ∷ [])))

-- ---- a goal and its parts

abbrev mutual
  pub goal_equations : List Finding → PortCounts → ℕ → HldsGoal → List Equation
  goal_equations fs c n (At l t) = expr_equations fs c n t

  pub expr_equations : List Finding → PortCounts → ℕ → GoalExpr → List Equation
  expr_equations fs c n (SimpleGoal g) = simple_equations fs n g
  expr_equations fs c n (CallGoal site q ys) = call_equations c n site
  expr_equations fs c n (HoCallGoal site f ys) = call_equations c n site
  expr_equations fs c n (ConjGoal ps) = each_equations fs c n (Entries n) (suc n) ps
  expr_equations fs c n (DisjGoal ps) =
      entering n (numbers_from (suc n) ps) (switch_at fs n)
      ++ (arm_equations fs c (suc n) ps ++ sums (Exits n) (map Exits (numbers_from (suc n) ps)) ∷ choosing n (numbers_from (suc n) ps) (switch_at fs n))
  expr_equations fs c n (IfGoal p t e) =
      if_equations n (suc n) (suc n + goal_size p) (suc n + goal_size p + goal_size t)
      (goal_equations fs c (suc n) p) (goal_equations fs c (suc n + goal_size p) t) (goal_equations fs c (suc n + goal_size p + goal_size t) e)
  expr_equations fs c n (NotGoal p) =
      equals (Entries (suc n)) (Entries n) ∷ (goal_equations fs c (suc n) p ++ sums (Entries n) (Exits n ∷ Exits (suc n) ∷ []) ∷ [])
  expr_equations fs c n (SomeGoal vs p) =
      equals (Entries (suc n)) (Entries n) ∷ (goal_equations fs c (suc n) p ++ equals (Exits n) (Exits (suc n)) ∷ [])

  -- the parts, from number m on, of the conjunction of number n: each is entered as often as `before`, and the conjunction
  -- is left as often as its last part
  pub each_equations : List Finding → PortCounts → ℕ → Quantity → ℕ → HldsGoals → List Equation
  each_equations fs c n before m nothing = equals (Exits n) before ∷ []
  each_equations fs c n before m (also p ps) =
      equals (Entries m) before ∷ (goal_equations fs c m p ++ each_equations fs c n (Exits m) (m + goal_size p) ps)

  pub arm_equations : List Finding → PortCounts → ℕ → HldsGoals → List Equation
  arm_equations fs c m nothing = []
  arm_equations fs c m (also p ps) = goal_equations fs c m p ++ arm_equations fs c (m + goal_size p) ps

-- ---- a procedure

-- the equations of the goals of a procedure of that number, where these are the findings and the counts of ports
abbrev pub procedure_equations : List Finding → PortCounts → (first number : ℕ) → Procedure → List Equation
procedure_equations fs c first q p =
    is_count (Entries first) (c.procedure_calls q) ∷ is_count (Exits first) (c.procedure_exits q) ∷ goal_equations fs c first p.body

abbrev pub equations : Hlds → PortCounts → ℕ × Procedure → List Equation
equations s c q = procedure_equations (program_findings s) c (body_number s q.0) q.0 q.1

-- ---- solutions

-- numbers of entries and exits, by goal
pub record Solution : Type 0 where
  pub entries : ℕ → ℕ
  pub exits : ℕ → ℕ

abbrev pub value : Solution → Quantity → ℕ
value x (Entries n) = x.entries n
value x (Exits n) = x.exits n

abbrev pub total : Solution → List Quantity → ℕ
total x [] = 0
total x (q ∷ qs) = value x q + total x qs

abbrev pub Holds : Solution → Equation → Type 0
Holds x e = value x e.whole ≡ total x e.parts + e.number

abbrev pub Solves : Solution → List Equation → Type 0
Solves x [] = ⊤
Solves x (e ∷ es) = Holds x e × Solves x es

-- each whole is at most this
abbrev pub AreWithin : ℕ → Solution → List Equation → Type 0
AreWithin most x [] = ⊤
AreWithin most x (e ∷ es) = (value x e.whole ≤ most) × AreWithin most x es

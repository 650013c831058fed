-- The equations of a goal are about goals whose numbers are the goal's own and those within it.
use Rattle.std.proofs.Common.{◌≡◌, refl, arith, ℕ, zero, suc, ◌+◌, ◌<◌, ◌≤◌, Bool, true, false, List, [], ◌∷◌, ◌++◌, map, Option, Some, None}
use Rattle.std.specs.Prelude.{⊤}
use Rattle.md_hlds.specs.HldsGoal.{Simple, Succeeds, Fails, Unifies, Computes, Compares, WritesInt, WritesText, EndsLine, Raises, HldsGoal, At, GoalExpr, SimpleGoal, CallGoal, HoCallGoal, ConjGoal, DisjGoal, IfGoal, NotGoal, SomeGoal, HldsGoals, nothing, also, goal_size, parts_size, goals_size}
use Rattle.md_hlds.specs.Hlds.{Procedure}
use Rattle.md_det.specs.declared.finding.Finding.{Finding}
use Rattle.md_det.specs.declared.finding.Switch.{Switch}
use Rattle.md_det.specs.Findings.{switch_at, pair_at}
use Rattle.law_turns.specs.Counts.{PortCounts}
use Rattle.law_turns.specs.Equations.{Quantity, Entries, Exits, Equation, sums, numbers_from, if_one, simple_equations, one_arm, entering, choosing, goal_equations, expr_equations, each_equations, arm_equations, procedure_equations}

abbrev pub number_of : Quantity → ℕ
number_of (Entries n) = n
number_of (Exits n) = n

-- the goal of a quantity has one of the numbers from `low` up to `high`
abbrev pub IsIn : (low high : ℕ) → Quantity → Type 0
IsIn low high q = (low ≤ number_of q) × (number_of q < high)

abbrev pub AllIn : (low high : ℕ) → List Quantity → Type 0
AllIn low high [] = ⊤
AllIn low high (q ∷ qs) = IsIn low high q × AllIn low high qs

abbrev pub AreIn : (low high : ℕ) → List Equation → Type 0
AreIn low high [] = ⊤
AreIn low high (e ∷ es) = AllIn low high (e.whole ∷ e.parts) × AreIn low high es

size_positive : (p : HldsGoal) → 0 < goal_size p
size_positive (At l t) = omega arith

module _ (fs : List Finding) (c : PortCounts) (low high : ℕ) where
  abbrev In : List Equation → Type 0
  In es = AreIn low high es

  abbrev Is : Quantity → Type 0
  Is q = IsIn low high q

  in_append : (es fs : List Equation) → In es → In fs → In (es ++ fs)
  in_append [] fs h g = g
  in_append (e ∷ es) fs h g = (h.0, in_append es fs h.1 g)

  one_in : (n : ℕ) (p : Option (Bool × ℕ)) → Is (Entries n) → In (if_one n p)
  one_in n None h = tt
  one_in n (Some (true, b)) h = tt
  one_in n (Some (false, zero)) h = tt
  one_in n (Some (false, suc zero)) h = ((h, (h, tt)), tt)
  one_in n (Some (false, suc (suc b))) h = tt

  simple_in : (n : ℕ) (g : Simple) → Is (Entries n) → In (simple_equations fs n g)
  simple_in n Fails h = ((h, tt), tt)
  simple_in n (Raises y) h = ((h, tt), ((h, tt), tt))
  simple_in n Succeeds h = one_in n (pair_at fs n) h
  simple_in n (Unifies y t) h = one_in n (pair_at fs n) h
  simple_in n (Computes z a op b) h = one_in n (pair_at fs n) h
  simple_in n (Compares a op b) h = one_in n (pair_at fs n) h
  simple_in n (WritesInt y a b) h = one_in n (pair_at fs n) h
  simple_in n (WritesText y a b) h = one_in n (pair_at fs n) h
  simple_in n (EndsLine a b) h = one_in n (pair_at fs n) h

  -- the parts of a goal, from number m on
  numbers_in : (f : ℕ → Quantity) → ((n : ℕ) → number_of (f n) ≡ n) → (m : ℕ) (ps : HldsGoals) → low ≤ m → m + goals_size ps ≤ high → AllIn low high (map f (numbers_from m ps))
  numbers_in f is m nothing first last = tt
  numbers_in f is m (also p ps) first last =
      let at = is m in let some = size_positive p in ((omega (arith, at, first), omega (arith, at, some, last)), numbers_in f is (m + goal_size p) ps (omega (arith, first)) (omega (arith, last)))

  whole_in : (n : ℕ) (m : ℕ) (ps : HldsGoals) (w : Bool) → Is (Entries n) → low ≤ m → m + goals_size ps ≤ high → In (one_arm n (numbers_from m ps) w)
  whole_in n m ps true h first last = ((h, numbers_in (λ k. Entries k) (λ k. refl) m ps first last), tt)
  whole_in n m ps false h first last = tt

  entering_in : (n m : ℕ) (ps : HldsGoals) (w : Option Switch) → Is (Entries n) → low ≤ m → m + goals_size ps ≤ high → In (entering n (numbers_from m ps) w)
  entering_in n m nothing None h first last = tt
  entering_in n m (also p ps) None h first last = let some = size_positive p in (((omega (arith, first), omega (arith, some, last)), (h, tt)), tt)
  entering_in n m ps (Some w) h first last = tt

  choosing_in : (n m : ℕ) (ps : HldsGoals) (w : Option Switch) → Is (Entries n) → low ≤ m → m + goals_size ps ≤ high → In (choosing n (numbers_from m ps) w)
  choosing_in n m ps None h first last = tt
  choosing_in n m ps (Some w) h first last = whole_in n m ps w.whole h first last

  mutual
    pub goal_in : (n : ℕ) (p : HldsGoal) → low ≤ n → n + goal_size p ≤ high → In (goal_equations fs c n p)
    goal_in n (At l t) first last = expr_in n t first (omega (arith, last))

    expr_in : (n : ℕ) (t : GoalExpr) → low ≤ n → suc n + parts_size t ≤ high → In (expr_equations fs c n t)
    expr_in n (SimpleGoal s) first last = simple_in n s (first, omega (arith, last))
    expr_in n (CallGoal site q ys) first last = let h : Is (Entries n) = (first, omega (arith, last)) in ((h, tt), ((h, tt), tt))
    expr_in n (HoCallGoal site f ys) first last = let h : Is (Entries n) = (first, omega (arith, last)) in ((h, tt), ((h, tt), tt))
    expr_in n (ConjGoal ps) first last =
        let h : Is (Entries n) = (first, omega (arith, last)) in each_in n (Entries n) (suc n) ps h h (omega (arith, first)) (omega (arith, last))
    expr_in n (DisjGoal ps) first last =
        let h : Is (Entries n) = (first, omega (arith, last)) in
        let after : low ≤ suc n = omega (arith, first) in
        let enter : List Equation = entering n (numbers_from (suc n) ps) (switch_at fs n) in
        let arms : List Equation = arm_equations fs c (suc n) ps in
        let exits : Equation = sums (Exits n) (map Exits (numbers_from (suc n) ps)) in
        in_append enter (arms ++ exits ∷ choosing n (numbers_from (suc n) ps) (switch_at fs n)) (entering_in n (suc n) ps (switch_at fs n) h after last)
        (in_append arms (exits ∷ choosing n (numbers_from (suc n) ps) (switch_at fs n)) (arms_in (suc n) ps after last)
        ((h, numbers_in (λ k. Exits k) (λ k. refl) (suc n) ps after last), choosing_in n (suc n) ps (switch_at fs n) h after last))
    expr_in n (IfGoal p t e) first last =
        let m : ℕ = suc n + goal_size p in let k : ℕ = suc n + goal_size p + goal_size t in
        let a = size_positive p in let b = size_positive t in let d = size_positive e in
        let h : Is (Entries n) = (first, omega (arith, last)) in
        let asked : Is (Entries (suc n)) = (omega (arith, first), omega (arith, last, a)) in
        let held : Is (Entries m) = (omega (arith, first), omega (arith, last, b)) in
        let lapsed : Is (Entries k) = (omega (arith, first), omega (arith, last, d)) in (
          (asked, (h, tt)),
          in_append (goal_equations fs c (suc n) p) _ (goal_in (suc n) p (omega (arith, first)) (omega (arith, last))) (
            (held, (asked, tt)),
            in_append (goal_equations fs c m t) _ (goal_in m t (omega (arith, first)) (omega (arith, last))) (
              (h, (held, (lapsed, tt))),
              in_append (goal_equations fs c k e) _ (goal_in k e (omega (arith, first)) (omega (arith, last))) ((h, (held, (lapsed, tt))), tt),
            ),
          ),
        )
    expr_in n (NotGoal p) first last =
        let a = size_positive p in
        let h : Is (Entries n) = (first, omega (arith, last)) in
        let asked : Is (Entries (suc n)) = (omega (arith, first), omega (arith, last, a)) in
        ((asked, (h, tt)), in_append (goal_equations fs c (suc n) p) _ (goal_in (suc n) p (omega (arith, first)) last) ((h, (h, (asked, tt))), tt))
    expr_in n (SomeGoal vs p) first last =
        let a = size_positive p in
        let h : Is (Entries n) = (first, omega (arith, last)) in
        let asked : Is (Entries (suc n)) = (omega (arith, first), omega (arith, last, a)) in
        ((asked, (h, tt)), in_append (goal_equations fs c (suc n) p) _ (goal_in (suc n) p (omega (arith, first)) last) ((h, (asked, tt)), tt))

    each_in : (n : ℕ) (before : Quantity) (m : ℕ) (ps : HldsGoals) → Is (Exits n) → Is before → low ≤ m → m + goals_size ps ≤ high → In (each_equations fs c n before m ps)
    each_in n before m nothing h g first last = ((h, (g, tt)), tt)
    each_in n before m (also p ps) h g first last =
        let some = size_positive p in
        let here : Is (Entries m) = (first, omega (arith, some, last)) in (
          (here, (g, tt)),
          in_append (goal_equations fs c m p) _ (goal_in m p first (omega (arith, last))) (each_in n (Exits m) (m + goal_size p) ps h here (omega (arith, first)) (omega (arith, last))),
        )

    arms_in : (m : ℕ) (ps : HldsGoals) → low ≤ m → m + goals_size ps ≤ high → In (arm_equations fs c m ps)
    arms_in m nothing first last = tt
    arms_in m (also p ps) first last =
        in_append (goal_equations fs c m p) _ (goal_in m p first (omega (arith, last))) (arms_in (m + goal_size p) ps (omega (arith, first)) (omega (arith, last)))

-- the equations of a procedure are about its goals
pub procedure_in : (fs : List Finding) (c : PortCounts) (first q : ℕ) (p : Procedure) → AreIn first (first + goal_size p.body) (procedure_equations fs c first q p)
procedure_in fs c first q p =
    let some = size_positive p.body in
    let h : IsIn first (first + goal_size p.body) (Entries first) = (omega arith, omega (arith, some)) in
    ((h, tt), ((h, tt), goal_in fs c first (first + goal_size p.body) first p.body (omega arith) (omega arith)))

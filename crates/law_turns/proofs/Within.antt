-- In a solution no goal is left more often than some goal is entered or the procedure is left.
use Rattle.std.proofs.Common.{arith, ℕ, zero, suc, ◌+◌, ◌≤◌, Bool, true, false, List, [], ◌∷◌, ◌++◌, map, Option, Some, None}
use Rattle.md_hlds.specs.HldsGoal.{Simple, Succeeds, Fails, Unifies, Computes, Compares, WritesInt, WritesText, EndsLine, Raises, HldsGoal, At, GoalExpr, SimpleGoal, CallGoal, HoCallGoal, ConjGoal, DisjGoal, IfGoal, NotGoal, SomeGoal, HldsGoals, nothing, also, goal_size}
use Rattle.md_hlds.specs.Hlds.{Procedure, Hlds, body_number}
use Rattle.md_det.specs.declared.finding.Finding.{Finding}
use Rattle.md_det.specs.declared.finding.Switch.{Switch}
use Rattle.md_det.specs.Findings.{program_findings, switch_at, pair_at}
use Rattle.law_turns.specs.Counts.{PortCounts}
use Rattle.law_turns.specs.Equations.{Quantity, Entries, Exits, Equation, numbers_from, if_one, simple_equations, one_arm, entering, choosing, goal_equations, expr_equations, each_equations, arm_equations, equations, Solution, value, total, Solves, AreWithin}

solves_split : (x : Solution) (es fs : List Equation) → Solves x (es ++ fs) → Solves x es × Solves x fs
solves_split x [] fs h = (tt, h)
solves_split x (e ∷ es) fs h = let more = solves_split x es fs h.1 in ((h.0, more.0), more.1)

within_append : (most : ℕ) (x : Solution) (es fs : List Equation) → AreWithin most x es → AreWithin most x fs → AreWithin most x (es ++ fs)
within_append most x [] fs h g = g
within_append most x (e ∷ es) fs h g = (h.0, within_append most x es fs h.1 g)

module _ (fs : List Finding) (c : PortCounts) (x : Solution) (most : ℕ) (entered : (n : ℕ) → x.entries n ≤ most) where
  abbrev Within : List Equation → Type 0
  Within es = AreWithin most x es

  one_within : (n : ℕ) (p : Option (Bool × ℕ)) → x.exits n ≤ most → Within (if_one n p)
  one_within n None h = tt
  one_within n (Some (true, b)) h = tt
  one_within n (Some (false, zero)) h = tt
  one_within n (Some (false, suc zero)) h = (h, tt)
  one_within n (Some (false, suc (suc b))) h = tt

  simple_within : (n : ℕ) (g : Simple) → x.exits n ≤ most → Within (simple_equations fs n g)
  simple_within n Fails h = (h, tt)
  simple_within n (Raises y) h = (entered n, (h, tt))
  simple_within n Succeeds h = one_within n (pair_at fs n) h
  simple_within n (Unifies y t) h = one_within n (pair_at fs n) h
  simple_within n (Computes z a op b) h = one_within n (pair_at fs n) h
  simple_within n (Compares a op b) h = one_within n (pair_at fs n) h
  simple_within n (WritesInt y a b) h = one_within n (pair_at fs n) h
  simple_within n (WritesText y a b) h = one_within n (pair_at fs n) h
  simple_within n (EndsLine a b) h = one_within n (pair_at fs n) h

  whole_within : (n : ℕ) (ms : List ℕ) (w : Bool) → Within (one_arm n ms w)
  whole_within n ms true = (entered n, tt)
  whole_within n ms false = tt

  entering_within : (n : ℕ) (ms : List ℕ) (w : Option Switch) → Within (entering n ms w)
  entering_within n [] None = tt
  entering_within n (m ∷ ms) None = (entered m, tt)
  entering_within n ms (Some w) = tt

  choosing_within : (n : ℕ) (ms : List ℕ) (w : Option Switch) → Within (choosing n ms w)
  choosing_within n ms None = tt
  choosing_within n ms (Some w) = whole_within n ms w.whole

  -- what comes before these parts of a conjunction is as often as the first of them, or as the conjunction's end
  before_within : (n : ℕ) (before : Quantity) (m : ℕ) (ps : HldsGoals) → Solves x (each_equations fs c n before m ps) → x.exits n ≤ most → value x before ≤ most
  before_within n before m nothing h g = let is = h.0 in omega (arith, is, g)
  before_within n before m (also p ps) h g = let is = h.0 in let e = entered m in omega (arith, is, e)

  mutual
    goal_within : (n : ℕ) (p : HldsGoal) → Solves x (goal_equations fs c n p) → x.exits n ≤ most → Within (goal_equations fs c n p)
    goal_within n (At l t) h g = expr_within n t h g

    expr_within : (n : ℕ) (t : GoalExpr) → Solves x (expr_equations fs c n t) → x.exits n ≤ most → Within (expr_equations fs c n t)
    expr_within n (SimpleGoal s) h g = simple_within n s g
    expr_within n (CallGoal site q ys) h g = (entered n, (g, tt))
    expr_within n (HoCallGoal site f ys) h g = (entered n, (g, tt))
    expr_within n (ConjGoal ps) h g = each_within n (Entries n) (suc n) ps h g
    expr_within n (DisjGoal ps) h g =
        let enter : List Equation = entering n (numbers_from (suc n) ps) (switch_at fs n) in
        let arms : List Equation = arm_equations fs c (suc n) ps in
        let first = solves_split x enter _ h in
        let second = solves_split x arms _ first.1 in
        let is = second.1.0 in
        within_append most x enter _ (entering_within n (numbers_from (suc n) ps) (switch_at fs n)) (within_append most x arms _ (arms_within (suc n) ps second.0 (omega (arith, is, g))) (g, choosing_within n (numbers_from (suc n) ps) (switch_at fs n)))
    expr_within n (IfGoal p t e) h g =
        let m : ℕ = suc n + goal_size p in let k : ℕ = suc n + goal_size p + goal_size t in
        let first = solves_split x (goal_equations fs c (suc n) p) _ h.1 in
        let second = solves_split x (goal_equations fs c m t) _ first.1.1 in
        let third = solves_split x (goal_equations fs c k e) _ second.1.1 in
        let asked = first.1.0 in let left = third.1.0 in let then' = entered m in (
          entered (suc n),
          within_append most x (goal_equations fs c (suc n) p) _ (goal_within (suc n) p first.0 (omega (arith, asked, then'))) (
            entered m,
            within_append most x (goal_equations fs c m t) _ (goal_within m t second.0 (omega (arith, left, g)))
                (entered n, within_append most x (goal_equations fs c k e) _ (goal_within k e third.0 (omega (arith, left, g))) (g, tt)),
          ),
        )
    expr_within n (NotGoal p) h g =
        let split = solves_split x (goal_equations fs c (suc n) p) _ h.1 in
        let left = split.1.0 in let e = entered n in
        (entered (suc n), within_append most x (goal_equations fs c (suc n) p) _ (goal_within (suc n) p split.0 (omega (arith, left, e))) (entered n, tt))
    expr_within n (SomeGoal vs p) h g =
        let split = solves_split x (goal_equations fs c (suc n) p) _ h.1 in
        let left = split.1.0 in
        (entered (suc n), within_append most x (goal_equations fs c (suc n) p) _ (goal_within (suc n) p split.0 (omega (arith, left, g))) (g, tt))

    each_within : (n : ℕ) (before : Quantity) (m : ℕ) (ps : HldsGoals) → Solves x (each_equations fs c n before m ps) → x.exits n ≤ most → Within (each_equations fs c n before m ps)
    each_within n before m nothing h g = (g, tt)
    each_within n before m (also p ps) h g =
        let split = solves_split x (goal_equations fs c m p) (each_equations fs c n (Exits m) (m + goal_size p) ps) h.1 in
        (entered m, within_append most x (goal_equations fs c m p) _ (goal_within m p split.0 (before_within n (Exits m) (m + goal_size p) ps split.1 g)) (each_within n (Exits m) (m + goal_size p) ps split.1 g))

    arms_within : (m : ℕ) (ps : HldsGoals) → Solves x (arm_equations fs c m ps) → total x (map Exits (numbers_from m ps)) ≤ most → Within (arm_equations fs c m ps)
    arms_within m nothing h g = tt
    arms_within m (also p ps) h g =
        let split = solves_split x (goal_equations fs c m p) (arm_equations fs c (m + goal_size p) ps) h in
        within_append most x (goal_equations fs c m p) _ (goal_within m p split.0 (omega (arith, g))) (arms_within (m + goal_size p) ps split.1 (omega (arith, g)))

pub are_within : (s : Hlds) (c : PortCounts) (x : Solution) (most : ℕ) (q : ℕ × Procedure) → ((n : ℕ) → x.entries n ≤ most) → c.procedure_exits q.0 ≤ most → Solves x (equations s c q) → AreWithin most x (equations s c q)
are_within s c x most q entered left h =
    let is = h.1.0 in
    let left' : x.exits (body_number s q.0) ≤ most = omega (arith, is, left) in
    (entered (body_number s q.0), (left', goal_within (program_findings s) c x most entered (body_number s q.0) q.1.body h.1.1 left'))

-- Goals that stand in a program, and how many there are.
use Rattle.std.proofs.Common.{◌≡◌, refl, ap, ◌∙◌, sym, subst, arith, ℕ, zero, suc, ◌+◌, ◌≤◌, List, [], ◌∷◌, ◌++◌, length, Vec, Box, Some, slice_get}
use Rattle.std.specs.declared.alloc.Global.{Global}
use Rattle.md_hlds.specs.declared.goal.Goal.{Goal}
use Rattle.md_hlds.specs.declared.goal.GoalKind.{GoalKind, Conj, Disj, If, Not, Some as Quantified}
use Rattle.md_hlds.specs.HldsGoal.{HldsGoal, At, GoalExpr, ConjGoal, DisjGoal, IfGoal, NotGoal, SomeGoal, HldsGoals, also, expr_of, goal_of, goals_of, gathered, goal_size, goals_within, goals_below, goals_among}
use Rattle.md_hlds.specs.Hlds.{Hlds, Procedure, goals_before, goal_at}
use Rattle.md_hlds.proofs.Bridge.{expr_of-Conj, expr_of-Disj}
use Rattle.md_hlds.proofs.SiteLemmas.{found_in_first, found_in_second}
use Rattle.md_modes.specs.Classes.{size_of, size_at}
use Rattle.md_feedback.specs.Search.{StandsFrom}
use Rattle.md_feedback.proofs.Members.{some_is}
use Rattle.md_feedback.proofs.Within.{length-within, goal_there}

-- ---- some of them

stands-first : (s : Hlds) (n : ℕ) (gs hs : List HldsGoal) → StandsFrom s n (gs ++ hs) → StandsFrom s n gs
stands-first s n gs hs all m p at = all m p (found_in_first gs hs m p at)

stands-second : (s : Hlds) (n k : ℕ) (gs hs : List HldsGoal) → k ≡ n + length gs → StandsFrom s n (gs ++ hs) → StandsFrom s k hs
stands-second s n k gs hs is all m p at =
    let same : n + (length gs + m) ≡ k + m = omega (arith, is) in
    subst (λ (i : ℕ). goal_at s i ≡ Some p) same (all (length gs + m) p (found_in_second gs hs m (length gs + m) p refl at))

-- those within a goal
pub stands-below : (s : Hlds) (n l : ℕ) (t u : GoalExpr) → t ≡ u → StandsFrom s n (goals_within (At l t)) → StandsFrom s (n + 1) (goals_below u)
stands-below s n l t u is all =
    subst (λ (v : GoalExpr). StandsFrom s (n + 1) (goals_below v)) is
    (λ m p at. let same : n + suc m ≡ n + 1 + m = omega arith in subst (λ (i : ℕ). goal_at s i ≡ Some p) same (all (suc m) p at))

-- a goal, and those behind it
pub stands-apart : (s : Hlds) (n k : ℕ) (p : HldsGoal) (gs : List HldsGoal) → k ≡ n + goal_size p → StandsFrom s n (goals_within p ++ gs) → StandsFrom s n (goals_within p) × StandsFrom s k gs
stands-apart s n k p gs is all =
    (stands-first s n (goals_within p) gs all, stands-second s n k (goals_within p) gs (is ∙ ap (λ i. n + i) (sym (length-within p))) all)

pub stands-parts : (s : Hlds) (n k : ℕ) (ps rest : HldsGoals) (p : HldsGoal) → ps ≡ also p rest → k ≡ n + goal_size p → StandsFrom s n (goals_among ps) → StandsFrom s n (goals_within p) × StandsFrom s k (goals_among rest)
stands-parts s n k ps rest p is at all = stands-apart s n k p (goals_among rest) at (subst (λ (qs : HldsGoals). StandsFrom s n (goals_among qs)) is all)

-- how many goals the goal is that stands there
pub size-there : (s : Hlds) (n : ℕ) (p : HldsGoal) → StandsFrom s n (goals_within p) → size_at s n ≡ goal_size p
size-there s n (At l t) all =
    let same : n + 0 ≡ n = omega arith in
    ap size_of (subst (λ (i : ℕ). goal_at s i ≡ Some (At l t)) same (all 0 (At l t) refl))

-- ---- the parts of goals that have some

pub stands-Conj : (s : Hlds) (n : ℕ) (g : Goal) (v : Vec Goal Global) (gs : List Goal) → g.kind ≡ Conj v → gs ≡ v.items → StandsFrom s n (goals_within (goal_of g)) → StandsFrom s (n + 1) (goals_among (gathered (goals_of gs)))
stands-Conj s n g v gs is same =
    stands-below s n g.line (expr_of g.kind) (ConjGoal (gathered (goals_of gs)))
    (ap expr_of is ∙ (expr_of-Conj v ∙ ap (λ (hs : List Goal). ConjGoal (gathered (goals_of hs))) (sym same)))

pub stands-Disj : (s : Hlds) (n : ℕ) (g : Goal) (v : Vec Goal Global) (gs : List Goal) → g.kind ≡ Disj v → gs ≡ v.items → StandsFrom s n (goals_within (goal_of g)) → StandsFrom s (n + 1) (goals_among (gathered (goals_of gs)))
stands-Disj s n g v gs is same =
    stands-below s n g.line (expr_of g.kind) (DisjGoal (gathered (goals_of gs)))
    (ap expr_of is ∙ (expr_of-Disj v ∙ ap (λ (hs : List Goal). DisjGoal (gathered (goals_of hs))) (sym same)))

pub is-If : (k : GoalKind) (c t e : Box Goal Global) (x y z : Goal) → k ≡ If c t e → x ≡ c.value → y ≡ t.value → z ≡ e.value → expr_of k ≡ IfGoal (goal_of x) (goal_of y) (goal_of z)
is-If k c t e x y z is xs ys zs = ap expr_of is ∙ rw (sym xs, sym ys, sym zs) refl

pub is-Not : (k : GoalKind) (c : Box Goal Global) (x : Goal) → k ≡ Not c → x ≡ c.value → expr_of k ≡ NotGoal (goal_of x)
is-Not k c x is xs = ap expr_of is ∙ rw (sym xs) refl

pub is-Some : (k : GoalKind) (vs : List ℕ) (c : Box Goal Global) (x : Goal) → k ≡ Quantified vs c → x ≡ c.value → expr_of k ≡ SomeGoal vs (goal_of x)
is-Some k vs c x is xs = ap expr_of is ∙ rw (sym xs) refl

-- ---- the body of a clause

pub body-stands : (s : Hlds) (q : ℕ) (p : Procedure) → slice_get s.procedures q ≡ Some p → StandsFrom s (goals_before s.procedures q) (goals_within p.body)
body-stands s q p at m x is = goal_there s.procedures q m p x at is

pub none-before : (ps : List Procedure) → goals_before ps 0 ≡ 0
none-before [] = refl
none-before (p ∷ ps) = refl

-- it is no more than what all clauses have
pub body-within : (ps : List Procedure) (q : ℕ) (p : Procedure) → slice_get ps q ≡ Some p → goals_before ps q + goal_size p.body ≤ goals_before ps (length ps)
body-within [] q p at = absurd (cc)
body-within (x ∷ xs) zero p at =
    let same : goal_size x.body ≡ goal_size p.body = ap (λ (r : Procedure). goal_size r.body) (some_is x p at) in
    omega (arith, same)
body-within (x ∷ xs) (suc q) p at = omega (arith, body-within xs q p at)

-- The equations that the code adds, as the equations of goals.
use Rattle.std.proofs.Common.{◌≡◌, refl, ap, ◌∙◌, sym, subst, arith, ℕ, suc, ◌+◌, ◌<◌, Bool, true, false, List, [], ◌∷◌, ◌++◌, map, length, drop, Vec, Box, Option, Some, None, get_or, append_assoc, add-one, drop-cons}
use Rattle.std.specs.Prelude.{◌==◌, is_some, Result, Ok, Err, IfOk}
use Rattle.std.specs.declared.alloc.Global.{Global}
use Rattle.md_base.specs.declared.number.NoMemory.{NoMemory}
use Rattle.md_hlds.specs.declared.goal.Goal.{Goal}
use Rattle.md_hlds.specs.declared.goal.GoalKind.{GoalKind, Conj, Disj, If}
use Rattle.md_hlds.specs.HldsGoal.{HldsGoal, ConjGoal, DisjGoal, IfGoal, HldsGoals, also, expr_of, gathered, goal_of, goals_of, goal_size, goals_size}
use Rattle.md_hlds.proofs.Bridge.{expr_of-Conj, expr_of-Disj}
use Rattle.md_det.specs.declared.finding.Finding.{Finding}
use Rattle.md_det.specs.declared.finding.Switch.{Switch}
use Rattle.law_turns.specs.Counts.{PortCounts}
use Rattle.law_turns.specs.Equations as spec
use Rattle.md_cover.specs.Told.{chosen_by, chosen}

-- ---- goals that hold others

pub conj-is : (k : GoalKind) (v : Vec Goal Global) (gs : List Goal) → k ≡ Conj v → gs ≡ v.items → expr_of k ≡ ConjGoal (gathered (goals_of gs))
conj-is k v gs is same = ap expr_of is ∙ (expr_of-Conj v ∙ ap (λ (hs : List Goal). ConjGoal (gathered (goals_of hs))) (sym same))

pub disj-is : (k : GoalKind) (v : Vec Goal Global) (gs : List Goal) → k ≡ Disj v → gs ≡ v.items → expr_of k ≡ DisjGoal (gathered (goals_of gs))
disj-is k v gs is same = ap expr_of is ∙ (expr_of-Disj v ∙ ap (λ (hs : List Goal). DisjGoal (gathered (goals_of hs))) (sym same))

pub if-is : (k : GoalKind) (c t e : Box Goal Global) (x y z : Goal) → k ≡ If c t e → x ≡ c.value → y ≡ t.value → z ≡ e.value → expr_of k ≡ IfGoal (goal_of x) (goal_of y) (goal_of z)
if-is k c t e x y z is xs ys zs = ap expr_of is ∙ rw (sym xs, sym ys, sym zs) refl

-- ---- lists of goals

pub parts-step : (gs : List Goal) (i : ℕ) (g : Goal) → i < length gs → g ≡ get_or gs i g → gathered (goals_of (drop i gs)) ≡ also (goal_of g) (gathered (goals_of (drop (i + 1) gs)))
parts-step gs i g lt is = rw add-one (ap (λ (hs : List Goal). gathered (goals_of hs)) (drop-cons gs i g lt ∙ ap (λ (h : Goal). h ∷ drop (suc i) gs) (sym is)))

-- one part of a conjunction
pub conj-step : (fs : List Finding) (c : PortCounts) (n m next : ℕ) (before : spec.Quantity) (ps rest : HldsGoals) (p : HldsGoal) (olds news : List spec.Equation) → ps ≡ also p rest → next ≡ m + goal_size p
    → news ≡ olds ++ (spec.equals (spec.Entries m) before ∷ spec.goal_equations fs c m p)
    → news ++ spec.each_equations fs c n (spec.Exits m) next rest ≡ olds ++ spec.each_equations fs c n before m ps
conj-step fs c n m next before ps rest p olds news is at one =
    ap (λ xs. xs ++ spec.each_equations fs c n (spec.Exits m) next rest) one
    ∙ (ap (λ (k : ℕ). (olds ++ (spec.equals (spec.Entries m) before ∷ spec.goal_equations fs c m p)) ++ spec.each_equations fs c n (spec.Exits m) k rest) at
    ∙ (append_assoc olds (spec.equals (spec.Entries m) before ∷ spec.goal_equations fs c m p) _
    ∙ ap (λ qs. olds ++ spec.each_equations fs c n before m qs) (sym is)))

pub size-step : (ps rest : HldsGoals) (p : HldsGoal) (m next : ℕ) → ps ≡ also p rest → next ≡ m + goal_size p → next + goals_size rest ≡ m + goals_size ps
size-step ps rest p m next is at = let e = ap goals_size is in omega (arith, e, at)

-- one arm of a disjunction
pub arm-step : (fs : List Finding) (c : PortCounts) (m next : ℕ) (ps rest : HldsGoals) (p : HldsGoal) (olds news : List spec.Equation) → ps ≡ also p rest → next ≡ m + goal_size p → news ≡ olds ++ spec.goal_equations fs c m p
    → news ++ spec.arm_equations fs c next rest ≡ olds ++ spec.arm_equations fs c m ps
arm-step fs c m next ps rest p olds news is at one =
    ap (λ xs. xs ++ spec.arm_equations fs c next rest) one
    ∙ (ap (λ (k : ℕ). (olds ++ spec.goal_equations fs c m p) ++ spec.arm_equations fs c k rest) at
    ∙ (append_assoc olds (spec.goal_equations fs c m p) _
    ∙ ap (λ qs. olds ++ spec.arm_equations fs c m qs) (sym is)))

-- before the first arm
pub arms-begin : (fs : List Finding) (c : PortCounts) (n first : ℕ) (ps : HldsGoals) (found w : Option Switch) (olds news : List spec.Equation) → first ≡ suc n → found ≡ w
    → news ≡ olds ++ spec.entering n (spec.numbers_from first ps) found
    → news ++ spec.arm_equations fs c first ps ≡ (olds ++ spec.entering n (spec.numbers_from (suc n) ps) w) ++ spec.arm_equations fs c (suc n) ps
arms-begin fs c n first ps found w olds news at same one =
    ap (λ xs. xs ++ spec.arm_equations fs c first ps) one
    ∙ (ap (λ (k : ℕ). (olds ++ spec.entering n (spec.numbers_from k ps) found) ++ spec.arm_equations fs c k ps) at
    ∙ ap (λ (x : Option Switch). (olds ++ spec.entering n (spec.numbers_from (suc n) ps) x) ++ spec.arm_equations fs c (suc n) ps) same)

pub numbers-step : (f : ℕ → spec.Quantity) (m next : ℕ) (ps rest : HldsGoals) (p : HldsGoal) (olds news : List spec.Quantity) → ps ≡ also p rest → next ≡ m + goal_size p → news ≡ olds ++ f m ∷ []
    → news ++ map f (spec.numbers_from next rest) ≡ olds ++ map f (spec.numbers_from m ps)
numbers-step f m next ps rest p olds news is at one =
    ap (λ xs. xs ++ map f (spec.numbers_from next rest)) one
    ∙ (ap (λ (k : ℕ). (olds ++ f m ∷ []) ++ map f (spec.numbers_from k rest)) at
    ∙ (append_assoc olds (f m ∷ []) _
    ∙ ap (λ qs. olds ++ map f (spec.numbers_from m qs)) (sym is)))

-- ---- chains

-- one equation, and then more of them
pub entered : (r : Result ℕ NoMemory) (olds mids news : List spec.Equation) (first : spec.Equation) (more : List spec.Equation) → mids ≡ olds ++ (first ∷ []) → IfOk r (λ _. news ≡ mids ++ more)
    → IfOk r (λ _. news ≡ olds ++ first ∷ more)
entered (Ok next) olds mids news first more one two = two ∙ (ap (λ xs. xs ++ more) one ∙ append_assoc olds (first ∷ []) more)
entered (Err e) olds mids news first more one two = tt

five-pieces : (o a b c d e : List spec.Equation) → ((((o ++ a) ++ b) ++ c) ++ d) ++ e ≡ o ++ (a ++ (b ++ (c ++ (d ++ e))))
five-pieces o a b c d e = simp append_assoc

if-chain : (o v r s t end : List spec.Equation) (a b c d : spec.Equation) (p q e : List spec.Equation) → v ≡ o ++ (a ∷ p) → r ≡ v ++ (b ∷ q) → s ≡ r ++ (c ∷ []) → t ≡ s ++ e → end ≡ t ++ (d ∷ [])
    → end ≡ o ++ (a ∷ (p ++ b ∷ (q ++ c ∷ (e ++ d ∷ []))))
if-chain o v r s t end a b c d p q e h1 h2 h3 h4 h5 =
    let whole : ((((o ++ (a ∷ p)) ++ (b ∷ q)) ++ (c ∷ [])) ++ e) ++ (d ∷ []) ≡ o ++ (a ∷ (p ++ b ∷ (q ++ c ∷ (e ++ d ∷ [])))) = five-pieces o (a ∷ p) (b ∷ q) (c ∷ []) e (d ∷ []) in
    cc

-- the choice of a whole switch
pub chosen-is : (n : ℕ) (ms : List ℕ) (w : Option Switch) → chosen (spec.Entries n) (map spec.Entries ms) w ≡ spec.choosing n ms w
chosen-is n ms None = refl
chosen-is n ms (Some w) = by w.whole
  where
    by : (b : Bool) → chosen_by (spec.Entries n) (map spec.Entries ms) b ≡ spec.one_arm n ms b
    by true = refl
    by false = refl

pub if-built : (fs : List Finding) (c : PortCounts) (n asked held lapsed : ℕ) (x y z : HldsGoal) (o v r s t end : List spec.Equation) → asked ≡ suc n → held ≡ asked + goal_size x → lapsed ≡ held + goal_size y
    → v ≡ o ++ (spec.equals (spec.Entries asked) (spec.Entries n) ∷ spec.goal_equations fs c asked x)
    → r ≡ v ++ (spec.equals (spec.Entries held) (spec.Exits asked) ∷ spec.goal_equations fs c held y)
    → s ≡ r ++ (spec.sums (spec.Entries n) (spec.Entries held ∷ spec.Entries lapsed ∷ []) ∷ []) → t ≡ s ++ spec.goal_equations fs c lapsed z
    → end ≡ t ++ (spec.sums (spec.Exits n) (spec.Exits held ∷ spec.Exits lapsed ∷ []) ∷ [])
    → end ≡ o ++ spec.expr_equations fs c n (IfGoal x y z)
if-built fs c n asked held lapsed x y z o v r s t end a b d h1 h2 h3 h4 h5 =
    let chain = if-chain o v r s t end _ _ _ _ (spec.goal_equations fs c asked x) (spec.goal_equations fs c held y) (spec.goal_equations fs c lapsed z) h1 h2 h3 h4 h5 in
    let second : held ≡ suc n + goal_size x = omega (arith, a, b) in
    let third : lapsed ≡ suc n + goal_size x + goal_size y = omega (arith, second, d) in
    subst (λ (k : ℕ). end ≡ o ++ spec.if_equations n (suc n) (suc n + goal_size x) k (spec.goal_equations fs c (suc n) x) (spec.goal_equations fs c (suc n + goal_size x) y) (spec.goal_equations fs c k z)) third
    (subst (λ (k : ℕ). end ≡ o ++ spec.if_equations n (suc n) k lapsed (spec.goal_equations fs c (suc n) x) (spec.goal_equations fs c k y) (spec.goal_equations fs c lapsed z)) second
    (subst (λ (k : ℕ). end ≡ o ++ spec.if_equations n k held lapsed (spec.goal_equations fs c k x) (spec.goal_equations fs c held y) (spec.goal_equations fs c lapsed z)) a chain))

-- the first arm
pub enters-none : (n first : ℕ) (gs : List Goal) (w : Option Switch) → (w ≡ None → gs ≡ []) → spec.entering n (spec.numbers_from first (gathered (goals_of gs))) w ≡ []
enters-none n first [] None h = refl
enters-none n first (g ∷ gs) None h = absurd (let is = h refl in cc)
enters-none n first gs (Some w) h = refl

pub enters-one : (n first : ℕ) (gs : List Goal) (w : Option Switch) → w ≡ None → (gs ≡ [] → ⊥) → spec.entering n (spec.numbers_from first (gathered (goals_of gs))) w ≡ spec.equals (spec.Entries first) (spec.Entries n) ∷ []
enters-one n first [] w is some = absurd (some refl)
enters-one n first (g ∷ gs) None is some = refl
enters-one n first (g ∷ gs) (Some w) is some = absurd (cc is)

pub none-of : (w : Option Switch) → is_some w ≡ false → w ≡ None
none-of None is = refl
none-of (Some w) is = absurd (cc is)

pub some-there : (gs : List Goal) → (length gs == 0) ≡ false → gs ≡ [] → ⊥
some-there [] is e = absurd (cc is)
some-there (g ∷ gs) is e = cc e

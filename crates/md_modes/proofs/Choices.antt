-- Branches by their parts.
use Rattle.std.proofs.Common.{◌≡◌, refl, sym, ap, ◌∙◌, subst, ℕ, Bool, true, false, not, List, [], ◌∷◌, ◌++◌, Vec, Box, Result, Ok, Err}
use Rattle.std.specs.declared.alloc.Global.{Global}
use Rattle.md_hlds.specs.declared.goal.Goal.{Goal}
use Rattle.md_hlds.specs.declared.goal.GoalKind.{GoalKind, Conj, Disj, If, Not, Some}
use Rattle.md_hlds.specs.HldsGoal.{HldsGoal, DisjGoal, IfGoal, SomeGoal, gathered, goal_of, goals_of, expr_of}
use Rattle.md_hlds.proofs.Bridge.{expr_of-Conj, expr_of-Disj}
use Rattle.md_inst.specs.declared.fault.ModeFault.{ModeFault}
use Rattle.md_inst.specs.declared.fault.ModeFault.TheVariants.{BranchBinds}
use Rattle.md_inst.specs.Verdict.{Verdict, ◌>>=◌, fault_unless}
use Rattle.md_inst.specs.Instantiation.{InstMap}
use Rattle.md_modes.specs.Branches.{After, after, outside, binds_some, some_of, joined}
use Rattle.md_modes.specs.Goals.{Scope, within, variables, goal, expr, each, binds_inside}
use Rattle.md_modes.specs.Joins.{Reaches}
use Rattle.md_modes.specs.Inside.{inside}

pub reaches_along : (r : Result Bool ModeFault) (k : InstMap) (v w : Verdict After) → v ≡ w → Reaches r k w → Reaches r k v
reaches_along r k v w e h = subst (λ (u : Verdict After). Reaches r k u) (sym e) h

pub conj_is : (c : Scope) (l : ℕ) (k : GoalKind) (v : Vec Goal Global) (s : InstMap) → k ≡ Conj v → expr c l (expr_of k) s ≡ each c (gathered (goals_of v.items)) s
conj_is c l k v s is = ap (λ j. expr c l (expr_of j) s) is ∙ ap (λ t. expr c l t s) (expr_of-Conj v)

pub disj_is : (c : Scope) (l : ℕ) (k : GoalKind) (v : Vec Goal Global) (s : InstMap) → k ≡ Disj v → expr c l (expr_of k) s ≡ expr c l (DisjGoal (gathered (goals_of v.items))) s
disj_is c l k v s is = ap (λ j. expr c l (expr_of j) s) is ∙ ap (λ t. expr c l t s) (expr_of-Disj v)

pub not_is : (c : Scope) (l : ℕ) (k : GoalKind) (b : Box Goal Global) (g : Goal) (s : InstMap) → k ≡ Not b → g ≡ b.value → expr c l (expr_of k) s ≡ expr c l (SomeGoal [] (goal_of g)) s
not_is c l k b g s is gs = ap (λ j. expr c l (expr_of j) s) is ∙ rw gs refl

pub some_is : (c : Scope) (l : ℕ) (k : GoalKind) (us vs : List ℕ) (b : Box Goal Global) (g : Goal) (s : InstMap) → k ≡ Some vs b → g ≡ b.value → us ≡ vs
    → expr c l (expr_of k) s ≡ expr c l (SomeGoal us (goal_of g)) s
some_is c l k us vs b g s is gs same = ap (λ j. expr c l (expr_of j) s) is ∙ rw (gs, same) refl

pub choose_is : (c : Scope) (l : ℕ) (k : GoalKind) (p t e : Box Goal Global) (g h j : Goal) (s : InstMap) → k ≡ If p t e → g ≡ p.value → h ≡ t.value → j ≡ e.value
    → expr c l (expr_of k) s ≡ expr c l (IfGoal (goal_of g) (goal_of h) (goal_of j)) s
choose_is c l k p t e g h j s is gs hs js = ap (λ i. expr c l (expr_of i) s) is ∙ rw (gs, hs, js) refl

-- ---- a goal within a branch

and_then_kept : {A : Type 0} (w : Verdict (Unit {0})) (a : After) (g : After → Verdict A) → (w >>= (λ _. g a)) ≡ ((w >>= (λ _. Ok a)) >>= g)
and_then_kept (Ok u) a g = refl
and_then_kept (Err e) a g = refl

and_then_again : {A : Type 0} (v : Verdict After) (f : After → Verdict (Unit {0})) (g : After → Verdict A)
    → (v >>= (λ a. f a >>= (λ _. g a))) ≡ ((v >>= (λ a. f a >>= (λ _. Ok a))) >>= g)
and_then_again (Ok a) f g = and_then_kept (f a) a g
and_then_again (Err e) f g = refl

-- the variables of an if-then-else
abbrev pub three_variables : (p t e : HldsGoal) → List ℕ
three_variables p t e = variables p ++ (variables t ++ variables e)

-- what follows the condition of an if-then-else, and what follows a goal that is negated or quantified
abbrev pub rest_of_choice : Scope → ℕ → (p t e : HldsGoal) → InstMap → After → Verdict After
rest_of_choice c l p t e s a = goal c t a.known >>= (λ b. goal c e s >>= (λ d. joined l (outside c.all (three_variables p t e)) s (b ∷ d ∷ [])))

abbrev pub rest_of_once : Scope → ℕ → List ℕ → HldsGoal → InstMap → After → Verdict After
rest_of_once c l vs p s a = fault_unless (not (some_of (outside c.all (vs ++ variables p)) vs)) (BranchBinds l) >>= (λ _. Ok (after s true))

pub choose_inside : (c : Scope) (l : ℕ) (p t e : HldsGoal) (s : InstMap)
    → expr c l (IfGoal p t e) s ≡ (inside (within c) l (three_variables p t e) p s >>= rest_of_choice c l p t e s)
choose_inside c l p t e s =
    and_then_again (goal (within c) p s) (λ a. binds_inside l (outside c.all (three_variables p t e)) s a) (rest_of_choice c l p t e s)

pub once_inside : (c : Scope) (l : ℕ) (vs : List ℕ) (p : HldsGoal) (s : InstMap)
    → expr c l (SomeGoal vs p) s ≡ (inside (within c) l (vs ++ variables p) p s >>= rest_of_once c l vs p s)
once_inside c l vs p s =
    and_then_again (goal (within c) p s) (λ a. binds_inside l (outside c.all (vs ++ variables p)) s a) (rest_of_once c l vs p s)

kept_by : (w : Verdict (Unit {0})) (b a : After) → (w >>= (λ _. Ok b)) ≡ Ok a → b ≡ a
kept_by (Ok u) b a e = cc
kept_by (Err x) b a e = absurd (cc)

ok_by : (v : Verdict After) (f : After → Verdict (Unit {0})) (a : After) → (v >>= (λ a. f a >>= (λ _. Ok a))) ≡ Ok a → v ≡ Ok a
ok_by (Ok b) f a e = rw (kept_by (f b) b a e) refl
ok_by (Err x) f a e = absurd (cc)

-- a goal that is right within a branch is right
pub inside_ok : (c : Scope) (l : ℕ) (vars : List ℕ) (p : HldsGoal) (s : InstMap) (a : After) → inside c l vars p s ≡ Ok a → goal c p s ≡ Ok a
inside_ok c l vars p s a e = ok_by (goal c p s) (λ a. binds_inside l (outside c.all vars) s a) a e

pub inside_fault : (c : Scope) (l : ℕ) (vars : List ℕ) (p : HldsGoal) (s : InstMap) (x : ModeFault) → goal c p s ≡ Err x → inside c l vars p s ≡ Err x
inside_fault c l vars p s x e = rw e refl

pub inside_by : (c : Scope) (l : ℕ) (vars : List ℕ) (p : HldsGoal) (s : InstMap) (a : After) → goal c p s ≡ Ok a → binds_some (outside c.all vars) s a.known ≡ false → inside c l vars p s ≡ Ok a
inside_by c l vars p s a e f = rw (e, f) refl

pub inside_binds : (c : Scope) (l : ℕ) (vars : List ℕ) (p : HldsGoal) (s : InstMap) (a : After) → goal c p s ≡ Ok a → binds_some (outside c.all vars) s a.known ≡ true
    → inside c l vars p s ≡ Err (BranchBinds l)
inside_binds c l vars p s a e f = rw (e, f) refl

-- ---- an if-then-else

pub condition_fault : (c : Scope) (l : ℕ) (p t e : HldsGoal) (s : InstMap) (x : ModeFault) → inside (within c) l (three_variables p t e) p s ≡ Err x → expr c l (IfGoal p t e) s ≡ Err x
condition_fault c l p t e s x h = choose_inside c l p t e s ∙ rw h refl

pub then_fault : (c : Scope) (l : ℕ) (p t e : HldsGoal) (s : InstMap) (a : After) (x : ModeFault) → inside (within c) l (three_variables p t e) p s ≡ Ok a
    → goal c t a.known ≡ Err x → expr c l (IfGoal p t e) s ≡ Err x
then_fault c l p t e s a x f h = choose_inside c l p t e s ∙ rw (f, h) refl

-- the end of an if-then-else, and a fault of its second arm, by what is known before that arm
pub choose_last : (c : Scope) (l : ℕ) (p t e : HldsGoal) (s n : InstMap) (a b d : After) → inside (within c) l (three_variables p t e) p s ≡ Ok a
    → goal c t a.known ≡ Ok b → n ≡ s → goal c e n ≡ Ok d → expr c l (IfGoal p t e) s ≡ joined l (outside c.all (three_variables p t e)) n (b ∷ d ∷ [])
choose_last c l p t e s n a b d f h back i = choose_inside c l p t e s ∙ rw (f, h, ← back, i) refl

pub choose_fault : (c : Scope) (l : ℕ) (p t e : HldsGoal) (s n : InstMap) (a b : After) (x : ModeFault) → inside (within c) l (three_variables p t e) p s ≡ Ok a
    → goal c t a.known ≡ Ok b → n ≡ s → goal c e n ≡ Err x → expr c l (IfGoal p t e) s ≡ Err x
choose_fault c l p t e s n a b x f h back i = choose_inside c l p t e s ∙ rw (f, h, ← back, i) refl

-- ---- a goal that is negated or quantified

pub once_fault : (c : Scope) (l : ℕ) (vs : List ℕ) (p : HldsGoal) (s : InstMap) (x : ModeFault) → inside (within c) l (vs ++ variables p) p s ≡ Err x → expr c l (SomeGoal vs p) s ≡ Err x
once_fault c l vs p s x h = once_inside c l vs p s ∙ rw h refl

pub once_outside : (c : Scope) (l : ℕ) (vs : List ℕ) (p : HldsGoal) (s : InstMap) (a : After) → inside (within c) l (vs ++ variables p) p s ≡ Ok a
    → some_of (outside c.all (vs ++ variables p)) vs ≡ true → expr c l (SomeGoal vs p) s ≡ Err (BranchBinds l)
once_outside c l vs p s a h f = once_inside c l vs p s ∙ rw (h, f) refl

pub once_right : (c : Scope) (l : ℕ) (vs : List ℕ) (p : HldsGoal) (s : InstMap) (a : After) → inside (within c) l (vs ++ variables p) p s ≡ Ok a
    → some_of (outside c.all (vs ++ variables p)) vs ≡ false → expr c l (SomeGoal vs p) s ≡ Ok (after s true)
once_right c l vs p s a h f = once_inside c l vs p s ∙ rw (h, f) refl

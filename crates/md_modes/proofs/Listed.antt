-- The variables of goals, one goal after the other.
use Rattle.std.proofs.Common.{◌≡◌, refl, sym, ap, ◌∙◌, subst, arith, add-one, append_assoc, append-nil, ℕ, zero, suc, ◌+◌, ◌<◌, List, [], ◌∷◌, ◌++◌, length, drop, get_or, Bool, false, ◌||◌, ◌≤◌, nat_lt, Vec, Box, Result, Ok, Err, OnOk}
use Rattle.std.specs.declared.alloc.Global.{Global}
use Rattle.md_hlds.specs.declared.goal.Goal.{Goal}
use Rattle.md_hlds.specs.declared.goal.GoalKind.{GoalKind, Conj, Disj, If, Some}
use Rattle.md_hlds.specs.HldsGoal.{gathered, goal_of, goals_of, expr_of}
use Rattle.md_hlds.proofs.Bridge.{expr_of-Conj, expr_of-Disj}
use Rattle.md_modes.specs.Branches.{some_of}
use Rattle.md_modes.specs.Goals.{variables, expr_variables, parts_variables}
use Rattle.std.proofs.lemmas.Bool.{le-ltb}

-- the variables of these goals
abbrev pub goals_variables : List Goal → List ℕ
goals_variables gs = parts_variables (gathered (goals_of gs))

pub goals_variables-Conj : (k : GoalKind) (v : Vec Goal Global) → k ≡ Conj v → expr_variables (expr_of k) ≡ goals_variables v.items
goals_variables-Conj k v e = ap (λ j. expr_variables (expr_of j)) e ∙ ap expr_variables (expr_of-Conj v)

pub goals_variables-Disj : (k : GoalKind) (v : Vec Goal Global) → k ≡ Disj v → expr_variables (expr_of k) ≡ goals_variables v.items
goals_variables-Disj k v e = ap (λ j. expr_variables (expr_of j)) e ∙ ap expr_variables (expr_of-Disj v)

pub variables-If : (k : GoalKind) (c t e : Box Goal Global) (g h j : Goal) → k ≡ If c t e → g ≡ c.value → h ≡ t.value → j ≡ e.value
    → expr_variables (expr_of k) ≡ variables (goal_of g) ++ (variables (goal_of h) ++ variables (goal_of j))
variables-If k c t e g h j is gs hs js = ap (λ j. expr_variables (expr_of j)) is ∙ rw (gs, hs, js) refl

pub some_variables : (k : GoalKind) (vs : List ℕ) (c : Box Goal Global) (g : Goal) → k ≡ Some vs c → g ≡ c.value
    → expr_variables (expr_of k) ≡ vs ++ variables (goal_of g)
some_variables k vs c g is gs = ap (λ j. expr_variables (expr_of j)) is ∙ rw gs refl

pub goals_variables-more : (gs : List Goal) (i : ℕ) (g : Goal) → i < length gs → g ≡ get_or gs i g
    → goals_variables (drop i gs) ≡ variables (goal_of g) ++ goals_variables (drop (suc i) gs)
goals_variables-more [] i g lt is = absurd (omega (arith, lt))
goals_variables-more (h ∷ gs) zero g lt is = rw is refl
goals_variables-more (h ∷ gs) (suc i) g lt is = goals_variables-more gs i g (omega (arith, lt)) is

-- one goal more is listed
pub listed-loop : (now new whole : List ℕ) (gs : List Goal) (i : ℕ) (g : Goal) → i < length gs → g ≡ get_or gs i g
    → new ≡ now ++ variables (goal_of g) → now ++ goals_variables (drop i gs) ≡ whole → new ++ goals_variables (drop (i + 1) gs) ≡ whole
listed-loop now new whole gs i g lt is more so_far =
    rw (more, add-one)
    (append_assoc now (variables (goal_of g)) (goals_variables (drop (suc i) gs)) ∙ (ap (λ xs. now ++ xs) (sym (goals_variables-more gs i g lt is)) ∙ so_far))

drop-end : (gs : List Goal) (i : ℕ) → length gs ≡ i → drop i gs ≡ []
drop-end [] zero e = refl
drop-end [] (suc i) e = refl
drop-end (g ∷ gs) zero e = absurd (omega (arith, e))
drop-end (g ∷ gs) (suc i) e = drop-end gs i (omega (arith, e))

pub listed-end : (now whole : List ℕ) (gs : List Goal) (i : ℕ) → length gs ≡ i → now ++ goals_variables (drop i gs) ≡ whole → now ≡ whole
listed-end now whole gs i e so_far = sym (append-nil now) ∙ (rw (← ap goals_variables (drop-end gs i e)) so_far)

pub listed_along : {E : Type 0} (r : Result (Unit {0}) E) (a b ys zs : List ℕ) → ys ≡ zs → OnOk r (b ≡ a ++ zs) → OnOk r (b ≡ a ++ ys)
listed_along r a b ys zs e h = subst (λ (vs : List ℕ). OnOk r (b ≡ a ++ vs)) (sym e) h

pub listed_after : {E : Type 0} (r : Result (Unit {0}) E) (a b c ys zs : List ℕ) → b ≡ a ++ ys → OnOk r (c ≡ b ++ zs) → OnOk r (c ≡ a ++ (ys ++ zs))
listed_after (Ok u) a b c ys zs f g = g ∙ (ap (λ xs. xs ++ zs) f ∙ append_assoc a ys zs)
listed_after (Err e) a b c ys zs f g = tt

-- ---- variables of a list, of which some has a property

some_of-more : (p : ℕ → Bool) (xs : List ℕ) (i : ℕ) → i < length xs → some_of p (drop i xs) ≡ (p (get_or xs i 0) || some_of p (drop (suc i) xs))
some_of-more p [] i lt = absurd (omega (arith, lt))
some_of-more p (x ∷ xs) zero lt = refl
some_of-more p (x ∷ xs) (suc i) lt = some_of-more p xs i (omega (arith, lt))

pub some-missed : (p : ℕ → Bool) (xs : List ℕ) (i : ℕ) → i < length xs → p (get_or xs i 0) ≡ false → some_of p xs ≡ some_of p (drop i xs)
    → some_of p xs ≡ some_of p (drop (i + 1) xs)
some-missed p xs i lt miss so_far = so_far ∙ (some_of-more p xs i lt ∙ (ap (λ b. b || some_of p (drop (suc i) xs)) miss ∙ rw add-one refl))

pub not-less : (a b m n : ℕ) → m ≡ a → n ≡ b → a ≤ b → nat_lt n m ≡ false
not-less a b m n e f le = rw (e, f) (le-ltb b a le)

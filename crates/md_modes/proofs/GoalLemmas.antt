-- Goals one after the other, arms, and branches.
use Rattle.std.proofs.Common.{◌≡◌, refl, sym, ap, subst, arith, ℕ, zero, suc, ◌<◌, Bool, true, false, ◌&&◌, List, [], ◌∷◌, ◌++◌, append-nil, length, drop, get_or, Option, Ok, Err}
use Rattle.md_hlds.specs.declared.goal.Goal.{Goal}
use Rattle.md_hlds.specs.HldsGoal.{HldsGoals, DisjGoal, gathered, goal_of, goals_of}
use Rattle.md_inst.specs.declared.fault.ModeFault.{ModeFault}
use Rattle.md_modes.specs.declared.joined.Joined.{Joined}
use Rattle.md_inst.specs.Verdict.{Verdict, ◌>>=◌}
use Rattle.md_inst.specs.Instantiation.{InstMap}
use Rattle.md_modes.specs.Branches.{After, after}
use Rattle.md_modes.specs.Goals.{Scope, goal, expr, each, arms}
use Rattle.md_modes.specs.Joins.{Ends}
use Rattle.md_modes.specs.Notes.{Note, arm_notes}
use Rattle.md_modes.specs.Views.{seen, seen_ends, AllLeave}

-- after goals of which the place is reachable or not, what the others lead to
abbrev pub continued : Bool → Verdict After → Verdict After
continued reach v = v >>= (λ rest. Ok (after rest.known (reach && rest.reach)))

continued_twice : (a b : Bool) (v : Verdict After) → continued a (continued b v) ≡ continued (a && b) v
continued_twice true b (Ok v) = refl
continued_twice false b (Ok v) = refl
continued_twice a b (Err e) = refl

-- one goal more, by the goals that are left
pub each-more : (c : Scope) (gs : List Goal) (i : ℕ) (g : Goal) (s r : InstMap) (reach goes_on : Bool) → i < length gs → g ≡ get_or gs i g
    → goal c (goal_of g) s ≡ Ok (after r goes_on)
    → continued reach (each c (gathered (goals_of (drop i gs))) s) ≡ continued (reach && goes_on) (each c (gathered (goals_of (drop (suc i) gs))) r)
each-more c [] i g s r reach goes_on lt is h = absurd (omega (arith, lt))
each-more c (k ∷ gs) zero g s r reach goes_on lt is h =
    let first : goal c (goal_of k) s ≡ Ok (after r goes_on) = subst (λ (g : Goal). goal c (goal_of g) s ≡ Ok (after r goes_on)) is h in
    rw first (continued_twice reach goes_on (each c (gathered (goals_of gs)) r))
each-more c (k ∷ gs) (suc i) g s r reach goes_on lt is h = each-more c gs i g s r reach goes_on (omega (arith, lt)) is h

-- a goal at fault among those that are left
pub each-fault : (c : Scope) (gs : List Goal) (i : ℕ) (g : Goal) (s : InstMap) (reach : Bool) (e : ModeFault) → i < length gs → g ≡ get_or gs i g
    → goal c (goal_of g) s ≡ Err e → continued reach (each c (gathered (goals_of (drop i gs))) s) ≡ Err e
each-fault c [] i g s reach e lt is h = absurd (omega (arith, lt))
each-fault c (k ∷ gs) zero g s reach e lt is h =
    let first : goal c (goal_of k) s ≡ Err e = subst (λ (g : Goal). goal c (goal_of g) s ≡ Err e) is h in
    rw first refl
each-fault c (k ∷ gs) (suc i) g s reach e lt is h = each-fault c gs i g s reach e (omega (arith, lt)) is h

each-none : (gs : List Goal) (i : ℕ) → length gs ≡ i → drop i gs ≡ []
each-none [] zero e = refl
each-none [] (suc i) e = refl
each-none (g ∷ gs) zero e = absurd (omega (arith, e))
each-none (g ∷ gs) (suc i) e = each-none gs i (omega (arith, e))

reach_again : (b : Bool) → (b && true) ≡ b
reach_again true = refl
reach_again false = refl

-- where no goal is left
pub each-end : (c : Scope) (gs : List Goal) (i : ℕ) (s : InstMap) (reach : Bool) → length gs ≡ i → continued reach (each c (gathered (goals_of (drop i gs))) s) ≡ Ok (after s reach)
each-end c gs i s reach e = rw (each-none gs i e, reach_again reach) refl

continued_true : (v : Verdict After) → continued true v ≡ v
continued_true (Ok v) = refl
continued_true (Err e) = refl

pub each-begin : (c : Scope) (gs : List Goal) (s : InstMap) → each c (gathered (goals_of gs)) s ≡ continued true (each c (gathered (goals_of (drop 0 gs))) s)
each-begin c gs s = sym (continued_true (each c (gathered (goals_of gs)) s))

-- arms that end so, and those that others end with
abbrev pub with_ends : List After → Verdict (List After) → Verdict (List After)
with_ends ends v = v >>= (λ more. Ok (ends ++ more))

append_one : {A : Type 0} (xs : List A) (y : A) (zs : List A) → xs ++ y ∷ zs ≡ (xs ++ y ∷ []) ++ zs
append_one [] y zs = refl
append_one (x ∷ xs) y zs = ap (λ ys. x ∷ ys) (append_one xs y zs)

with_more : (ends : List After) (a : After) (v : Verdict (List After)) → with_ends ends (v >>= (λ more. Ok (a ∷ more))) ≡ with_ends (ends ++ a ∷ []) v
with_more ends a (Ok more) = ap Ok (append_one ends a more)
with_more ends a (Err e) = refl

pub arms-begin : (v : Verdict (List After)) → v ≡ with_ends [] v
arms-begin (Ok ends) = refl
arms-begin (Err e) = refl

pub arms-more : (c : Scope) (gs : List Goal) (i : ℕ) (g : Goal) (s : InstMap) (a : After) (ends : List After) → i < length gs → g ≡ get_or gs i g
    → goal c (goal_of g) s ≡ Ok a
    → with_ends ends (arms c (gathered (goals_of (drop i gs))) s) ≡ with_ends (ends ++ a ∷ []) (arms c (gathered (goals_of (drop (suc i) gs))) s)
arms-more c [] i g s a ends lt is h = absurd (omega (arith, lt))
arms-more c (k ∷ gs) zero g s a ends lt is h =
    let first : goal c (goal_of k) s ≡ Ok a = subst (λ (g : Goal). goal c (goal_of g) s ≡ Ok a) is h in
    rw first (with_more ends a (arms c (gathered (goals_of gs)) s))
arms-more c (k ∷ gs) (suc i) g s a ends lt is h = arms-more c gs i g s a ends (omega (arith, lt)) is h

pub arms-fault : (c : Scope) (gs : List Goal) (i : ℕ) (g : Goal) (s : InstMap) (e : ModeFault) (ends : List After) → i < length gs → g ≡ get_or gs i g
    → goal c (goal_of g) s ≡ Err e → with_ends ends (arms c (gathered (goals_of (drop i gs))) s) ≡ Err e
arms-fault c [] i g s e ends lt is h = absurd (omega (arith, lt))
arms-fault c (k ∷ gs) zero g s e ends lt is h =
    let first : goal c (goal_of k) s ≡ Err e = subst (λ (g : Goal). goal c (goal_of g) s ≡ Err e) is h in
    rw first refl
arms-fault c (k ∷ gs) (suc i) g s e ends lt is h = arms-fault c gs i g s e ends (omega (arith, lt)) is h

pub either_fault : (c : Scope) (l : ℕ) (ps : HldsGoals) (s : InstMap) (e : ModeFault) → arms c ps s ≡ Err e → expr c l (DisjGoal ps) s ≡ Err e
either_fault c l ps s e h = rw h refl

pub arms-end : (c : Scope) (gs : List Goal) (i : ℕ) (s : InstMap) (ends : List After) → length gs ≡ i → with_ends ends (arms c (gathered (goals_of (drop i gs))) s) ≡ Ok ends
arms-end c gs i s ends e = rw (each-none gs i e, append-nil ends) refl

-- the arms of a disjunction up to this one were checked, and their notes were made
pub record ArmsSoFar (c : Scope) (p : ℕ → Bool) (places : List ℕ) (gs : List Goal) (i : ℕ) (s now : InstMap) (j : Option Joined) (old new : List Note) : Type 0 where
  pub ends : List After
  pub are_ends : Ends p (seen places s) j (seen_ends places ends)
  pub leave : AllLeave places s ends
  pub rest : arms c (gathered (goals_of gs)) s ≡ with_ends ends (arms c (gathered (goals_of (drop i gs))) s)
  pub known : now ≡ s
  pub noted : new ++ arm_notes c (gathered (goals_of (drop i gs))) s ≡ old ++ arm_notes c (gathered (goals_of gs)) s

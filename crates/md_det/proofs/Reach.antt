-- A goal after which the place isn't reachable has no solution; so a condition that has many solutions binds what is bound
-- after it and not before it.
use Rattle.std.proofs.Common.{◌≡◌, refl, ap, sym, ◌∙◌, subst, ℕ, zero, suc, ◌+◌, arith, Bool, true, false, not, ◌&&◌, ◌||◌, List, [], ◌∷◌, ◌++◌, length, Option, Some, None, inl, inr}
use Rattle.std.specs.Prelude.{Ok, Err, cond}
use Rattle.std.proofs.lemmas.Bool.{true≢false, and_cases}
use Rattle.md_hlds.specs.HldsGoal.{Simple, Succeeds, Fails, Unifies, Computes, Compares, WritesInt, WritesText, EndsLine, Raises, HldsGoal, At, SimpleGoal, CallGoal, HoCallGoal, ConjGoal, DisjGoal, IfGoal, NotGoal, SomeGoal, HldsGoals, nothing, also}
use Rattle.md_inst.specs.declared.fault.ModeFault.{ModeFault}
use Rattle.md_inst.specs.declared.fault.ModeFault.TheVariants.{TypeClash, BranchBinds}
use Rattle.md_inst.specs.Verdict.{Verdict, fault_unless}
use Rattle.md_inst.specs.Instantiation.{Instantiation, free, has, InstMap, known_at, is_newly_bound, some_below}
use Rattle.md_inst.specs.Simple.{atomic, goes_on}
use Rattle.md_modes.specs.Branches.{After, after, outside, binds_some, some_of, reachable, some_differ, all_have, clash, joined_ends}
use Rattle.md_modes.specs.Goals.{Scope, within, variables, reached, goal, each, arms, binds_inside}
use Rattle.md_modes.specs.Notes.{newly_bound, binds, known_after}
use Rattle.md_modes.proofs.RoleLemmas.{bind_ok}
use Rattle.md_det.specs.declared.pair.Bound.{Bound}
use Rattle.md_det.specs.declared.pair.Bound.TheVariants.{Zero, One, Many}
use Rattle.md_det.specs.declared.pair.Pair.{Pair}
use Rattle.md_det.specs.declared.finding.Switch.{Switch}
use Rattle.md_det.specs.Bounds.{product, is_many}
use Rattle.md_det.specs.Pairs.{all_alternatives, one_of_all}
use Rattle.md_det.specs.Switches.{switch_of, variable_of}
use Rattle.md_det.specs.Determinism.{simple_pair, disjunction_pair, goal_pair, each_pair, arm_pairs}

-- ---- no place after a goal: no solution

reach_of : (reach : Bool) (v : Verdict InstMap) (a : After) → reached reach v ≡ Ok a → a.reach ≡ reach
reach_of reach v a h =
    let r = bind_ok v (λ s. Ok (after s reach)) a h in
    let same : after r.0 reach ≡ a = cc in
    ap (λ (x : After). x.reach) (sym same)

-- a place that is reachable
not_reached : (a : After) → a.reach ≡ true → a.reach ≡ false → ⊥
not_reached a h i = true≢false (sym h ∙ i)

simple_stops : (c : Scope) (at : Option ℕ) (g : Simple) (s : InstMap) (a : After) → a.reach ≡ goes_on g → a.reach ≡ false → (simple_pair c.program at g s).bound ≡ Zero
simple_stops c at Fails s a h stops = refl
simple_stops c at (Raises x) s a h stops = refl
simple_stops c at Succeeds s a h stops = absurd (not_reached a h stops)
simple_stops c at (Unifies x t) s a h stops = absurd (not_reached a h stops)
simple_stops c at (Computes z b op d) s a h stops = absurd (not_reached a h stops)
simple_stops c at (Compares b cmp d) s a h stops = absurd (not_reached a h stops)
simple_stops c at (WritesInt x b d) s a h stops = absurd (not_reached a h stops)
simple_stops c at (WritesText x b d) s a h stops = absurd (not_reached a h stops)
simple_stops c at (EndsLine b d) s a h stops = absurd (not_reached a h stops)

product_left : (b d : Bound) → b ≡ Zero → product b d ≡ Zero
product_left Zero d h = refl
product_left One d h = absurd (cc)
product_left Many d h = absurd (cc)

product_right : (b d : Bound) → d ≡ Zero → product b d ≡ Zero
product_right Zero d h = refl
product_right One Zero h = refl
product_right Many Zero h = refl
product_right One One h = absurd (cc)
product_right One Many h = absurd (cc)
product_right Many One h = absurd (cc)
product_right Many Many h = absurd (cc)

-- none of these has a solution
abbrev AllZero : List Pair → Type 0
AllZero [] = Unit {0}
AllZero (p ∷ ps) = (p.bound ≡ Zero) × AllZero ps

sum_zero : (ps : List Pair) → AllZero ps → (all_alternatives ps).bound ≡ Zero
sum_zero [] h = refl
sum_zero (p ∷ ps) h = rw (h.0, sum_zero ps h.1) refl

greatest_zero : (ps : List Pair) → AllZero ps → (one_of_all ps).bound ≡ Zero
greatest_zero [] h = refl
greatest_zero (p ∷ ps) h = rw (h.0, greatest_zero ps h.1) refl

disjunction_zero : (w : Option Switch) (ps : List Pair) → AllZero ps → (disjunction_pair w ps).bound ≡ Zero
disjunction_zero None ps h = sum_zero ps h
disjunction_zero (Some w) ps h = greatest_zero ps h

joined_reach : (b d : Bool) (x y : ModeFault) (r : InstMap) (a : After) → cond b (Err x) (cond d (Err y) (Ok (after r true))) ≡ Ok a → a.reach ≡ false → ⊥
joined_reach true d x y r a h stops = cc
joined_reach false true x y r a h stops = cc
joined_reach false false x y r a h stops = let same : after r true ≡ a = cc in true≢false (ap (λ (z : After). z.reach) same ∙ stops)

-- where arms come to no place, none of their ends is reachable
branch_stops : (l : ℕ) (p : ℕ → Bool) (s : InstMap) (rs : List InstMap) (a : After) → joined_ends l p s rs ≡ Ok a → a.reach ≡ false → rs ≡ []
branch_stops l p s [] a h stops = refl
branch_stops l p s (r ∷ rs) a h stops =
    absurd (joined_reach (some_differ p s r rs) (clash s (all_have r rs) r rs) (BranchBinds l) (TypeClash l) (all_have r rs) a h stops)

one_unreached : (b : Bool) (r : InstMap) (rs : List InstMap) → cond b (r ∷ rs) rs ≡ [] → (b ≡ false) × (rs ≡ [])
one_unreached true r rs h = absurd (cc)
one_unreached false r rs h = (refl, h)

first_unreached : (a : After) (ends : List After) → reachable (a ∷ ends) ≡ [] → (a.reach ≡ false) × (reachable ends ≡ [])
first_unreached a ends h = one_unreached a.reach a.known (reachable ends) h

-- what follows a goal that is told
after_goal : (c d : Scope) (p t : HldsGoal) (s : InstMap) (a b : After) → goal d p s ≡ Ok a → goal c t a.known ≡ Ok b → goal c t (known_after s (goal d p s)) ≡ Ok b
after_goal c d p t s a b h i = subst (λ (v : Verdict After). goal c t (known_after s v) ≡ Ok b) (sym h) i

after_each : (c : Scope) (p : HldsGoal) (ps : HldsGoals) (s : InstMap) (a b : After) → goal c p s ≡ Ok a → each c ps a.known ≡ Ok b → each c ps (known_after s (goal c p s)) ≡ Ok b
after_each c p ps s a b h i = subst (λ (v : Verdict After). each c ps (known_after s v) ≡ Ok b) (sym h) i

last_reach : (x a : After) (b : Bool) → ◌≡◌ {A = Verdict After} (Ok (after x.known b)) (Ok a) → a.reach ≡ b
last_reach x a b h = let same : after x.known b ≡ a = cc in ap (λ (z : After). z.reach) (sym same)

mutual
  goal_stops : (c : Scope) (at : Option ℕ) (p : HldsGoal) (s : InstMap) (a : After) → goal c p s ≡ Ok a → a.reach ≡ false → (goal_pair c at p s).bound ≡ Zero
  goal_stops c at (At l (SimpleGoal g)) s a h stops = simple_stops c at g s a (reach_of (goes_on g) (atomic c.program c.strict l (SimpleGoal g) s) a h) stops
  goal_stops c at (At l (CallGoal site q ys)) s a h stops = absurd (not_reached a (reach_of true (atomic c.program c.strict l (CallGoal site q ys) s) a h) stops)
  goal_stops c at (At l (HoCallGoal site f ys)) s a h stops = absurd (not_reached a (reach_of true (atomic c.program c.strict l (HoCallGoal site f ys) s) a h) stops)
  goal_stops c at (At l (ConjGoal ps)) s a h stops = each_stops c at ps s a h stops
  goal_stops c at (At l (DisjGoal ps)) s a h stops =
      let all = bind_ok (arms c ps s) _ a h in
      disjunction_zero (switch_of c.program ps s) (arm_pairs c (variable_of (switch_of c.program ps s)) ps s)
      (arms_stop c (variable_of (switch_of c.program ps s)) ps s all.0 all.1 (branch_stops l _ s (reachable all.0) a all.2 stops))
  goal_stops c at (At l (IfGoal p t e)) s a h stops =
      let first = bind_ok (goal (within c) p s) _ a h in
      let tested = bind_ok (binds_inside l (outside c.all (variables p ++ (variables t ++ variables e))) s first.0) _ a first.2 in
      let second = bind_ok (goal c t first.0.known) _ a tested.2 in
      let third = bind_ok (goal c e s) _ a second.2 in
      let none = branch_stops l _ s (reachable (second.0 ∷ third.0 ∷ [])) a third.2 stops in
      let one = first_unreached second.0 (third.0 ∷ []) none in
      let two = first_unreached third.0 [] one.1 in
      rw (
        goal_stops c None t (known_after s (goal (within c) p s)) second.0 (after_goal c (within c) p t s first.0 second.0 first.1 second.1) one.0,
        goal_stops c None e s third.0 third.1 two.0,
      ) refl
  goal_stops c at (At l (NotGoal p)) s a h stops =
      let first = bind_ok (goal (within c) p s) _ a h in
      let tested = bind_ok (binds_inside l (outside c.all (variables p)) s first.0) _ a first.2 in
      absurd (not_reached a (last_reach (after s true) a true tested.2) stops)
  goal_stops c at (At l (SomeGoal vs p)) s a h stops =
      let first = bind_ok (goal (within c) p s) _ a h in
      let tested = bind_ok (binds_inside l (outside c.all (vs ++ variables p)) s first.0) _ a first.2 in
      let quantified = bind_ok (fault_unless (not (some_of (outside c.all (vs ++ variables p)) vs)) (BranchBinds l)) (λ _. Ok (after s true)) a tested.2 in
      absurd (not_reached a (last_reach (after s true) a true quantified.2) stops)

  each_stops : (c : Scope) (at : Option ℕ) (ps : HldsGoals) (s : InstMap) (a : After) → each c ps s ≡ Ok a → a.reach ≡ false → (each_pair c at ps s).bound ≡ Zero
  each_stops c at nothing s a h stops = absurd (not_reached a (last_reach (after s true) a true h) stops)
  each_stops c at (also p ps) s a h stops =
      let first = bind_ok (goal c p s) _ a h in
      let rest = bind_ok (each c ps first.0.known) _ a first.2 in
      elim (and_cases first.0.reach rest.0.reach (sym (last_reach rest.0 a (first.0.reach && rest.0.reach) rest.2) ∙ stops)) [
        | inl w ↦ product_left _ _ (goal_stops c at p s first.0 first.1 w)
        | inr w ↦ product_right (goal_pair c at p s).bound _ (each_stops c None ps (known_after s (goal c p s)) rest.0 (after_each c p ps s first.0 rest.0 first.1 rest.1) w)
      ]

  arms_stop : (c : Scope) (at : Option ℕ) (ps : HldsGoals) (s : InstMap) (ends : List After) → arms c ps s ≡ Ok ends → reachable ends ≡ [] → AllZero (arm_pairs c at ps s)
  arms_stop c at nothing s ends h none = tt
  arms_stop c at (also p ps) s ends h none =
      let first = bind_ok (goal c p s) _ ends h in
      let rest = bind_ok (arms c ps s) _ ends first.2 in
      let same : first.0 ∷ rest.0 ≡ ends = cc in
      let two = first_unreached first.0 rest.0 (ap reachable same ∙ none) in
      (goal_stops c at p s first.0 first.1 two.0, arms_stop c at ps s rest.0 rest.1 two.1)

-- ---- what a condition binds, in two words

or-false : (b : Bool) → b ≡ (b || false)
or-false true = refl
or-false false = refl

or-assoc : (a b d : Bool) → ((a || b) || d) ≡ (a || (b || d))
or-assoc true b d = refl
or-assoc false b d = refl

first_below : (m : ℕ) (f : ℕ → Bool) → some_below (suc m) f ≡ (f 0 || some_below m (λ x. f (suc x)))
first_below zero f = or-false (f 0)
first_below (suc m) f = ap (λ b. b || f (suc m)) (first_below m f) ∙ or-assoc (f 0) (some_below m (λ x. f (suc x))) (f (suc m))

none_below : (m : ℕ) (f : ℕ → Bool) → ((x : ℕ) → f x ≡ false) → some_below m f ≡ false
none_below zero f none = refl
none_below (suc m) f none = rw (none_below m f none, none m) refl

-- it is bound anew at the place x, counted from n on
abbrev new_at : (ℕ → Bool) → ℕ → InstMap → InstMap → ℕ → Bool
new_at p n s r x = p (n + x) && is_newly_bound (known_at s x) (known_at r x)

and-true : (b : Bool) → b ≡ (b && true)
and-true true = refl
and-true false = refl

and-false : (b : Bool) → false ≡ (b && false)
and-false true = refl
and-false false = refl

one_new : (p : ℕ → Bool) (n : ℕ) (b : Bool) (ns : List ℕ) → some_of p (cond b (n ∷ ns) ns) ≡ ((p n && b) || some_of p ns)
one_new p n true ns = ap (λ b. b || some_of p ns) (and-true (p n))
one_new p n false ns = ap (λ b. b || some_of p ns) (and-false (p n))

same_below : (m : ℕ) (f g : ℕ → Bool) → ((x : ℕ) → f x ≡ g x) → some_below m f ≡ some_below m g
same_below zero f g same = refl
same_below (suc m) f g same = ap (λ b. b || f m) (same_below m f g same) ∙ ap (λ b. some_below m g || b) (same m)

plus-zero : (n : ℕ) → n ≡ n + 0
plus-zero n = omega arith

plus-suc : (n x : ℕ) → suc n + x ≡ n + suc x
plus-suc n x = omega arith

zero-plus : (x : ℕ) → 0 + x ≡ x
zero-plus x = omega arith

free_after : (k : Instantiation) → is_newly_bound k free ≡ false
free_after free = refl
free_after (has t used) = refl

and-no : (a b : Bool) → b ≡ false → (a && b) ≡ false
and-no true b h = h
and-no false b h = refl

some_new : (p : ℕ → Bool) (n : ℕ) (s r : InstMap) → some_of p (newly_bound n s r) ≡ some_below (length s) (new_at p n s r)
some_new p n [] r = refl
some_new p n (k ∷ s) [] = sym (none_below (suc (length s)) (new_at p n (k ∷ s) []) (λ x. and-no (p (n + x)) _ (free_after (known_at (k ∷ s) x))))
some_new p n (k ∷ s) (j ∷ r) =
    one_new p n (is_newly_bound k j) (newly_bound (suc n) s r)
    ∙ (ap (λ b. (p n && is_newly_bound k j) || b) (some_new p (suc n) s r)
    ∙ (ap (λ b. b || some_below (length s) (new_at p (suc n) s r)) (ap (λ m. p m && is_newly_bound k j) (plus-zero n))
    ∙ (ap (λ b. (p (n + 0) && is_newly_bound k j) || b)
    (same_below (length s) (new_at p (suc n) s r) (λ x. new_at p n (k ∷ s) (j ∷ r) (suc x)) (λ x. ap (λ m. p m && is_newly_bound (known_at s x) (known_at r x)) (plus-suc n x)))
    ∙ sym (first_below (length s) (new_at p n (k ∷ s) (j ∷ r))))))

same_known : (k : Instantiation) → is_newly_bound k k ≡ false
same_known free = refl
same_known (has t used) = refl

binds_nothing : (p : ℕ → Bool) (s : InstMap) → binds_some p s s ≡ false
binds_nothing p s = none_below (length s) (λ x. p x && is_newly_bound (known_at s x) (known_at s x)) (λ x. and-no (p x) _ (same_known (known_at s x)))

-- by whether the place after it is reachable
reached_binds : (p : ℕ → Bool) (b : Bound) (s r : InstMap) (reach : Bool) → (reach ≡ false → b ≡ Zero)
    → (is_many b && some_of p (cond reach (newly_bound 0 s r) [])) ≡ (is_many b && binds_some p s r)
reached_binds p b s r true stops = ap (λ x. is_many b && x)
    (some_new p 0 s r
    ∙ same_below (length s) (new_at p 0 s r) (λ x. p x && is_newly_bound (known_at s x) (known_at r x)) (λ x. ap (λ m. p m && is_newly_bound (known_at s x) (known_at r x)) (zero-plus x)))
reached_binds p b s r false stops = rw (stops refl) refl

verdict_binds : (p : ℕ → Bool) (b : Bound) (s : InstMap) (v : Verdict After) → ((a : After) → v ≡ Ok a → a.reach ≡ false → b ≡ Zero)
    → (is_many b && some_of p (binds s v)) ≡ (is_many b && binds_some p s (known_after s v))
verdict_binds p b s (Ok a) stops = reached_binds p b s a.known a.reach (stops a refl)
verdict_binds p b s (Err e) stops = ap (λ x. is_many b && x) (sym (binds_nothing p s))

-- a condition with many solutions binds what is bound after it and not before
pub condition_binds : (c : Scope) (p : ℕ → Bool) (q : HldsGoal) (s : InstMap)
    → (is_many (goal_pair c None q s).bound && some_of p (binds s (goal c q s))) ≡ (is_many (goal_pair c None q s).bound && binds_some p s (known_after s (goal c q s)))
condition_binds c p q s = verdict_binds p (goal_pair c None q s).bound s (goal c q s) (λ a h. goal_stops c None q s a h)

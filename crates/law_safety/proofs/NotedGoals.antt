-- What the mode rules have as known before the goal of a number is one thing, and the checks' notes are made of it: from that
-- number on the program's goals, what is known before each, and the notes begin with those of the goal. By induction on how
-- the rules come to the goal.
use Rattle.std.proofs.Common.{◌≡◌, refl, sym, ap, ◌∙◌, subst, arith, ℕ, zero, suc, ◌+◌, Bool, List, [], ◌∷◌, ◌++◌, length, length-append, drop, Some, Ok, slice_get, append_assoc}
use Rattle.md_hlds.specs.HldsGoal.{HldsGoal, At, GoalExpr, SimpleGoal, CallGoal, HoCallGoal, ConjGoal, DisjGoal, IfGoal, NotGoal, SomeGoal, HldsGoals, nothing, also, goal_size, parts_size, goals_size, goals_within, goals_below, goals_among}
use Rattle.md_hlds.specs.Hlds.{Procedure, Hlds, goals_before, body_number, clause_goals}
use Rattle.md_inst.specs.Instantiation.{InstMap}
use Rattle.md_modes.specs.Branches.{After}
use Rattle.md_modes.specs.Goals.{Scope, within, goal}
use Rattle.md_modes.specs.Modes.{entry, scope_of}
use Rattle.md_modes.specs.Notes.{Note, role_of, known_after, notes, inner_notes, each_notes, arm_notes, notes_from, program_notes}
use Rattle.md_modes.specs.Classes.{role_of_note}
use Rattle.law_safety.specs.Known as known
use Rattle.law_safety.specs.Known.{place, Begins, BeginsParts, BeginsArms, IsNoted}
use Rattle.law_safety.specs.Unfolding.{expr_in}

-- ---- lists

pub at_drop : {A : Type 0} (xs : List A) (n : ℕ) (x : A) (r : List A) → drop n xs ≡ x ∷ r → slice_get xs n ≡ Some x
at_drop [] zero x r e = absurd (cc)
at_drop [] (suc n) x r e = absurd (cc)
at_drop (y ∷ ys) zero x r e = cc
at_drop (y ∷ ys) (suc n) x r e = at_drop ys n x r e

pub drop_one : {A : Type 0} (xs : List A) (n : ℕ) (x : A) (r : List A) → drop n xs ≡ x ∷ r → drop (suc n) xs ≡ r
drop_one [] zero x r e = absurd (cc)
drop_one [] (suc n) x r e = absurd (cc)
drop_one (y ∷ ys) zero x r e = cc
drop_one (y ∷ ys) (suc n) x r e = drop_one ys n x r e

drop_all : {A : Type 0} (xs : List A) (n : ℕ) (ys r : List A) → drop n xs ≡ ys ++ r → drop (n + length ys) xs ≡ r
drop_all xs n [] r e = let m : n + 0 ≡ n = omega arith in rw m e
drop_all xs n (y ∷ ys) r e =
    let m : n + suc (length ys) ≡ suc n + length ys = omega arith in
    rw m (drop_all xs (suc n) ys r (drop_one xs n y (ys ++ r) e))

pub drop_many : {A : Type 0} (xs : List A) (n m : ℕ) (ys r : List A) → length ys ≡ m → drop n xs ≡ ys ++ r → drop (n + m) xs ≡ r
drop_many xs n m ys r size e = subst (λ (k : ℕ). drop (n + k) xs ≡ r) size (drop_all xs n ys r e)

-- ---- what is known before a goal and before each goal within it, outer before inner, in text order

abbrev mutual
  knowns : Scope → HldsGoal → InstMap → List InstMap
  knowns c (At l t) kn = kn ∷ inner_knowns c t kn

  inner_knowns : Scope → GoalExpr → InstMap → List InstMap
  inner_knowns c (SimpleGoal g) kn = []
  inner_knowns c (CallGoal site q ys) kn = []
  inner_knowns c (HoCallGoal site f ys) kn = []
  inner_knowns c (ConjGoal ps) kn = each_knowns c ps kn
  inner_knowns c (DisjGoal ps) kn = arm_knowns c ps kn
  inner_knowns c (IfGoal p t e) kn = knowns (within c) p kn ++ (knowns c t (known_after kn (goal (within c) p kn)) ++ knowns c e kn)
  inner_knowns c (NotGoal p) kn = knowns (within c) p kn
  inner_knowns c (SomeGoal vs p) kn = knowns (within c) p kn

  each_knowns : Scope → HldsGoals → InstMap → List InstMap
  each_knowns c nothing kn = []
  each_knowns c (also p ps) kn = knowns c p kn ++ each_knowns c ps (known_after kn (goal c p kn))

  arm_knowns : Scope → HldsGoals → InstMap → List InstMap
  arm_knowns c nothing kn = []
  arm_knowns c (also p ps) kn = knowns c p kn ++ arm_knowns c ps kn

abbrev knowns_from : Hlds → List Procedure → List InstMap
knowns_from s [] = []
knowns_from s (p ∷ ps) = knowns (scope_of s p) p.body (entry p) ++ knowns_from s ps

-- ---- as many of each as a goal is goals

mutual
  knowns_size : (c : Scope) (p : HldsGoal) (kn : InstMap) → length (knowns c p kn) ≡ goal_size p
  knowns_size c (At l t) kn = ap suc (inner_knowns_size c t kn)

  inner_knowns_size : (c : Scope) (t : GoalExpr) (kn : InstMap) → length (inner_knowns c t kn) ≡ parts_size t
  inner_knowns_size c (SimpleGoal g) kn = refl
  inner_knowns_size c (CallGoal site q ys) kn = refl
  inner_knowns_size c (HoCallGoal site f ys) kn = refl
  inner_knowns_size c (ConjGoal ps) kn = each_knowns_size c ps kn
  inner_knowns_size c (DisjGoal ps) kn = arm_knowns_size c ps kn
  inner_knowns_size c (IfGoal p t e) kn =
      let r = known_after kn (goal (within c) p kn) in
      rw (length-append (knowns (within c) p kn) (knowns c t r ++ knowns c e kn), length-append (knowns c t r) (knowns c e kn), knowns_size (within c) p kn, knowns_size c t r, knowns_size c e kn) refl
  inner_knowns_size c (NotGoal p) kn = knowns_size (within c) p kn
  inner_knowns_size c (SomeGoal vs p) kn = knowns_size (within c) p kn

  each_knowns_size : (c : Scope) (ps : HldsGoals) (kn : InstMap) → length (each_knowns c ps kn) ≡ goals_size ps
  each_knowns_size c nothing kn = refl
  each_knowns_size c (also p ps) kn =
      let r = known_after kn (goal c p kn) in
      rw (length-append (knowns c p kn) (each_knowns c ps r), knowns_size c p kn, each_knowns_size c ps r) refl

  arm_knowns_size : (c : Scope) (ps : HldsGoals) (kn : InstMap) → length (arm_knowns c ps kn) ≡ goals_size ps
  arm_knowns_size c nothing kn = refl
  arm_knowns_size c (also p ps) kn = rw (length-append (knowns c p kn) (arm_knowns c ps kn), knowns_size c p kn, arm_knowns_size c ps kn) refl

mutual
  notes_size : (c : Scope) (p : HldsGoal) (kn : InstMap) → length (notes c p kn) ≡ goal_size p
  notes_size c (At l t) kn = ap suc (inner_size c t kn)

  inner_size : (c : Scope) (t : GoalExpr) (kn : InstMap) → length (inner_notes c t kn) ≡ parts_size t
  inner_size c (SimpleGoal g) kn = refl
  inner_size c (CallGoal site q ys) kn = refl
  inner_size c (HoCallGoal site f ys) kn = refl
  inner_size c (ConjGoal ps) kn = each_size c ps kn
  inner_size c (DisjGoal ps) kn = arms_size c ps kn
  inner_size c (IfGoal p t e) kn =
      let r = known_after kn (goal (within c) p kn) in
      rw (length-append (notes (within c) p kn) (notes c t r ++ notes c e kn), length-append (notes c t r) (notes c e kn), notes_size (within c) p kn, notes_size c t r, notes_size c e kn) refl
  inner_size c (NotGoal p) kn = notes_size (within c) p kn
  inner_size c (SomeGoal vs p) kn = notes_size (within c) p kn

  each_size : (c : Scope) (ps : HldsGoals) (kn : InstMap) → length (each_notes c ps kn) ≡ goals_size ps
  each_size c nothing kn = refl
  each_size c (also p ps) kn =
      let r = known_after kn (goal c p kn) in
      rw (length-append (notes c p kn) (each_notes c ps r), notes_size c p kn, each_size c ps r) refl

  arms_size : (c : Scope) (ps : HldsGoals) (kn : InstMap) → length (arm_notes c ps kn) ≡ goals_size ps
  arms_size c nothing kn = refl
  arms_size c (also p ps) kn = rw (length-append (notes c p kn) (arm_notes c ps kn), notes_size c p kn, arms_size c ps kn) refl

mutual
  within_size : (p : HldsGoal) → length (goals_within p) ≡ goal_size p
  within_size (At l t) = ap suc (below_size t)

  below_size : (t : GoalExpr) → length (goals_below t) ≡ parts_size t
  below_size (SimpleGoal g) = refl
  below_size (CallGoal site q ys) = refl
  below_size (HoCallGoal site f ys) = refl
  below_size (ConjGoal ps) = among_size ps
  below_size (DisjGoal ps) = among_size ps
  below_size (IfGoal p t e) =
      rw (length-append (goals_within p) (goals_within t ++ goals_within e), length-append (goals_within t) (goals_within e), within_size p, within_size t, within_size e) refl
  below_size (NotGoal p) = within_size p
  below_size (SomeGoal vs p) = within_size p

  among_size : (ps : HldsGoals) → length (goals_among ps) ≡ goals_size ps
  among_size nothing = refl
  among_size (also p ps) = rw (length-append (goals_within p) (goals_among ps), within_size p, among_size ps) refl

-- ---- places

-- the goals in text order, with what is known before each and with their notes
record Told : Type 0 where
  goals : List HldsGoal
  maps : List InstMap
  found : List Note

abbrev beside : Told → Told → Told
beside x y = record { goals = x.goals ++ y.goals; maps = x.maps ++ y.maps; found = x.found ++ y.found }

abbrev behind : HldsGoal → InstMap → Note → Told → Told
behind p kn i x = record { goals = p ∷ x.goals; maps = kn ∷ x.maps; found = i ∷ x.found }

abbrev of_goal : Scope → HldsGoal → InstMap → Told
of_goal c p kn = record { goals = goals_within p; maps = knowns c p kn; found = notes c p kn }

abbrev of_parts : Scope → HldsGoals → InstMap → Told
of_parts c ps kn = record { goals = goals_among ps; maps = each_knowns c ps kn; found = each_notes c ps kn }

abbrev of_arms : Scope → HldsGoals → InstMap → Told
of_arms c ps kn = record { goals = goals_among ps; maps = arm_knowns c ps kn; found = arm_notes c ps kn }

abbrev of_clauses : Hlds → List Procedure → Told
of_clauses s qs = record { goals = clause_goals qs; maps = knowns_from s qs; found = notes_from s qs }

-- as many of each as this
record HasSize (x : Told) (m : ℕ) : Type 0 where
  goals : length x.goals ≡ m
  maps : length x.maps ≡ m
  found : length x.found ≡ m

goal_has : (c : Scope) (p : HldsGoal) (kn : InstMap) → HasSize (of_goal c p kn) (goal_size p)
goal_has c p kn = record { goals = within_size p; maps = knowns_size c p kn; found = notes_size c p kn }

-- from this number on all begins with this
record InPlace (all : Told) (n : ℕ) (x : Told) : Type 0 where
  rest : Told
  goals : drop n all.goals ≡ x.goals ++ rest.goals
  maps : drop n all.maps ≡ x.maps ++ rest.maps
  found : drop n all.found ≡ x.found ++ rest.found

inside : (all : Told) (n : ℕ) (p : HldsGoal) (kn : InstMap) (i : Note) (x : Told) → InPlace all n (behind p kn i x) → InPlace all (suc n) x
inside all n p kn i x h = record {
  rest = h.rest;
  goals = drop_one all.goals n p (x.goals ++ h.rest.goals) h.goals;
  maps = drop_one all.maps n kn (x.maps ++ h.rest.maps) h.maps;
  found = drop_one all.found n i (x.found ++ h.rest.found) h.found;
}

front : (all : Told) (n : ℕ) (x y : Told) → InPlace all n (beside x y) → InPlace all n x
front all n x y h = record {
  rest = beside y h.rest;
  goals = h.goals ∙ append_assoc x.goals y.goals h.rest.goals;
  maps = h.maps ∙ append_assoc x.maps y.maps h.rest.maps;
  found = h.found ∙ append_assoc x.found y.found h.rest.found;
}

past : (all : Told) (n m : ℕ) (x y : Told) → HasSize x m → InPlace all n (beside x y) → InPlace all (n + m) y
past all n m x y size h = record {
  rest = h.rest;
  goals = drop_many all.goals n m x.goals (y.goals ++ h.rest.goals) size.goals (h.goals ∙ append_assoc x.goals y.goals h.rest.goals);
  maps = drop_many all.maps n m x.maps (y.maps ++ h.rest.maps) size.maps (h.maps ∙ append_assoc x.maps y.maps h.rest.maps);
  found = drop_many all.found n m x.found (y.found ++ h.rest.found) size.found (h.found ∙ append_assoc x.found y.found h.rest.found);
}

-- the body of the procedure of a number
body_placed : (s : Hlds) (all : Told) (n : ℕ) (qs : List Procedure) (i : ℕ) (p : Procedure) → InPlace all n (of_clauses s qs) → slice_get qs i ≡ Some p
    → InPlace all (n + goals_before qs i) (of_goal (scope_of s p) p.body (entry p))
body_placed s all n [] zero p h is = absurd (cc)
body_placed s all n [] (suc i) p h is = absurd (cc)
body_placed s all n (q ∷ qs) zero p h is =
    let same : q ≡ p = cc in
    let here : n + 0 ≡ n = omega arith in
    subst (λ (k : ℕ). InPlace all k (of_goal (scope_of s p) p.body (entry p))) (sym here)
    (subst (λ (r : Procedure). InPlace all n (of_goal (scope_of s r) r.body (entry r))) same (front all n (of_goal (scope_of s q) q.body (entry q)) (of_clauses s qs) h))
body_placed s all n (q ∷ qs) (suc i) p h is =
    let there : (n + goal_size q.body) + goals_before qs i ≡ n + (goal_size q.body + goals_before qs i) = omega arith in
    subst (λ (k : ℕ). InPlace all k (of_goal (scope_of s p) p.body (entry p))) there
    (body_placed s all (n + goal_size q.body) qs i p (past all n (goal_size q.body) (of_goal (scope_of s q) q.body (entry q)) (of_clauses s qs) (goal_has (scope_of s q) q.body (entry q)) h) is)

pub append_nil : {A : Type 0} (xs : List A) → xs ++ [] ≡ xs
append_nil [] = refl
append_nil (x ∷ xs) = ap (λ ys. x ∷ ys) (append_nil xs)

all_placed : (x : Told) → InPlace x 0 x
all_placed x = record { rest = record { goals = []; maps = []; found = [] }; goals = sym (append_nil x.goals); maps = sym (append_nil x.maps); found = sym (append_nil x.found) }

-- in a program
abbrev whole : Hlds → Told
whole s = of_clauses s s.procedures

body_here : (s : Hlds) (q : ℕ × Procedure) → slice_get s.procedures q.0 ≡ Some q.1 → InPlace (whole s) (body_number s q.0) (of_goal (scope_of s q.1) q.1.body (entry q.1))
body_here s q at =
    let same : 0 + goals_before s.procedures q.0 ≡ goals_before s.procedures q.0 = omega arith in
    subst (λ (k : ℕ). InPlace (whole s) k (of_goal (scope_of s q.1) q.1.body (entry q.1))) same
    (body_placed s (whole s) 0 s.procedures q.0 q.1 (all_placed (whole s)) at)

-- what is known after a goal that is accepted
pub after_is : (v : _) (kn : InstMap) (a : After) → v ≡ Ok a → known_after kn v ≡ a.known
after_is v kn a is = rw is refl

-- the parts of a goal
within_goal : (all : Told) (c : Scope) (n l : ℕ) (t : GoalExpr) (kn : InstMap) → InPlace all n (of_goal c (At l t) kn) → InPlace all (suc n) (record { goals = goals_below t; maps = inner_knowns c t kn; found = inner_notes c t kn })
within_goal all c n l t kn h = inside all n (At l t) kn _ (record { goals = goals_below t; maps = inner_knowns c t kn; found = inner_notes c t kn }) h

-- the branches of an if-then-else
branches : (all : Told) (c : Scope) (n l : ℕ) (p t e : HldsGoal) (kn : InstMap) → InPlace all n (of_goal c (At l (IfGoal p t e)) kn)
    → InPlace all (suc n + goal_size p) (beside (of_goal c t (known_after kn (goal (within c) p kn))) (of_goal c e kn))
branches all c n l p t e kn h =
    past all (suc n) (goal_size p) (of_goal (within c) p kn) (beside (of_goal c t (known_after kn (goal (within c) p kn))) (of_goal c e kn)) (goal_has (within c) p kn) (within_goal all c n l (IfGoal p t e) kn h)

mutual
  goal_here : (s : Hlds) (q : ℕ × Procedure) → slice_get s.procedures q.0 ≡ Some q.1 → (b : Bool) (n : ℕ) (p : HldsGoal) (kn : InstMap) → Begins s q b n p kn → InPlace (whole s) n (of_goal (place s q.1 b) p kn)
  goal_here s q at _ _ _ _ known.body = body_here s q at
  goal_here s q at _ _ _ _ (known.part b n p ps kn h) =
      let c = place s q.1 b in front (whole s) n (of_goal c p kn) (of_parts c ps (known_after kn (goal c p kn))) (parts_here s q at b n (also p ps) kn h)
  goal_here s q at _ _ _ _ (known.arm b n p ps kn h) =
      let c = place s q.1 b in front (whole s) n (of_goal c p kn) (of_arms c ps kn) (arms_here s q at b n (also p ps) kn h)
  goal_here s q at _ _ _ _ (known.condition b n l p t e kn h) =
      let c = place s q.1 b in
      front (whole s) (suc n) (of_goal (within c) p kn) (beside (of_goal c t (known_after kn (goal (within c) p kn))) (of_goal c e kn))
      (within_goal (whole s) c n l (IfGoal p t e) kn (goal_here s q at b n (At l (IfGoal p t e)) kn h))
  goal_here s q at _ _ _ _ (known.then b n l p t e kn a h ok) =
      let c = place s q.1 b in
      subst (λ (k : InstMap). InPlace (whole s) (suc n + goal_size p) (of_goal c t k)) (after_is (goal (within c) p kn) kn a ok)
      (front (whole s) (suc n + goal_size p) (of_goal c t (known_after kn (goal (within c) p kn))) (of_goal c e kn) (branches (whole s) c n l p t e kn (goal_here s q at b n (At l (IfGoal p t e)) kn h)))
  goal_here s q at _ _ _ _ (known.else b n l p t e kn h) =
      let c = place s q.1 b in let r = known_after kn (goal (within c) p kn) in
      past (whole s) (suc n + goal_size p) (goal_size t) (of_goal c t r) (of_goal c e kn) (goal_has c t r) (branches (whole s) c n l p t e kn (goal_here s q at b n (At l (IfGoal p t e)) kn h))
  goal_here s q at _ _ _ _ (known.negated b n l p kn h) = within_goal (whole s) (place s q.1 b) n l (NotGoal p) kn (goal_here s q at b n (At l (NotGoal p)) kn h)
  goal_here s q at _ _ _ _ (known.quantified b n l vs p kn h) = within_goal (whole s) (place s q.1 b) n l (SomeGoal vs p) kn (goal_here s q at b n (At l (SomeGoal vs p)) kn h)

  parts_here : (s : Hlds) (q : ℕ × Procedure) → slice_get s.procedures q.0 ≡ Some q.1 → (b : Bool) (n : ℕ) (ps : HldsGoals) (kn : InstMap) → BeginsParts s q b n ps kn → InPlace (whole s) n (of_parts (place s q.1 b) ps kn)
  parts_here s q at _ _ _ _ (known.parts b n l ps kn h) = within_goal (whole s) (place s q.1 b) n l (ConjGoal ps) kn (goal_here s q at b n (At l (ConjGoal ps)) kn h)
  parts_here s q at _ _ _ _ (known.next_parts b n p ps kn a h ok) =
      let c = place s q.1 b in
      subst (λ (k : InstMap). InPlace (whole s) (n + goal_size p) (of_parts c ps k)) (after_is (goal c p kn) kn a ok)
      (past (whole s) n (goal_size p) (of_goal c p kn) (of_parts c ps (known_after kn (goal c p kn))) (goal_has c p kn) (parts_here s q at b n (also p ps) kn h))

  arms_here : (s : Hlds) (q : ℕ × Procedure) → slice_get s.procedures q.0 ≡ Some q.1 → (b : Bool) (n : ℕ) (ps : HldsGoals) (kn : InstMap) → BeginsArms s q b n ps kn → InPlace (whole s) n (of_arms (place s q.1 b) ps kn)
  arms_here s q at _ _ _ _ (known.arms b n l ps kn h) = within_goal (whole s) (place s q.1 b) n l (DisjGoal ps) kn (goal_here s q at b n (At l (DisjGoal ps)) kn h)
  arms_here s q at _ _ _ _ (known.next_arms b n p ps kn h) =
      let c = place s q.1 b in past (whole s) n (goal_size p) (of_goal c p kn) (of_arms c ps kn) (goal_has c p kn) (arms_here s q at b n (also p ps) kn h)

-- ---- the goal itself

-- what stands at that number
record StandsAt (s : Hlds) (c : Scope) (n : ℕ) (p : HldsGoal) (kn : InstMap) : Type 0 where
  goal : slice_get (whole s).goals n ≡ Some p
  map : slice_get (whole s).maps n ≡ Some kn
  role : role_of_note (slice_get (whole s).found n) ≡ role_of c.program (expr_in p) kn

stands_at : (s : Hlds) (c : Scope) (n : ℕ) (p : HldsGoal) (kn : InstMap) → InPlace (whole s) n (of_goal c p kn) → StandsAt s c n p kn
stands_at s c n (At l t) kn h = record {
  goal = at_drop (whole s).goals n (At l t) (goals_below t ++ h.rest.goals) h.goals;
  map = at_drop (whole s).maps n kn (inner_knowns c t kn ++ h.rest.maps) h.maps;
  role = ap role_of_note (at_drop (whole s).found n _ (inner_notes c t kn ++ h.rest.found) h.found);
}

begins_there : (s : Hlds) (q : ℕ × Procedure) (strict : Bool) (n : ℕ) (p : HldsGoal) (kn : InstMap) → slice_get s.procedures q.0 ≡ Some q.1 → Begins s q strict n p kn → StandsAt s (place s q.1 strict) n p kn
begins_there s q strict n p kn at h = stands_at s (place s q.1 strict) n p kn (goal_here s q at strict n p kn h)

pub noted : (s : Hlds) (q : ℕ × Procedure) (strict : Bool) (n : ℕ) (p : HldsGoal) (kn : InstMap) → slice_get s.procedures q.0 ≡ Some q.1 → Begins s q strict n p kn → IsNoted s n p kn
unfolding program_notes
noted s q strict n p kn at h = let there = begins_there s q strict n p kn at h in record { goal = there.goal; role = there.role }

-- what is known before the goal of a number is one thing
pub one_known : (s : Hlds) (q r : ℕ × Procedure) (b c : Bool) (n : ℕ) (p o : HldsGoal) (kn other : InstMap) → slice_get s.procedures q.0 ≡ Some q.1 → slice_get s.procedures r.0 ≡ Some r.1
    → Begins s q b n p kn → Begins s r c n o other → kn ≡ other
one_known s q r b c n p o kn other at there h g =
    let x = (begins_there s q b n p kn at h).map in let y = (begins_there s r c n o other there g).map in cc

-- What the checks find at the goal of a number is its pair, with the switch whose arm it begins: from that number on the
-- program's findings begin with those of the goal. By induction on how the rules come to the goal.
use Rattle.std.proofs.Common.{◌≡◌, refl, sym, ap, ◌∙◌, subst, arith, ℕ, zero, suc, ◌+◌, Bool, List, [], ◌∷◌, ◌++◌, length, length-append, drop, Option, Some, None, slice_get, append_assoc}
use Rattle.md_hlds.specs.HldsGoal.{HldsGoal, At, GoalExpr, SimpleGoal, CallGoal, HoCallGoal, ConjGoal, DisjGoal, IfGoal, NotGoal, SomeGoal, HldsGoals, nothing, also, goal_size, parts_size, goals_size}
use Rattle.md_hlds.specs.Hlds.{Procedure, Hlds, goals_before, body_number}
use Rattle.md_inst.specs.Instantiation.{InstMap}
use Rattle.md_modes.specs.Goals.{Scope, within, goal}
use Rattle.md_modes.specs.Modes.{entry, scope_of}
use Rattle.md_modes.specs.Notes.{known_after}
use Rattle.md_det.specs.declared.finding.Finding.{Finding}
use Rattle.md_det.specs.Switches.{switch_of, variable_of}
use Rattle.md_det.specs.Findings.{findings, inner_findings, each_findings, arm_findings, findings_from, program_findings}
use Rattle.law_safety.specs.Known as known
use Rattle.law_safety.specs.Known.{place, Begins, BeginsParts, BeginsArms, switches_on, parts_switch_on, arms_switch_on}
use Rattle.law_safety.specs.GoalAnswers.{found_at}
use Rattle.law_safety.proofs.NotedGoals.{at_drop, drop_one, drop_many, append_nil, after_is}

-- ---- as many findings as a goal is goals

mutual
  findings_size : (c : Scope) (at : Option ℕ) (p : HldsGoal) (kn : InstMap) → length (findings c at p kn) ≡ goal_size p
  findings_size c at (At l t) kn = ap suc (inner_size c at t kn)

  inner_size : (c : Scope) (at : Option ℕ) (t : GoalExpr) (kn : InstMap) → length (inner_findings c at t kn) ≡ parts_size t
  inner_size c at (SimpleGoal g) kn = refl
  inner_size c at (CallGoal site q ys) kn = refl
  inner_size c at (HoCallGoal site f ys) kn = refl
  inner_size c at (ConjGoal ps) kn = each_size c at ps kn
  inner_size c at (DisjGoal ps) kn = arms_size c (variable_of (switch_of c.program ps kn)) ps kn
  inner_size c at (IfGoal p t e) kn =
      let r = known_after kn (goal (within c) p kn) in
      rw (length-append (findings (within c) None p kn) (findings c None t r ++ findings c None e kn), length-append (findings c None t r) (findings c None e kn), findings_size (within c) None p kn, findings_size c None t r, findings_size c None e kn) refl
  inner_size c at (NotGoal p) kn = findings_size (within c) None p kn
  inner_size c at (SomeGoal vs p) kn = findings_size (within c) None p kn

  each_size : (c : Scope) (at : Option ℕ) (ps : HldsGoals) (kn : InstMap) → length (each_findings c at ps kn) ≡ goals_size ps
  each_size c at nothing kn = refl
  each_size c at (also p ps) kn =
      let r = known_after kn (goal c p kn) in
      rw (length-append (findings c at p kn) (each_findings c None ps r), findings_size c at p kn, each_size c None ps r) refl

  arms_size : (c : Scope) (at : Option ℕ) (ps : HldsGoals) (kn : InstMap) → length (arm_findings c at ps kn) ≡ goals_size ps
  arms_size c at nothing kn = refl
  arms_size c at (also p ps) kn = rw (length-append (findings c at p kn) (arm_findings c at ps kn), findings_size c at p kn, arms_size c at ps kn) refl

-- ---- places

-- from this number on all begins with this
record InPlace (all : List Finding) (n : ℕ) (fs : List Finding) : Type 0 where
  rest : List Finding
  is : drop n all ≡ fs ++ rest

inside : (all : List Finding) (n : ℕ) (f : Finding) (fs : List Finding) → InPlace all n (f ∷ fs) → InPlace all (suc n) fs
inside all n f fs h = record { rest = h.rest; is = drop_one all n f (fs ++ h.rest) h.is }

front : (all : List Finding) (n : ℕ) (fs gs : List Finding) → InPlace all n (fs ++ gs) → InPlace all n fs
front all n fs gs h = record { rest = gs ++ h.rest; is = h.is ∙ append_assoc fs gs h.rest }

past : (all : List Finding) (n m : ℕ) (fs gs : List Finding) → length fs ≡ m → InPlace all n (fs ++ gs) → InPlace all (n + m) gs
past all n m fs gs size h = record { rest = h.rest; is = drop_many all n m fs (gs ++ h.rest) size (h.is ∙ append_assoc fs gs h.rest) }

-- the body of the procedure of a number
body_placed : (s : Hlds) (all : List Finding) (n : ℕ) (qs : List Procedure) (i : ℕ) (p : Procedure) → InPlace all n (findings_from s qs) → slice_get qs i ≡ Some p
    → InPlace all (n + goals_before qs i) (findings (scope_of s p) None p.body (entry p))
body_placed s all n [] zero p h is = absurd (cc)
body_placed s all n [] (suc i) p h is = absurd (cc)
body_placed s all n (q ∷ qs) zero p h is =
    let same : q ≡ p = cc in
    let here : n + 0 ≡ n = omega arith in
    subst (λ (k : ℕ). InPlace all k (findings (scope_of s p) None p.body (entry p))) (sym here)
    (subst (λ (r : Procedure). InPlace all n (findings (scope_of s r) None r.body (entry r))) same (front all n (findings (scope_of s q) None q.body (entry q)) (findings_from s qs) h))
body_placed s all n (q ∷ qs) (suc i) p h is =
    let there : (n + goal_size q.body) + goals_before qs i ≡ n + (goal_size q.body + goals_before qs i) = omega arith in
    subst (λ (k : ℕ). InPlace all k (findings (scope_of s p) None p.body (entry p))) there
    (body_placed s all (n + goal_size q.body) qs i p (past all n (goal_size q.body) (findings (scope_of s q) None q.body (entry q)) (findings_from s qs) (findings_size (scope_of s q) None q.body (entry q)) h) is)

abbrev whole : Hlds → List Finding
whole s = findings_from s s.procedures

body_here : (s : Hlds) (q : ℕ × Procedure) → slice_get s.procedures q.0 ≡ Some q.1 → InPlace (whole s) (body_number s q.0) (findings (scope_of s q.1) None q.1.body (entry q.1))
body_here s q at =
    let same : 0 + goals_before s.procedures q.0 ≡ goals_before s.procedures q.0 = omega arith in
    subst (λ (k : ℕ). InPlace (whole s) k (findings (scope_of s q.1) None q.1.body (entry q.1))) same
    (body_placed s (whole s) 0 s.procedures q.0 q.1 (record { rest = []; is = sym (append_nil (whole s)) }) at)

-- the parts of a goal
below : (all : List Finding) (c : Scope) (at : Option ℕ) (n l : ℕ) (t : GoalExpr) (kn : InstMap) → InPlace all n (findings c at (At l t) kn) → InPlace all (suc n) (inner_findings c at t kn)
below all c at n l t kn h = inside all n _ (inner_findings c at t kn) h

-- the branches of an if-then-else
branches : (all : List Finding) (c : Scope) (at : Option ℕ) (n l : ℕ) (p t e : HldsGoal) (kn : InstMap) → InPlace all n (findings c at (At l (IfGoal p t e)) kn)
    → InPlace all (suc n + goal_size p) (findings c None t (known_after kn (goal (within c) p kn)) ++ findings c None e kn)
branches all c at n l p t e kn h =
    past all (suc n) (goal_size p) (findings (within c) None p kn) (findings c None t (known_after kn (goal (within c) p kn)) ++ findings c None e kn) (findings_size (within c) None p kn) (below all c at n l (IfGoal p t e) kn h)

mutual
  goal_here : (s : Hlds) (q : ℕ × Procedure) → slice_get s.procedures q.0 ≡ Some q.1 → (b : Bool) (n : ℕ) (p : HldsGoal) (kn : InstMap) → (h : Begins s q b n p kn) → InPlace (whole s) n (findings (place s q.1 b) (switches_on h) p kn)
  goal_here s q at _ _ _ _ known.body = body_here s q at
  goal_here s q at _ _ _ _ (known.part b n p ps kn h) =
      let c = place s q.1 b in front (whole s) n (findings c (parts_switch_on h) p kn) (each_findings c None ps (known_after kn (goal c p kn))) (parts_here s q at b n (also p ps) kn h)
  goal_here s q at _ _ _ _ (known.arm b n p ps kn h) =
      let c = place s q.1 b in front (whole s) n (findings c (arms_switch_on h) p kn) (arm_findings c (arms_switch_on h) ps kn) (arms_here s q at b n (also p ps) kn h)
  goal_here s q at _ _ _ _ (known.condition b n l p t e kn h) =
      let c = place s q.1 b in
      front (whole s) (suc n) (findings (within c) None p kn) (findings c None t (known_after kn (goal (within c) p kn)) ++ findings c None e kn)
      (below (whole s) c (switches_on h) n l (IfGoal p t e) kn (goal_here s q at b n (At l (IfGoal p t e)) kn h))
  goal_here s q at _ _ _ _ (known.then b n l p t e kn a h ok) =
      let c = place s q.1 b in
      subst (λ (k : InstMap). InPlace (whole s) (suc n + goal_size p) (findings c None t k)) (after_is (goal (within c) p kn) kn a ok)
      (front (whole s) (suc n + goal_size p) (findings c None t (known_after kn (goal (within c) p kn))) (findings c None e kn) (branches (whole s) c (switches_on h) n l p t e kn (goal_here s q at b n (At l (IfGoal p t e)) kn h)))
  goal_here s q at _ _ _ _ (known.else b n l p t e kn h) =
      let c = place s q.1 b in let r = known_after kn (goal (within c) p kn) in
      past (whole s) (suc n + goal_size p) (goal_size t) (findings c None t r) (findings c None e kn) (findings_size c None t r) (branches (whole s) c (switches_on h) n l p t e kn (goal_here s q at b n (At l (IfGoal p t e)) kn h))
  goal_here s q at _ _ _ _ (known.negated b n l p kn h) = below (whole s) (place s q.1 b) (switches_on h) n l (NotGoal p) kn (goal_here s q at b n (At l (NotGoal p)) kn h)
  goal_here s q at _ _ _ _ (known.quantified b n l vs p kn h) = below (whole s) (place s q.1 b) (switches_on h) n l (SomeGoal vs p) kn (goal_here s q at b n (At l (SomeGoal vs p)) kn h)

  parts_here : (s : Hlds) (q : ℕ × Procedure) → slice_get s.procedures q.0 ≡ Some q.1 → (b : Bool) (n : ℕ) (ps : HldsGoals) (kn : InstMap) → (h : BeginsParts s q b n ps kn) → InPlace (whole s) n (each_findings (place s q.1 b) (parts_switch_on h) ps kn)
  parts_here s q at _ _ _ _ (known.parts b n l ps kn h) = below (whole s) (place s q.1 b) (switches_on h) n l (ConjGoal ps) kn (goal_here s q at b n (At l (ConjGoal ps)) kn h)
  parts_here s q at _ _ _ _ (known.next_parts b n p ps kn a h ok) =
      let c = place s q.1 b in
      subst (λ (k : InstMap). InPlace (whole s) (n + goal_size p) (each_findings c None ps k)) (after_is (goal c p kn) kn a ok)
      (past (whole s) n (goal_size p) (findings c (parts_switch_on h) p kn) (each_findings c None ps (known_after kn (goal c p kn))) (findings_size c (parts_switch_on h) p kn) (parts_here s q at b n (also p ps) kn h))

  arms_here : (s : Hlds) (q : ℕ × Procedure) → slice_get s.procedures q.0 ≡ Some q.1 → (b : Bool) (n : ℕ) (ps : HldsGoals) (kn : InstMap) → (h : BeginsArms s q b n ps kn) → InPlace (whole s) n (arm_findings (place s q.1 b) (arms_switch_on h) ps kn)
  arms_here s q at _ _ _ _ (known.arms b n l ps kn h) = below (whole s) (place s q.1 b) (switches_on h) n l (DisjGoal ps) kn (goal_here s q at b n (At l (DisjGoal ps)) kn h)
  arms_here s q at _ _ _ _ (known.next_arms b n p ps kn h) =
      let c = place s q.1 b in past (whole s) n (goal_size p) (findings c (arms_switch_on h) p kn) (arm_findings c (arms_switch_on h) ps kn) (findings_size c (arms_switch_on h) p kn) (arms_here s q at b n (also p ps) kn h)

-- ---- the goal itself

at_front : (all : List Finding) (s : Hlds) (p : Procedure) (b : Bool) (at : Option ℕ) (n : ℕ) (g : HldsGoal) (kn : InstMap) → InPlace all n (findings (place s p b) at g kn) → slice_get all n ≡ Some (found_at s p b at g kn)
at_front all s p b at n (At l t) kn h = at_drop all n (found_at s p b at (At l t) kn) (inner_findings (place s p b) at t kn ++ h.rest) h.is

pub pairs_are_found : (s : Hlds) (q : ℕ × Procedure) (strict : Bool) (n : ℕ) (p : HldsGoal) (kn : InstMap) → slice_get s.procedures q.0 ≡ Some q.1 → (before : Begins s q strict n p kn)
    → slice_get (program_findings s) n ≡ Some (found_at s q.1 strict (switches_on before) p kn)
unfolding program_findings
pairs_are_found s q strict n p kn at before = at_front (whole s) s q.1 strict (switches_on before) n p kn (goal_here s q at strict n p kn before)

-- A table of a program's goals: what each goal begins by, and where it leads as it ends.
use Rattle.std.proofs.Common.{◌≡◌, refl, sym, ap, ◌∙◌, subst, arith, ℕ, zero, suc, ◌+◌, Bool, true, false, List, [], ◌∷◌, ◌++◌, length, length-append, drop, Option, Some, None, slice_get, append_assoc}
use Rattle.md_hlds.specs.HldsGoal.{HldsGoal, At, GoalExpr, SimpleGoal, CallGoal, HoCallGoal, ConjGoal, DisjGoal, IfGoal, NotGoal, SomeGoal, HldsGoals, nothing, also, goal_size, parts_size, goals_size}
use Rattle.md_hlds.specs.Hlds.{Procedure, Hlds, goals_before, body_number}
use Rattle.md_det.specs.declared.finding.Finding.{Finding}
use Rattle.md_det.specs.declared.finding.Switch.{Switch}
use Rattle.md_det.specs.Findings.{program_findings, switch_at}
use Rattle.law_safety.proofs.NotedGoals.{at_drop, drop_one, drop_many, append_nil}

-- ---- what leads to what

-- What leads on: a turn of a goal, the end of one, a choice of the goal i that falls on j, a call of a procedure, an exit of
-- a call at a site; or nothing.
pub data Cause : Type 0 where
  ByTurn : (n : ℕ) → Cause
  ByEnd : (n : ℕ) → Cause
  ByChoice : (i j : ℕ) → Cause
  ByCall : (q : ℕ) → Cause
  ByExit : (site : ℕ) → Cause
  ByNothing : (n : ℕ) → Cause

-- What it leads to: a turn of a goal, the end of the goal n by way of its part j, a choice of the goal i, that it falls on j,
-- a call at a site, an exit of a procedure; or nothing.
pub data Effect : Type 0 where
  Begins : (n : ℕ) → Effect
  Ends : (n j : ℕ) → Effect
  Chooses : (i : ℕ) → Effect
  Picks : (i j : ℕ) → Effect
  CallsAt : (site : ℕ) → Effect
  ExitsOf : (q : ℕ) → Effect
  Nothing : (n : ℕ) → Effect

-- ---- the table

pub record Spot : Type 0 where
  pub begun : List Cause
  pub ended : List Effect
  pub goal : HldsGoal

-- how the arms of a disjunction begin: the first by the disjunction's turn, a later one by nothing, those of a switch by its choice
pub data How : Type 0 where
  AtOnce : How
  Later : How
  Chosen : How

abbrev pub how_of_whole : Bool → How
how_of_whole true = Chosen
how_of_whole false = Later

abbrev pub how_of : Option Switch → How
how_of None = AtOnce
how_of (Some w) = how_of_whole w.whole

abbrev pub later : How → How
later AtOnce = Later
later Later = Later
later Chosen = Chosen

abbrev pub arm_begun : ℕ → ℕ → How → List Cause
arm_begun n m AtOnce = ByTurn n ∷ []
arm_begun n m Later = []
arm_begun n m Chosen = ByChoice n m ∷ []

-- where a part at m of the conjunction of number n leads, when `next` is the number after it and these are the parts after it
abbrev pub part_ended : (n m next : ℕ) → HldsGoals → List Effect
part_ended n m next nothing = Ends n m ∷ []
part_ended n m next (also p ps) = Begins next ∷ []

abbrev mutual
  pub spots_in : List Finding → ℕ → List Cause → List Effect → HldsGoal → List Spot
  spots_in fs n begun ended (At l t) = record { begun = begun; ended = ended; goal = At l t } ∷ spots_below fs n t

  pub spots_below : List Finding → ℕ → GoalExpr → List Spot
  spots_below fs n (SimpleGoal g) = []
  spots_below fs n (CallGoal site q ys) = []
  spots_below fs n (HoCallGoal site f ys) = []
  spots_below fs n (ConjGoal ps) = part_spots fs n (ByTurn n) (suc n) ps
  spots_below fs n (DisjGoal ps) = arm_spots fs n (how_of (switch_at fs n)) (suc n) ps
  spots_below fs n (IfGoal c t e) =
      spots_in fs (suc n) (ByTurn n ∷ []) (Begins (suc n + goal_size c) ∷ []) c
      ++ (spots_in fs (suc n + goal_size c) (ByEnd (suc n) ∷ ByChoice n (suc n + goal_size c) ∷ []) (Ends n (suc n + goal_size c) ∷ []) t
      ++ spots_in fs (suc n + goal_size c + goal_size t) (ByChoice n (suc n + goal_size c + goal_size t) ∷ []) (Ends n (suc n + goal_size c + goal_size t) ∷ []) e)
  spots_below fs n (NotGoal c) = spots_in fs (suc n) (ByTurn n ∷ []) (Picks n (suc n) ∷ []) c
  spots_below fs n (SomeGoal vs c) = spots_in fs (suc n) (ByTurn n ∷ []) (Ends n (suc n) ∷ []) c

  pub part_spots : List Finding → ℕ → Cause → ℕ → HldsGoals → List Spot
  part_spots fs n by m nothing = []
  part_spots fs n by m (also p ps) =
      spots_in fs m (by ∷ []) (part_ended n m (m + goal_size p) ps) p ++ part_spots fs n (ByEnd m) (m + goal_size p) ps

  pub arm_spots : List Finding → ℕ → How → ℕ → HldsGoals → List Spot
  arm_spots fs n how m nothing = []
  arm_spots fs n how m (also p ps) = spots_in fs m (arm_begun n m how) (Ends n m ∷ []) p ++ arm_spots fs n (later how) (m + goal_size p) ps

abbrev pub clause_spots : List Finding → (q n : ℕ) → List Procedure → List Spot
clause_spots fs q n [] = []
clause_spots fs q n (p ∷ ps) = spots_in fs n (ByCall q ∷ []) (ExitsOf q ∷ []) p.body ++ clause_spots fs (suc q) (n + goal_size p.body) ps

abbrev pub spots : Hlds → List Spot
spots s = clause_spots (program_findings s) 0 0 s.procedures

-- ---- as many spots as goals

mutual
  pub spots_size : (fs : List Finding) (n : ℕ) (b : List Cause) (e : List Effect) (p : HldsGoal) → length (spots_in fs n b e p) ≡ goal_size p
  spots_size fs n b e (At l t) = ap suc (below_size fs n t)

  below_size : (fs : List Finding) (n : ℕ) (t : GoalExpr) → length (spots_below fs n t) ≡ parts_size t
  below_size fs n (SimpleGoal g) = refl
  below_size fs n (CallGoal site q ys) = refl
  below_size fs n (HoCallGoal site f ys) = refl
  below_size fs n (ConjGoal ps) = part_size fs n (ByTurn n) (suc n) ps
  below_size fs n (DisjGoal ps) = arm_size fs n (how_of (switch_at fs n)) (suc n) ps
  below_size fs n (IfGoal c t e) =
      let m : ℕ = suc n + goal_size c in let k : ℕ = suc n + goal_size c + goal_size t in
      let a : List Spot = spots_in fs (suc n) (ByTurn n ∷ []) (Begins m ∷ []) c in
      let b : List Spot = spots_in fs m (ByEnd (suc n) ∷ ByChoice n m ∷ []) (Ends n m ∷ []) t in
      let d : List Spot = spots_in fs k (ByChoice n k ∷ []) (Ends n k ∷ []) e in
      rw (length-append a (b ++ d), length-append b d, spots_size fs (suc n) (ByTurn n ∷ []) (Begins m ∷ []) c, spots_size fs m (ByEnd (suc n) ∷ ByChoice n m ∷ []) (Ends n m ∷ []) t, spots_size fs k (ByChoice n k ∷ []) (Ends n k ∷ []) e) refl
  below_size fs n (NotGoal c) = spots_size fs (suc n) (ByTurn n ∷ []) (Picks n (suc n) ∷ []) c
  below_size fs n (SomeGoal vs c) = spots_size fs (suc n) (ByTurn n ∷ []) (Ends n (suc n) ∷ []) c

  part_size : (fs : List Finding) (n : ℕ) (by : Cause) (m : ℕ) (ps : HldsGoals) → length (part_spots fs n by m ps) ≡ goals_size ps
  part_size fs n by m nothing = refl
  part_size fs n by m (also p ps) =
      rw (
        length-append (spots_in fs m (by ∷ []) (part_ended n m (m + goal_size p) ps) p) (part_spots fs n (ByEnd m) (m + goal_size p) ps),
        spots_size fs m (by ∷ []) (part_ended n m (m + goal_size p) ps) p,
        part_size fs n (ByEnd m) (m + goal_size p) ps,
      ) refl

  arm_size : (fs : List Finding) (n : ℕ) (how : How) (m : ℕ) (ps : HldsGoals) → length (arm_spots fs n how m ps) ≡ goals_size ps
  arm_size fs n how m nothing = refl
  arm_size fs n how m (also p ps) =
      rw (
        length-append (spots_in fs m (arm_begun n m how) (Ends n m ∷ []) p) (arm_spots fs n (later how) (m + goal_size p) ps),
        spots_size fs m (arm_begun n m how) (Ends n m ∷ []) p,
        arm_size fs n (later how) (m + goal_size p) ps,
      ) refl

-- ---- places

-- from this number on all begins with these
pub record InPlace (all : List Spot) (n : ℕ) (xs : List Spot) : Type 0 where
  pub rest : List Spot
  pub is : drop n all ≡ xs ++ rest

inside : (all : List Spot) (n : ℕ) (x : Spot) (xs : List Spot) → InPlace all n (x ∷ xs) → InPlace all (suc n) xs
inside all n x xs h = record { rest = h.rest; is = drop_one all n x (xs ++ h.rest) h.is }

front : (all : List Spot) (n : ℕ) (xs ys : List Spot) → InPlace all n (xs ++ ys) → InPlace all n xs
front all n xs ys h = record { rest = ys ++ h.rest; is = h.is ∙ append_assoc xs ys h.rest }

past : (all : List Spot) (n m : ℕ) (xs ys : List Spot) → length xs ≡ m → InPlace all n (xs ++ ys) → InPlace all (n + m) ys
past all n m xs ys size h = record { rest = h.rest; is = drop_many all n m xs (ys ++ h.rest) size (h.is ∙ append_assoc xs ys h.rest) }

-- The goal p has the number n, begins by these and leads to these.
pub record IsAt (s : Hlds) (n : ℕ) (begun : List Cause) (ended : List Effect) (p : HldsGoal) : Type 0 where
  pub place : InPlace (spots s) n (spots_in (program_findings s) n begun ended p)

abbrev pub spot : List Cause → List Effect → HldsGoal → Spot
spot b e p = record { begun = b; ended = e; goal = p }

pub spot_is : (s : Hlds) (n : ℕ) (b : List Cause) (e : List Effect) (p : HldsGoal) → IsAt s n b e p → slice_get (spots s) n ≡ Some (spot b e p)
spot_is s n b e (At l t) h = at_drop (spots s) n (spot b e (At l t)) (spots_below (program_findings s) n t ++ h.place.rest) h.place.is

below : (s : Hlds) (n l : ℕ) (b : List Cause) (e : List Effect) (t : GoalExpr) → IsAt s n b e (At l t) → InPlace (spots s) (suc n) (spots_below (program_findings s) n t)
below s n l b e t h = inside (spots s) n (spot b e (At l t)) (spots_below (program_findings s) n t) h.place

-- ---- bodies

body_placed : (fs : List Finding) (all : List Spot) (q n : ℕ) (ps : List Procedure) (i : ℕ) (p : Procedure) → InPlace all n (clause_spots fs q n ps) → slice_get ps i ≡ Some p
    → InPlace all (n + goals_before ps i) (spots_in fs (n + goals_before ps i) (ByCall (q + i) ∷ []) (ExitsOf (q + i) ∷ []) p.body)
body_placed fs all q n [] zero p h is = absurd (cc)
body_placed fs all q n [] (suc i) p h is = absurd (cc)
body_placed fs all q n (x ∷ ps) zero p h is =
    let same : x ≡ p = cc in
    let here : n + 0 ≡ n = omega arith in
    let this : q + 0 ≡ q = omega arith in
    rw (here, this) (subst (λ (r : Procedure). InPlace all n (spots_in fs n (ByCall q ∷ []) (ExitsOf q ∷ []) r.body)) same
    (front all n (spots_in fs n (ByCall q ∷ []) (ExitsOf q ∷ []) x.body) (clause_spots fs (suc q) (n + goal_size x.body) ps) h))
body_placed fs all q n (x ∷ ps) (suc i) p h is =
    let there : n + (goal_size x.body + goals_before ps i) ≡ (n + goal_size x.body) + goals_before ps i = omega arith in
    let this : q + suc i ≡ suc q + i = omega arith in
    rw (there, this) (body_placed fs all (suc q) (n + goal_size x.body) ps i p
    (past all n (goal_size x.body) (spots_in fs n (ByCall q ∷ []) (ExitsOf q ∷ []) x.body) (clause_spots fs (suc q) (n + goal_size x.body) ps) (spots_size fs n (ByCall q ∷ []) (ExitsOf q ∷ []) x.body) h) is)

pub body_at : (s : Hlds) (q : ℕ × Procedure) → slice_get s.procedures q.0 ≡ Some q.1 → IsAt s (body_number s q.0) (ByCall q.0 ∷ []) (ExitsOf q.0 ∷ []) q.1.body
body_at s q at =
    let here : 0 + goals_before s.procedures q.0 ≡ goals_before s.procedures q.0 = omega arith in
    let this : 0 + q.0 ≡ q.0 = omega arith in
    let placed = body_placed (program_findings s) (spots s) 0 0 s.procedures q.0 q.1 (record { rest = []; is = sym (append_nil (spots s)) }) at in
    record {
      place =
          subst (λ (m : ℕ). InPlace (spots s) m (spots_in (program_findings s) m (ByCall q.0 ∷ []) (ExitsOf q.0 ∷ []) q.1.body)) here
          (subst (λ (r : ℕ). InPlace (spots s) (0 + goals_before s.procedures q.0) (spots_in (program_findings s) (0 + goals_before s.procedures q.0) (ByCall r ∷ []) (ExitsOf r ∷ []) q.1.body)) this placed);
    }

-- ---- parts

pub condition_at : (s : Hlds) (n l : ℕ) (b : List Cause) (d : List Effect) (c t e : HldsGoal) → IsAt s n b d (At l (IfGoal c t e))
    → IsAt s (suc n) (ByTurn n ∷ []) (Begins (suc n + goal_size c) ∷ []) c
condition_at s n l b d c t e h = record { place = front (spots s) (suc n) (spots_in (program_findings s) (suc n) (ByTurn n ∷ []) (Begins (suc n + goal_size c) ∷ []) c) _ (below s n l b d (IfGoal c t e) h) }

branches : (s : Hlds) (n l : ℕ) (b : List Cause) (d : List Effect) (c t e : HldsGoal) → IsAt s n b d (At l (IfGoal c t e))
    → InPlace (spots s) (suc n + goal_size c) (spots_in (program_findings s) (suc n + goal_size c) (ByEnd (suc n) ∷ ByChoice n (suc n + goal_size c) ∷ []) (Ends n (suc n + goal_size c) ∷ []) t
    ++ spots_in (program_findings s) (suc n + goal_size c + goal_size t) (ByChoice n (suc n + goal_size c + goal_size t) ∷ []) (Ends n (suc n + goal_size c + goal_size t) ∷ []) e)
branches s n l b d c t e h =
    past (spots s) (suc n) (goal_size c) (spots_in (program_findings s) (suc n) (ByTurn n ∷ []) (Begins (suc n + goal_size c) ∷ []) c) _
    (spots_size (program_findings s) (suc n) (ByTurn n ∷ []) (Begins (suc n + goal_size c) ∷ []) c) (below s n l b d (IfGoal c t e) h)

pub then_at : (s : Hlds) (n l : ℕ) (b : List Cause) (d : List Effect) (c t e : HldsGoal) → IsAt s n b d (At l (IfGoal c t e))
    → IsAt s (suc n + goal_size c) (ByEnd (suc n) ∷ ByChoice n (suc n + goal_size c) ∷ []) (Ends n (suc n + goal_size c) ∷ []) t
then_at s n l b d c t e h = record { place = front (spots s) (suc n + goal_size c) (spots_in (program_findings s) (suc n + goal_size c) (ByEnd (suc n) ∷ ByChoice n (suc n + goal_size c) ∷ []) (Ends n (suc n + goal_size c) ∷ []) t) _ (branches s n l b d c t e h) }

pub else_at : (s : Hlds) (n l : ℕ) (b : List Cause) (d : List Effect) (c t e : HldsGoal) → IsAt s n b d (At l (IfGoal c t e))
    → IsAt s (suc n + goal_size c + goal_size t) (ByChoice n (suc n + goal_size c + goal_size t) ∷ []) (Ends n (suc n + goal_size c + goal_size t) ∷ []) e
else_at s n l b d c t e h = record {
  place =
      past (spots s) (suc n + goal_size c) (goal_size t) (spots_in (program_findings s) (suc n + goal_size c) (ByEnd (suc n) ∷ ByChoice n (suc n + goal_size c) ∷ []) (Ends n (suc n + goal_size c) ∷ []) t) _
      (spots_size (program_findings s) (suc n + goal_size c) (ByEnd (suc n) ∷ ByChoice n (suc n + goal_size c) ∷ []) (Ends n (suc n + goal_size c) ∷ []) t) (branches s n l b d c t e h);
}

pub negated_at : (s : Hlds) (n l : ℕ) (b : List Cause) (d : List Effect) (c : HldsGoal) → IsAt s n b d (At l (NotGoal c)) → IsAt s (suc n) (ByTurn n ∷ []) (Picks n (suc n) ∷ []) c
negated_at s n l b d c h = record { place = below s n l b d (NotGoal c) h }

pub quantified_at : (s : Hlds) (n l : ℕ) (b : List Cause) (d : List Effect) (vs : List ℕ) (c : HldsGoal) → IsAt s n b d (At l (SomeGoal vs c)) → IsAt s (suc n) (ByTurn n ∷ []) (Ends n (suc n) ∷ []) c
quantified_at s n l b d vs c h = record { place = below s n l b d (SomeGoal vs c) h }

-- the parts of a conjunction and the arms of a disjunction, from number m on
pub record PartsAt (s : Hlds) (n : ℕ) (by : Cause) (m : ℕ) (ps : HldsGoals) : Type 0 where
  pub place : InPlace (spots s) m (part_spots (program_findings s) n by m ps)

pub record ArmsAt (s : Hlds) (n : ℕ) (how : How) (m : ℕ) (ps : HldsGoals) : Type 0 where
  pub place : InPlace (spots s) m (arm_spots (program_findings s) n how m ps)

pub parts_at : (s : Hlds) (n l : ℕ) (b : List Cause) (d : List Effect) (ps : HldsGoals) → IsAt s n b d (At l (ConjGoal ps)) → PartsAt s n (ByTurn n) (suc n) ps
parts_at s n l b d ps h = record { place = below s n l b d (ConjGoal ps) h }

pub arms_at : (s : Hlds) (n l : ℕ) (b : List Cause) (d : List Effect) (ps : HldsGoals) → IsAt s n b d (At l (DisjGoal ps)) → ArmsAt s n (how_of (switch_at (program_findings s) n)) (suc n) ps
arms_at s n l b d ps h = record { place = below s n l b d (DisjGoal ps) h }

pub part_at : (s : Hlds) (n : ℕ) (by : Cause) (m : ℕ) (p : HldsGoal) (ps : HldsGoals) → PartsAt s n by m (also p ps) → IsAt s m (by ∷ []) (part_ended n m (m + goal_size p) ps) p
part_at s n by m p ps h = record { place = front (spots s) m (spots_in (program_findings s) m (by ∷ []) (part_ended n m (m + goal_size p) ps) p) _ h.place }

pub next_parts : (s : Hlds) (n : ℕ) (by : Cause) (m : ℕ) (p : HldsGoal) (ps : HldsGoals) → PartsAt s n by m (also p ps) → PartsAt s n (ByEnd m) (m + goal_size p) ps
next_parts s n by m p ps h = record {
  place =
      past (spots s) m (goal_size p) (spots_in (program_findings s) m (by ∷ []) (part_ended n m (m + goal_size p) ps) p) _ (spots_size (program_findings s) m (by ∷ []) (part_ended n m (m + goal_size p) ps) p) h.place;
}

pub arm_at : (s : Hlds) (n : ℕ) (how : How) (m : ℕ) (p : HldsGoal) (ps : HldsGoals) → ArmsAt s n how m (also p ps) → IsAt s m (arm_begun n m how) (Ends n m ∷ []) p
arm_at s n how m p ps h = record { place = front (spots s) m (spots_in (program_findings s) m (arm_begun n m how) (Ends n m ∷ []) p) _ h.place }

pub next_arms : (s : Hlds) (n : ℕ) (how : How) (m : ℕ) (p : HldsGoal) (ps : HldsGoals) → ArmsAt s n how m (also p ps) → ArmsAt s n (later how) (m + goal_size p) ps
next_arms s n how m p ps h = record {
  place =
      past (spots s) m (goal_size p) (spots_in (program_findings s) m (arm_begun n m how) (Ends n m ∷ []) p) _ (spots_size (program_findings s) m (arm_begun n m how) (Ends n m ∷ []) p) h.place;
}

-- The parts of a conjunction are the goals of a program that their numbers say.
use Rattle.std.proofs.Common.{◌≡◌, inl, inr, refl, ap, ◌∙◌, sym, subst, arith, ℕ, zero, suc, ◌+◌, List, [], ◌∷◌, ◌++◌, Some, slice_get}
use Rattle.md_hlds.specs.declared.goal.PredName.{PredName}
use Rattle.md_hlds.specs.HldsGoal.{HldsGoal, At, GoalExpr, SimpleGoal, CallGoal, HoCallGoal, ConjGoal, DisjGoal, IfGoal, NotGoal, SomeGoal, HldsGoals, nothing, also, goal_size, goals_within, goals_below, goals_among, Numbered, numbered_goal, numbered_from}
use Rattle.md_hlds.specs.Hlds.{Hlds, Procedure, clause_goals, goal_at, procedure_called}
use Rattle.md_hlds.proofs.SiteLemmas.{found_in_first, found_in_second}
use Rattle.md_names.specs.declared.named.Named.{Named}
use Rattle.md_names.specs.declared.named.Named.TheVariants as name
use Rattle.md_names.specs.Named.{named_call, goal_name, name_of, name_at}
use Rattle.md_names.proofs.Standing.{call_named, call_missing, call_no_functor}
use Rattle.md_feedback.specs.Candidates.{parts_of}
use Rattle.md_feedback.specs.Search.{is_det_name, is_det_procedure, calls_det}
use Rattle.md_feedback.proofs.Members.{get_split, some_is}
use Rattle.md_feedback.proofs.Within.{length-within}

-- ---- the goals within a part of a conjunction

-- behind a conjunction among these goals stand the goals within it
abbrev pub AreFollowed : List HldsGoal → Type 0
AreFollowed gs = (i l d : ℕ) (ps : HldsGoals) (x : HldsGoal) → slice_get gs i ≡ Some (At l (ConjGoal ps)) → slice_get (goals_among ps) d ≡ Some x → slice_get gs (i + suc d) ≡ Some x

followed_none : AreFollowed []
followed_none i l d ps x at is = absurd (cc)

followed_append : (xs ys : List HldsGoal) → AreFollowed xs → AreFollowed ys → AreFollowed (xs ++ ys)
followed_append xs ys first second i l d ps x at is =
    elim (get_split xs ys i (At l (ConjGoal ps)) at) [
      | inl a ↦ found_in_first xs ys (i + suc d) x (first i l d ps x a is)
      | inr b ↦ found_in_second xs ys (b.0 + suc d) (i + suc d) x (omega (arith, b.1)) (second b.0 l d ps x b.2 is)
    ]

conj_is : (l k : ℕ) (t : GoalExpr) (ps : HldsGoals) → At l t ≡ At k (ConjGoal ps) → t ≡ ConjGoal ps
conj_is l k t ps e = cc

followed_goal : (k : ℕ) (t : GoalExpr) → AreFollowed (goals_below t) → AreFollowed (At k t ∷ goals_below t)
followed_goal k t below zero l d ps x at is =
    let same : t ≡ ConjGoal ps = conj_is k l t ps (some_is (At k t) (At l (ConjGoal ps)) at) in
    let place : zero + suc d ≡ suc d = omega arith in
    ap (slice_get (At k t ∷ goals_below t)) place ∙ subst (λ (e : GoalExpr). slice_get (goals_below e) d ≡ Some x) (sym same) is
followed_goal k t below (suc i) l d ps x at is =
    let place : suc i + suc d ≡ suc (i + suc d) = omega arith in
    ap (slice_get (At k t ∷ goals_below t)) place ∙ below i l d ps x at is

mutual
  followed_within : (p : HldsGoal) → AreFollowed (goals_within p)
  followed_within (At l t) = followed_goal l t (followed_below t)

  followed_below : (t : GoalExpr) → AreFollowed (goals_below t)
  followed_below (SimpleGoal g) = followed_none
  followed_below (CallGoal site q ys) = followed_none
  followed_below (HoCallGoal site f ys) = followed_none
  followed_below (ConjGoal ps) = followed_among ps
  followed_below (DisjGoal ps) = followed_among ps
  followed_below (IfGoal c t e) =
      followed_append (goals_within c) (goals_within t ++ goals_within e) (followed_within c) (followed_append (goals_within t) (goals_within e) (followed_within t) (followed_within e))
  followed_below (NotGoal c) = followed_within c
  followed_below (SomeGoal vs c) = followed_within c

  followed_among : (ps : HldsGoals) → AreFollowed (goals_among ps)
  followed_among nothing = followed_none
  followed_among (also p ps) = followed_append (goals_within p) (goals_among ps) (followed_within p) (followed_among ps)

followed_clauses : (procs : List Procedure) → AreFollowed (clause_goals procs)
followed_clauses [] = followed_none
followed_clauses (p ∷ ps) = followed_append (goals_within p.body) (clause_goals ps) (followed_within p.body) (followed_clauses ps)

-- ---- the parts by their numbers

self_first : (p : HldsGoal) (gs : List HldsGoal) → slice_get (goals_within p ++ gs) 0 ≡ Some p
self_first (At l t) gs = refl

record IsPartAmong (n : ℕ) (ps : HldsGoals) (g : Numbered) : Type 0 where
  d : ℕ
  number : g.number ≡ n + d
  here : slice_get (goals_among ps) d ≡ Some g.goal

part_among : (n : ℕ) (ps : HldsGoals) (i : ℕ) (g : Numbered) → slice_get (numbered_from n ps) i ≡ Some g → IsPartAmong n ps g
part_among n nothing i g at = absurd (cc)
part_among n (also p ps) zero g at =
    subst (λ (h : Numbered). IsPartAmong n (also p ps) h) (some_is (numbered_goal n p) g at) (record { d = 0; number = omega arith; here = self_first p (goals_among ps) })
part_among n (also p ps) (suc i) g at =
    let r : IsPartAmong (n + goal_size p) ps g = part_among (n + goal_size p) ps i g at in
    record {
      d = goal_size p + r.d;
      number = omega (arith, r.number);
      here = found_in_second (goals_within p) (goals_among ps) r.d (goal_size p + r.d) g.goal (omega (arith, length-within p)) r.here;
    }

-- a part of the conjunction of this number is the goal of its own number
part_there : (s : Hlds) (number line : ℕ) (parts : HldsGoals) (i : ℕ) (g : Numbered) → goal_at s number ≡ Some (At line (ConjGoal parts)) → slice_get (parts_of number parts) i ≡ Some g
    → goal_at s g.number ≡ Some g.goal
part_there s number line parts i g at is =
    let r : IsPartAmong (number + 1) parts g = part_among (number + 1) parts i g is in
    let place : g.number ≡ number + suc r.d = omega (arith, r.number) in
    ap (goal_at s) place ∙ followed_clauses s.procedures number line r.d parts g.goal at r.here

-- so what is told of the name in the goal of that number is told of its own
pub part_named : (s : Hlds) (number line : ℕ) (parts : HldsGoals) (i : ℕ) (g : Numbered) → goal_at s number ≡ Some (At line (ConjGoal parts)) → slice_get (parts_of number parts) i ≡ Some g
    → name_at s g.number ≡ goal_name s g.goal
part_named s number line parts i g at is = ap (name_of s) (part_there s number line parts i g at is)

-- ---- names of procedures that are declared `det`

det_by : (s : Hlds) (q : PredName) (m : Named) → named_call s q ≡ m → is_det_name s m ≡ is_det_procedure (procedure_called s q)
det_by s q (name.Functor k) e = absurd (call_no_functor s q k e)
det_by s q (name.Predicate k) e = ap is_det_procedure (call_named s q k e)
det_by s q name.Nothing e = ap is_det_procedure (sym (call_missing s q e))

pub det_named : (s : Hlds) (n : ℕ) (q : PredName) → name_at s n ≡ named_call s q → calls_det s n ≡ is_det_procedure (procedure_called s q)
det_named s n q is = ap (is_det_name s) is ∙ det_by s q (named_call s q) refl

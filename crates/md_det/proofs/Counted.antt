-- As much is found as there are goals, so that the numbers of the goals to come stay below a bound.
use Rattle.std.proofs.Common.{◌≡◌, refl, sym, ap, ◌∙◌, arith, ℕ, suc, ◌+◌, ◌<◌, Bool, false, ◌||◌, List, ◌++◌, length, length-append, drop, get_or, Option, None, Vec}
use Rattle.std.specs.declared.alloc.Global.{Global}
use Rattle.md_hlds.specs.declared.goal.Goal.{Goal}
use Rattle.md_hlds.specs.declared.goal.GoalKind.{Conj, Disj}
use Rattle.md_hlds.specs.declared.program.Pred.{Pred}
use Rattle.md_hlds.specs.HldsGoal.{HldsGoal, At, GoalExpr, SimpleGoal, CallGoal, HoCallGoal, ConjGoal, DisjGoal, IfGoal, NotGoal, SomeGoal, HldsGoals, nothing, also, gathered, goal_of, goals_of, expr_of, goal_size, parts_size, goals_size}
use Rattle.md_hlds.specs.Hlds.{Procedure, Hlds, procedures_of, goals_before}
use Rattle.md_hlds.proofs.Bridge.{expr_of-Conj, expr_of-Disj}
use Rattle.md_modes.specs.Notes.{Note}
use Rattle.md_det.specs.declared.fault.DetFault.{DetFault}
use Rattle.md_det.specs.declared.finding.Finding.{Finding}
use Rattle.md_det.specs.declared.pair.Pair.{Pair}
use Rattle.md_det.specs.Bounds.{is_many}
use Rattle.md_det.specs.Judge.{Reading, Judgement, judgement, judge_part, judge_expr, judge_each, judge_arms, judge_procedure, reading_of, onto}
use Rattle.md_switch.proofs.KeyLemmas.{parts-step}
use Rattle.md_det.proofs.Whole.{procedures-step}

-- ---- as many findings as goals

mutual
  length_part : (r : Reading) (n : ℕ) (at : Option ℕ) (again : Bool) (p : HldsGoal) → length (judge_part r n at again p).findings ≡ goal_size p
  length_part r n at again (At l t) = ap suc (length_expr r n at again l t)

  length_expr : (r : Reading) (n : ℕ) (at : Option ℕ) (again : Bool) (l : ℕ) (t : GoalExpr) → length (judge_expr r n at again l t).below ≡ parts_size t
  length_expr r n at again l (SimpleGoal g) = refl
  length_expr r n at again l (CallGoal site q ys) = refl
  length_expr r n at again l (HoCallGoal site f ys) = refl
  length_expr r n at again l (ConjGoal ps) = length_each r (suc n) at again ps
  length_expr r n at again l (DisjGoal ps) = length_arms r (suc n) _ _ ps
  length_expr r n at again l (IfGoal c t e) =
      let j = judge_part r (suc n) None again c in
      let k = judge_part r (suc n + length j.findings) None again t in
      let m = judge_part r (suc n + length j.findings + length k.findings) None again e in
      omega (
        arith,
        length-append j.findings (k.findings ++ m.findings),
        length-append k.findings m.findings,
        length_part r (suc n) None again c,
        length_part r (suc n + length j.findings) None again t,
        length_part r (suc n + length j.findings + length k.findings) None again e,
      )
  length_expr r n at again l (NotGoal c) = length_part r (suc n) None again c
  length_expr r n at again l (SomeGoal vs c) = length_part r (suc n) None again c

  length_each : (r : Reading) (n : ℕ) (at : Option ℕ) (again : Bool) (ps : HldsGoals) → length (judge_each r n at again ps).findings ≡ goals_size ps
  length_each r n at again nothing = refl
  length_each r n at again (also p ps) =
      let j = judge_part r n at again p in
      let m = n + length j.findings in
      let more = again || is_many j.pair.bound in
      omega (arith, length-append j.findings (judge_each r m None more ps).findings, length_part r n at again p, length_each r m None more ps)

  length_arms : (r : Reading) (n : ℕ) (at : Option ℕ) (again : Bool) (ps : HldsGoals) → length (judge_arms r n at again ps).findings ≡ goals_size ps
  length_arms r n at again nothing = refl
  length_arms r n at again (also p ps) =
      let j = judge_part r n at again p in
      let m = n + length j.findings in
      omega (arith, length-append j.findings (judge_arms r m at again ps).findings, length_part r n at again p, length_arms r m at again ps)

-- what was found so far, and what is found at one goal more and within it
pub length_judged : (r : Reading) (at : Option ℕ) (again : Bool) (p : HldsGoal) (q : Pair) (f : Option DetFault) (olds news : List Finding)
    → judgement q f news ≡ onto olds (judge_part r (length olds) at again p) → length news ≡ length olds + goal_size p
length_judged r at again p q f olds news told =
    let j = judge_part r (length olds) at again p in
    ap (λ (x : Judgement). length x.findings) told
    ∙ (length-append olds j.findings ∙ ap (λ n. length olds + n) (length_part r (length olds) at again p))

-- the same of a predicate
pub length_predicate : (s : Hlds) (ns : List Note) (q : Procedure) (olds news : List Finding)
    → news ≡ olds ++ (judge_procedure s ns (length olds) q).findings → length news ≡ length olds + goal_size q.body
length_predicate s ns q olds news told =
    let j = judge_procedure s ns (length olds) q in
    ap length told
    ∙ (length-append olds j.findings ∙ ap (λ n. length olds + n) (length_part (reading_of s ns) (length olds) None false q.body))

-- ---- the parts of a goal

pub conj_size : (v : Vec Goal Global) (gs : List Goal) → gs ≡ v.items → parts_size (expr_of (Conj v)) ≡ goals_size (gathered (goals_of gs))
conj_size v gs items = ap parts_size (expr_of-Conj v) ∙ ap (λ xs. goals_size (gathered (goals_of xs))) (sym items)

pub disj_size : (v : Vec Goal Global) (gs : List Goal) → gs ≡ v.items → parts_size (expr_of (Disj v)) ≡ goals_size (gathered (goals_of gs))
disj_size v gs items = ap parts_size (expr_of-Disj v) ∙ ap (λ xs. goals_size (gathered (goals_of xs))) (sym items)

-- ---- what is still to come

-- the next goal has its size, and the others have theirs
pub sizes-step : (gs : List Goal) (i : ℕ) (g : Goal) → i < length gs → g ≡ get_or gs i g
    → goals_size (gathered (goals_of (drop i gs))) ≡ goal_size (goal_of g) + goals_size (gathered (goals_of (drop (i + 1) gs)))
sizes-step gs i g lt is = ap (λ ps. goals_size (gathered ps)) (parts-step gs i g lt is)

-- the goals of these clauses
abbrev pub goals_left : List Procedure → ℕ
goals_left qs = goals_before qs (length qs)

pub clauses-step : (ps : List Pred) (i : ℕ) (p : Pred) → i < length ps → p ≡ get_or ps i p
    → goals_left (procedures_of (drop i ps)) ≡ goal_size (goal_of p.body) + goals_left (procedures_of (drop (i + 1) ps))
clauses-step ps i p lt is = ap goals_left (procedures-step ps i p lt is)

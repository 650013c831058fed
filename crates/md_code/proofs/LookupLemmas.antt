-- What is found by numbers, in tables of all goals and all procedures of a program.
use Rattle.std.proofs.Common.{◌≡◌, refl, ap, ◌∙◌, sym, subst, arith, ℕ, zero, suc, ◌+◌, ◌<◌, ◌≤◌, List, [], ◌∷◌, ◌++◌, length, drop, Option, Some, None, Result, IfOk, slice_get, get_or, append_assoc, append-nil, drop-cons, add-one}
use Rattle.std.proofs.lemmas.List.{drop_all}
use Rattle.md_hlds.specs.declared.program.Pred.{Pred}
use Rattle.md_hlds.specs.declared.goal.PredName.{PredName}
use Rattle.md_hlds.specs.HldsGoal.{HldsGoal, goal_of, goal_size, goals_within, site_count}
use Rattle.md_hlds.specs.Hlds.{Hlds, Procedure, procedure_of, procedures_of, clause_goals, goal_at, goals_before, body_number, procedure_called, nth_procedure, numbered}
use Rattle.md_hlds.specs.Trace.{call_weight}
use Rattle.md_names.proofs.Standing.{procedure_there, number_of}
use Rattle.md_switch.proofs.Tells.{length-within}
use Rattle.md_flat.specs.declared.code.Detail as flat
use Rattle.md_code.specs.declared.fact.Fact.{Fact}
use Rattle.md_code.specs.Blocks.{Place}
use Rattle.md_code.specs.Details.{detail_told, call_detail}
use Rattle.md_code.specs.declared.callee.Callee.{Callee}
use Rattle.md_code.specs.Leaves.{leaves_table, found_leaves}
use Rattle.md_code.specs.Facts.{Stand, fact_of, fact_if, fact_at, facts_from, callee, callees_from}
use Rattle.md_code.proofs.SurveyLemmas.{facts-append, length-surveyed, stand-goal, Added, if-ok-map}

-- ---- facts

fact-there : (s : Hlds) (n m : ℕ) (gs : List HldsGoal) (i : ℕ) (f : Fact) → m ≡ n + i → slice_get (facts_from s n gs) i ≡ Some f → f ≡ fact_if s m (slice_get gs i)
fact-there s n m [] i f at e = absurd (cc)
fact-there s n m (g ∷ gs) zero f at e = let same : m ≡ n = omega (arith, at) in let is : fact_of s n g ≡ f = cc in sym is ∙ ap (λ k. fact_of s k g) (sym same)
fact-there s n m (g ∷ gs) (suc i) f at e = fact-there s (suc n) m gs i f (omega (arith, at)) e

fact-missing : (s : Hlds) (n m : ℕ) (gs : List HldsGoal) (i : ℕ) → slice_get (facts_from s n gs) i ≡ None → fact_if s m None ≡ fact_if s m (slice_get gs i)
fact-missing s n m [] i e = refl
fact-missing s n m (g ∷ gs) zero e = absurd (cc)
fact-missing s n m (g ∷ gs) (suc i) e = fact-missing s (suc n) m gs i e

pub fact-found : (s : Hlds) (fs : List Fact) (n : ℕ) (f : Fact) → fs ≡ facts_from s 0 (clause_goals s.procedures) → slice_get fs n ≡ Some f → f ≡ fact_at s n
fact-found s fs n f is e = let at : n ≡ 0 + n = omega arith in fact-there s 0 n (clause_goals s.procedures) n f at (subst (λ gs. slice_get gs n ≡ Some f) is e)

pub fact-none : (s : Hlds) (fs : List Fact) (n : ℕ) → fs ≡ facts_from s 0 (clause_goals s.procedures) → slice_get fs n ≡ None → fact_if s n None ≡ fact_at s n
fact-none s fs n is e = fact-missing s 0 n (clause_goals s.procedures) n (subst (λ gs. slice_get gs n ≡ None) is e)

pub leaves-known : (s : Hlds) (n : ℕ) (f : Fact) → f ≡ fact_at s n → f.leaves ≡ leaves_table s n
leaves-known s n f e = ap (λ (g : Fact). g.leaves) e ∙ here (goal_at s n)
  where
    here : (p : Option HldsGoal) → (fact_if s n p).leaves ≡ found_leaves s n p
    here None = refl
    here (Some g) = refl

-- ---- procedures

callee-there : (n q : ℕ) (ps : List Procedure) (p : Procedure) (c : Callee) → slice_get ps q ≡ Some p → slice_get (callees_from n ps) q ≡ Some c → c ≡ callee (call_weight p) (n + goals_before ps q)
callee-there n q [] p c e f = absurd (cc)
callee-there n zero (r ∷ ps) p c e f =
    let same : r ≡ p = cc in let is : callee (call_weight r) n ≡ c = cc in let at : n ≡ n + 0 = omega arith in
    sym is ∙ (ap (λ (k : Procedure). callee (call_weight k) n) same ∙ ap (callee (call_weight p)) at)
callee-there n (suc q) (r ∷ ps) p c e f =
    let at : n + goal_size r.body + goals_before ps q ≡ n + (goal_size r.body + goals_before ps q) = omega arith in
    callee-there (n + goal_size r.body) q ps p c e f ∙ ap (callee (call_weight p)) at

callee-missing : (n q : ℕ) (ps : List Procedure) (p : Procedure) → slice_get ps q ≡ Some p → slice_get (callees_from n ps) q ≡ None → ⊥
callee-missing n q [] p e f = cc
callee-missing n zero (r ∷ ps) p e f = cc
callee-missing n (suc q) (r ∷ ps) p e f = callee-missing (n + goal_size r.body) q ps p e f

pub callee-found : (s : Hlds) (cs : List Callee) (q : ℕ) (c : Callee) → cs ≡ callees_from 0 s.procedures → slice_get cs q ≡ Some c
    → (p : Procedure) → slice_get s.procedures q ≡ Some p → c ≡ callee (call_weight p) (body_number s q)
callee-found s cs q c is e p f =
    let at : 0 + goals_before s.procedures q ≡ goals_before s.procedures q = omega arith in
    callee-there 0 q s.procedures p c f (subst (λ ds. slice_get ds q ≡ Some c) is e) ∙ ap (callee (call_weight p)) at

pub callee-none : (s : Hlds) (cs : List Callee) (q : ℕ) (c : Callee) → cs ≡ callees_from 0 s.procedures → slice_get cs q ≡ None
    → (p : Procedure) → slice_get s.procedures q ≡ Some p → c ≡ callee (call_weight p) (body_number s q)
callee-none s cs q c is e p f = absurd (callee-missing 0 q s.procedures p f (subst (λ ds. slice_get ds q ≡ None) is e))

abbrev second : Procedure → Option (ℕ × Procedure) → Option Procedure
second d None = Some d
second d (Some x) = Some x.1

-- a procedure that a name calls is there
pub called-there : (s : Hlds) (name : PredName) (q : ℕ) (p : Procedure) → procedure_called s name ≡ Some (q, p) → slice_get s.procedures q ≡ Some p
called-there s name q p e =
    let there : nth_procedure s q ≡ Some (q, p) = procedure_there s name q (ap number_of e) ∙ e in
    here (slice_get s.procedures q) there
  where
    here : (r : Option Procedure) → numbered q r ≡ Some (q, p) → r ≡ Some p
    here None h = absurd (cc)
    here (Some k) h = ap (second k) h

-- ---- clauses one after the other

at-drop : (gs : List HldsGoal) (n : ℕ) (g : HldsGoal) (hs : List HldsGoal) → drop n gs ≡ g ∷ hs → slice_get gs n ≡ Some g
at-drop [] zero g hs e = absurd (cc)
at-drop [] (suc n) g hs e = absurd (cc)
at-drop (k ∷ gs) zero g hs e = cc
at-drop (k ∷ gs) (suc n) g hs e = at-drop gs n g hs e

drop-one : (gs : List HldsGoal) (n : ℕ) (g : HldsGoal) (hs : List HldsGoal) → drop n gs ≡ g ∷ hs → drop (suc n) gs ≡ hs
drop-one [] zero g hs e = absurd (cc)
drop-one [] (suc n) g hs e = absurd (cc)
drop-one (k ∷ gs) zero g hs e = cc
drop-one (k ∷ gs) (suc n) g hs e = drop-one gs n g hs e

stand-from : (s : Hlds) (n : ℕ) (gs : List HldsGoal) → drop n (clause_goals s.procedures) ≡ gs → Stand s n gs
stand-from s n [] e = tt
stand-from s n (g ∷ gs) e = (at-drop (clause_goals s.procedures) n g gs e, stand-from s (suc n) gs (drop-one (clause_goals s.procedures) n g gs e))

-- all goals of a program are there
pub stand-all : (s : Hlds) → Stand s 0 (clause_goals s.procedures)
stand-all s = stand-from s 0 (clause_goals s.procedures) refl

pub preds-step : (ps : List Pred) (i : ℕ) (p : Pred) → i < length ps → p ≡ get_or ps i p → procedures_of (drop i ps) ≡ procedure_of p ∷ procedures_of (drop (i + 1) ps)
preds-step ps i p lt is = rw add-one (ap procedures_of (drop-cons ps i p lt ∙ ap (λ (q : Pred). q ∷ drop (suc i) ps) (sym is)))

-- what is left of a survey of clauses
pub record Ahead (s : Hlds) (facts : List Fact) (callees : List Callee) (ps : List Pred) (olds : List Fact) (cs : List Callee) : Type 0 where
  pub goes : facts ≡ olds ++ facts_from s (length olds) (clause_goals (procedures_of ps))
  pub calls : callees ≡ cs ++ callees_from (length olds) (procedures_of ps)
  pub stand : Stand s (length olds) (clause_goals (procedures_of ps))

pub clause-next : (s : Hlds) (facts : List Fact) (callees : List Callee) (ps : List Pred) (i : ℕ) (p : Pred) (olds news : List Fact) (cs ds : List Callee) (own : Fact) (c : Callee) (body : ℕ)
    → i < length ps → p ≡ get_or ps i p → Ahead s facts callees (drop i ps) olds cs
    → (Stand s (length olds) (goals_within (goal_of p.body)) → Added s olds news (goals_within (goal_of p.body)) × (own ≡ fact_of s (length olds) (goal_of p.body)))
    → body ≡ length olds → (own.sites ≡ site_count (procedure_of p).body → c ≡ callee (call_weight (procedure_of p)) body) → ds ≡ cs ++ c ∷ []
    → Ahead s facts callees (drop (i + 1) ps) news ds
clause-next s facts callees ps i p olds news cs ds own c body lt is left made at called pushes =
    let rest = procedures_of (drop (i + 1) ps) in
    let g = goal_of p.body in
    let step = preds-step ps i p lt is in
    let stands = stand-goal s (length olds) g (clause_goals rest) (subst (λ qs. Stand s (length olds) (clause_goals qs)) step left.stand) in
    let both = made stands.0 in
    let there : length news ≡ length olds + goal_size g = length-surveyed s olds news g both.0 in
    let is-c : c ≡ callee (call_weight (procedure_of p)) (length olds) = called (ap (λ (f : Fact). f.sites) both.1) ∙ ap (callee (call_weight (procedure_of p))) at in
    record {
      goes = left.goes
          ∙ (ap (λ qs. olds ++ facts_from s (length olds) (clause_goals qs)) step
          ∙ (ap (λ fs. olds ++ fs) (facts-append s (length olds) (goals_within g) (clause_goals rest) ∙ ap (λ k. facts_from s (length olds) (goals_within g) ++ facts_from s (length olds + k) (clause_goals rest)) (length-within g))
          ∙ (sym (append_assoc olds (facts_from s (length olds) (goals_within g)) _)
          ∙ (ap (λ fs. fs ++ facts_from s (length olds + goal_size g) (clause_goals rest)) (sym both.0) ∙ ap (λ k. news ++ facts_from s k (clause_goals rest)) (sym there)))));
      calls = left.calls
          ∙ (ap (λ qs. cs ++ callees_from (length olds) qs) step
          ∙ (ap (λ (d : Callee). cs ++ (d ∷ callees_from (length olds + goal_size g) rest)) (sym is-c)
          ∙ (sym (append_assoc cs (c ∷ []) _) ∙ (ap (λ fs. fs ++ callees_from (length olds + goal_size g) rest) (sym pushes) ∙ ap (λ k. ds ++ callees_from k rest) (sym there)))));
      stand = subst (λ k. Stand s k (clause_goals rest)) (sym there) stands.1;
    }

pub ahead-end : (s : Hlds) (facts : List Fact) (callees : List Callee) (ps : List Pred) (i : ℕ) (olds : List Fact) (cs : List Callee) → length ps ≤ i → Ahead s facts callees (drop i ps) olds cs → (olds ≡ facts) × (cs ≡ callees)
ahead-end s facts callees ps i olds cs end' left =
    let none : procedures_of (drop i ps) ≡ [] = ap procedures_of (drop_all i ps end') in (
      sym (left.goes ∙ (ap (λ qs. olds ++ facts_from s (length olds) (clause_goals qs)) none ∙ append-nil olds)),
      sym (left.calls ∙ (ap (λ qs. cs ++ callees_from (length olds) qs) none ∙ append-nil cs)),
    )

-- a call of the procedure of a name
pub call-told : (s : Hlds) (name : PredName) (site : ℕ) (ys : List ℕ) (at : Place) (n : ℕ) (k m : Pred) {E : Type 0} (r : Result flat.Detail E)
    → IfOk r (λ d. slice_get s.procedures n ≡ Some (procedure_of k) → detail_told d ≡ call_detail s site ys at (Some (n, procedure_of k)))
    → procedure_called s name ≡ Some (n, procedure_of m) → m ≡ k
    → IfOk r (λ d. detail_told d ≡ call_detail s site ys at (procedure_called s name))
call-told s name site ys at n k m r h called same =
    let found : procedure_called s name ≡ Some (n, procedure_of k) = called ∙ ap (λ (q : Pred). Some (n, procedure_of q)) same in
    if-ok-map r (λ d is. is (called-there s name n (procedure_of k) found) ∙ ap (call_detail s site ys at) (sym found)) h

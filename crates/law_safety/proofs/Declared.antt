-- Each procedure of an accepted program has as many answers as its determinism says, and main has its answer.
use Rattle.std.proofs.Common.{◌≡◌, refl, sym, ap, subst, arith, ℕ, zero, suc, ◌-◌, ◌≤◌, Bool, true, false, not, ◌&&◌, ◌||◌, cond, nat_le, List, [], ◌∷◌, ◌++◌, length, Option, Some, None, slice_get, is_some}
use Rattle.std.proofs.lemmas.Bool.{and_parts, true≢false, false≢true}
use Rattle.std.specs.Prelude.{⊤}
use Rattle.md_hlds.specs.declared.types.Mode.{Mode}
use Rattle.md_hlds.specs.declared.types.Det.{Det}
use Rattle.md_hlds.specs.declared.types.Det.TheVariants as det
use Rattle.md_hlds.specs.HldsGoal.{numbered_goal}
use Rattle.md_hlds.specs.Hlds.{HldsType, Procedure, Hlds, procedure_called, body_number}
use Rattle.md_hlds.specs.Value.{Value, Env, blank}
use Rattle.md_hlds.specs.Trace.{Turn, Call, Exit, Redo, Fail, Excp, Alloc, Out, Throw, Answer, Stuck, Deep, Items, back_value, trace}
use Rattle.md_hlds.specs.Run.{cut, cut_turn, is_finished, is_thrown, HasNoDeep, main_name, main_env, main_frame, main_items, run_main, run}
use Rattle.md_hlds.proofs.BudgetLemmas.{depths}
use Rattle.md_reader.specs.Grammar.{Spells}
use Rattle.md_inst.specs.HldsTypes.{same_det}
use Rattle.md_inst.specs.Instantiation.{InstMap, nothing_known}
use Rattle.md_modes.specs.Goals.{clause_variables, variables, goal}
use Rattle.md_modes.specs.Modes.{enter, entry_from, entry, end, scope_of, are_main_args, is_main, mode_fault}
use Rattle.md_modes.proofs.Counts.{times-append}
use Rattle.md_det.specs.declared.fault.DetFault.{DetFault}
use Rattle.md_det.specs.declared.fault.DetFault.TheVariants as fault
use Rattle.md_det.specs.declared.pair.Bound.TheVariants.{Zero, One}
use Rattle.md_det.specs.Pairs.{pair, pair_of, det_of, allows}
use Rattle.md_det.specs.Faults.{fault_if, goal_faults, state_faults, declared_faults, body_pair, procedure_faults, faults_of, first_of, det_fault}
use Rattle.law_safety.specs.Values.{Fits}
use Rattle.law_safety.specs.Safe.{HasNoStuck}
use Rattle.law_safety.specs.Arguments.{AreArguments}
use Rattle.law_safety.specs.Answers.{put_in, begun, body_trace, answer_count, AnswersAs, is_over, ComesToItsEnd}
use Rattle.law_safety.proofs.Items.{Fine}
use Rattle.law_safety.proofs.Environments.{blank_fits}
use Rattle.law_safety.proofs.SameTypes.{same_det_is}
use Rattle.law_safety.proofs.Verdicts.{ok_then}
use Rattle.law_safety.proofs.Functors.{called_at}
use Rattle.law_safety.proofs.Calls.{passed_one}
use Rattle.law_safety.proofs.Safe.{frame, answers, claim}
use Rattle.law_safety.proofs.OneMain.{one_main, main_there}
use Rattle.law_safety.proofs.Whole.{accepted, proper, main_fits, main_not_stuck}
use Rattle.law_safety.proofs.TypesDiffer.{types_differ}
use Rattle.law_safety.proofs.Counting.{Meets, meets_last, meets_declared, IsWithin, HasEnd, end_found}
use Rattle.law_safety.proofs.Tally.{Judged, allows_less, answered, tally}

-- ---- a program without a fault of determinism

none_first : (xs ys : List DetFault) → xs ++ ys ≡ [] → xs ≡ []
none_first [] ys h = refl
none_first (x ∷ xs) ys h = absurd (cc h)

none_second : (xs ys : List DetFault) → xs ++ ys ≡ [] → ys ≡ []
none_second [] ys h = h
none_second (x ∷ xs) ys h = absurd (cc h)

no_first : (fs : List DetFault) → first_of fs ≡ None → fs ≡ []
no_first [] h = refl
no_first (f ∷ fs) h = absurd (cc h)

faultless : (s : Hlds) → det_fault s ≡ None → faults_of s s.procedures ≡ []
unfolding det_fault
faultless s h = no_first (faults_of s s.procedures) h

not_faulty : (b : Bool) (f : DetFault) → fault_if (not b) f ≡ [] → b ≡ true
not_faulty true f h = refl
not_faulty false f h = absurd (cc h)

procedure_allowed : (s : Hlds) (p : Procedure) → procedure_faults s p ≡ [] → allows (pair_of p.det) (body_pair s p) ≡ true
procedure_allowed s p h =
    let inner = goal_faults (scope_of s p) false p.body (entry p) ++ declared_faults p (body_pair s p) in
    let last = none_second (goal_faults (scope_of s p) false p.body (entry p)) (declared_faults p (body_pair s p)) (none_second (state_faults p) inner h) in
    not_faulty (allows (pair_of p.det) (body_pair s p)) (fault.Declared p.line p.det (det_of (body_pair s p).may_fail (body_pair s p).bound)) last

allowed_at : (s : Hlds) (ps : List Procedure) (n : ℕ) (p : Procedure) → faults_of s ps ≡ [] → slice_get ps n ≡ Some p → allows (pair_of p.det) (body_pair s p) ≡ true
allowed_at s [] n p h is = absurd (cc is)
allowed_at s (q ∷ ps) zero p h is =
    let e : q ≡ p = cc is in
    subst (λ (r : Procedure). allows (pair_of r.det) (body_pair s r) ≡ true) e (procedure_allowed s q (none_first (procedure_faults s q) (faults_of s ps) h))
allowed_at s (q ∷ ps) (suc n) p h is = allowed_at s ps n p (none_second (procedure_faults s q) (faults_of s ps) h) is

pub judged : (bytes : List ℕ) (s : Hlds) → Spells bytes s → mode_fault s ≡ None → det_fault s ≡ None → Judged s
judged bytes s spells modes determinism = record {
  proper = proper bytes s spells modes;
  differ = types_differ s spells.once;
  declared = λ n p at. allowed_at s s.procedures n p (faultless s determinism) at;
}

-- ---- a body by itself

begun_fits : (s : Hlds) (vars : List ℕ) (args : List (HldsType × Mode)) (hs : List ℕ) (os : List (Option Value)) (kn : InstMap) (e : Env) → AreArguments s args os → Fits s vars kn e
    → Fits s vars (entry_from args hs kn) (put_in hs os e)
begun_fits s vars [] [] [] kn e h fits = fits
begun_fits s vars [] (x ∷ hs) [] kn e h fits = fits
begun_fits s vars (a ∷ args) [] (o ∷ os) kn e h fits = fits
begun_fits s vars (a ∷ args) (x ∷ hs) (o ∷ os) kn e h fits = begun_fits s vars args hs os (enter a.1 a.0 x kn) (back_value x None o e) h.1 (passed_one s vars a.1 a.0 x o kn e h.0 fits)
begun_fits s vars [] hs (o ∷ os) kn e h fits = elim h [ ]
begun_fits s vars (a ∷ args) hs [] kn e h fits = elim h [ ]

-- a body in an environment that fits what is known there: it isn't stuck, and it meets what its procedure is declared as
pub record IsRun (s : Hlds) (p : Procedure) (xs : Items) : Type 0 where
  pub fine : Fine (λ e. ⊤) xs
  pub meets : Meets (pair_of p.det) xs

pub body_run : (s : Hlds) → Judged s → (n : ℕ) (p : Procedure) (e : Env) (depth act next : ℕ) → slice_get s.procedures n ≡ Some p → Fits s (variables p.body ++ p.head) (entry p) e
    → IsRun s p (trace s depth (frame act e (numbered_goal (body_number s n) p.body ∷ []) []) [] next)
body_run s judged n p e depth act next at fits =
    let ok = ok_then (goal (scope_of s p) p.body (entry p)) (λ b. end p b) tt (judged.proper.accepted n p at) in
    let less = allows_less (pair_of p.det) (body_pair s p) (judged.declared n p at) in
    let xs = trace s depth (frame act e (numbered_goal (body_number s n) p.body ∷ []) []) [] next in
    record {
      fine = claim s judged.proper depth (clause_variables p) false p.body (entry p) p.head (λ e. ⊤) ok.0 (body_number s n) act e [] [] [] next (judged.proper.tidy n p at) ok.1
          (λ x. let e = times-append x p.head (variables p.body) in omega (arith, e)) fits (λ i lt d k reach inner. answers s (λ e. ⊤) i act d [] k tt);
      meets = meets_last (pair_of p.det) xs (meets_declared (body_pair s p) (pair_of p.det) (pair false One) xs less.0 less.1
          (tally s judged depth (clause_variables p) false None p.body (entry p) p.head (pair false One) ok.0 (body_number s n) act e [] [] [] next (judged.proper.tidy n p at) ok.1
          (λ x. let e = times-append x p.head (variables p.body) in omega (arith, e)) fits tt (λ i lt d k reach inner. answered s i act d [] k)));
    }

-- ---- numbers of answers

thrown_not : {A : Type 0} (bytes : List ℕ) → is_some (Some bytes) ≡ false → A
thrown_not bytes h = absurd (true≢false h)

pub none_left : (xs : Items) → IsWithin xs Zero → is_thrown xs ≡ false → answer_count xs ≡ 0
none_left [] h g = refl
none_left (Turn a t w ∷ xs) h g = none_left xs h g
none_left (Call a p s q ∷ xs) h g = none_left xs h g
none_left (Exit a ∷ xs) h g = none_left xs h g
none_left (Redo a ∷ xs) h g = none_left xs h g
none_left (Fail a ∷ xs) h g = none_left xs h g
none_left (Excp a ∷ xs) h g = none_left xs h g
none_left (Alloc a w ∷ xs) h g = none_left xs h g
none_left (Out bytes ∷ xs) h g = none_left xs h g
none_left (Throw bytes ∷ xs) h g = thrown_not bytes g
none_left (Answer e ∷ xs) h g = elim h [ ]
none_left (Stuck ∷ xs) h g = none_left xs h g
none_left (Deep ∷ xs) h g = none_left xs h g

pub one_left : (xs : Items) → IsWithin xs One → is_thrown xs ≡ false → answer_count xs ≤ 1
one_left [] h g = omega arith
one_left (Turn a t w ∷ xs) h g = one_left xs h g
one_left (Call a p s q ∷ xs) h g = one_left xs h g
one_left (Exit a ∷ xs) h g = one_left xs h g
one_left (Redo a ∷ xs) h g = one_left xs h g
one_left (Fail a ∷ xs) h g = one_left xs h g
one_left (Excp a ∷ xs) h g = one_left xs h g
one_left (Alloc a w ∷ xs) h g = one_left xs h g
one_left (Out bytes ∷ xs) h g = one_left xs h g
one_left (Throw bytes ∷ xs) h g = thrown_not bytes g
one_left (Answer e ∷ xs) h g = let none = none_left xs h g in omega (arith, none)
one_left (Stuck ∷ xs) h g = one_left xs h g
one_left (Deep ∷ xs) h g = one_left xs h g

pub one_there : (good : Env → Type 0) (xs : Items) → HasEnd xs → Fine good xs → HasNoDeep xs → is_thrown xs ≡ false → 1 ≤ answer_count xs
one_there good [] h f d g = elim h [ ]
one_there good (Turn a t w ∷ xs) h f d g = one_there good xs h f d g
one_there good (Call a p s q ∷ xs) h f d g = one_there good xs h f d g
one_there good (Exit a ∷ xs) h f d g = one_there good xs h f d g
one_there good (Redo a ∷ xs) h f d g = one_there good xs h f d g
one_there good (Fail a ∷ xs) h f d g = one_there good xs h f d g
one_there good (Excp a ∷ xs) h f d g = one_there good xs h f d g
one_there good (Alloc a w ∷ xs) h f d g = one_there good xs h f d g
one_there good (Out bytes ∷ xs) h f d g = one_there good xs h f d g
one_there good (Throw bytes ∷ xs) h f d g = thrown_not bytes g
one_there good (Answer e ∷ xs) h f d g = omega arith
one_there good (Stuck ∷ xs) h f d g = elim f [ ]
one_there good (Deep ∷ xs) h f d g = elim d [ ]

counted : (good : Env → Type 0) (d : Det) (xs : Items) → Fine good xs → Meets (pair_of d) xs → HasNoDeep xs → is_thrown xs ≡ false → AnswersAs d xs
counted good det.Det xs f h deep thrown = let a = one_left xs h.within thrown in let b = one_there good xs (h.there refl) f deep thrown in omega (arith, a, b)
counted good det.Semidet xs f h deep thrown = one_left xs h.within thrown
counted good det.Multi xs f h deep thrown = one_there good xs (h.there refl) f deep thrown
counted good det.Nondet xs f h deep thrown = tt
counted good det.Failure xs f h deep thrown = none_left xs h.within thrown

pub answers_as_declared : (bytes : List ℕ) (s : Hlds) → Spells bytes s → mode_fault s ≡ None → det_fault s ≡ None → (n : ℕ) (p : Procedure) → slice_get s.procedures n ≡ Some p
    → (os : List (Option Value)) → AreArguments s p.args os → (depth act next : ℕ) → HasNoDeep (body_trace s (n, p) os depth act next) → is_thrown (body_trace s (n, p) os depth act next) ≡ false
    → AnswersAs p.det (body_trace s (n, p) os depth act next)
answers_as_declared bytes s spells modes determinism n p at os args depth act next deep thrown =
    let r = body_run s (judged bytes s spells modes determinism) n p (begun p os) depth act next at
    (begun_fits s (variables p.body ++ p.head) p.args p.head os (nothing_known (length p.vars)) (blank (length p.vars)) args (blank_fits s (variables p.body ++ p.head) (length p.vars))) in
    counted (λ e. ⊤) p.det (body_trace s (n, p) os depth act next) r.fine r.meets deep thrown

-- ---- main

over_turn : (b o : Bool) → cond b o true ≡ false → (b ≡ true) × (o ≡ false)
over_turn true o h = (refl, h)
over_turn false o h = absurd (true≢false h)

last_true : (b : Bool) → (b || true) ≡ true
last_true true = refl
last_true false = refl

ended_turn : (left a : ℕ) (g : Option ℕ) (w : ℕ) (xs : Items) (b : Bool) → b ≡ true → (is_finished xs || is_thrown xs) ≡ true → (is_finished (cut_turn a g w xs b) || is_thrown (cut_turn a g w xs b)) ≡ true
ended_turn left a g w xs b e h = rw e h

deep_turn : (a : ℕ) (g : Option ℕ) (w : ℕ) (xs : Items) (b : Bool) → b ≡ true → HasNoDeep (cut_turn a g w xs b) → HasNoDeep xs
deep_turn a g w xs true e h = h
deep_turn a g w xs false e h = absurd (false≢true e)

-- what comes to an end, and isn't cut by the budget, is finished or has thrown
ended : (left : ℕ) (xs : Items) → HasEnd xs → HasNoStuck xs → HasNoDeep (cut left xs) → is_over left xs ≡ false → (is_finished (cut left xs) || is_thrown (cut left xs)) ≡ true
ended left [] h f d o = elim h [ ]
ended left (Turn a g w ∷ xs) h f d o =
    let both = over_turn (nat_le w left) (is_over (left - w) xs) o in
    ended_turn left a g w (cut (left - w) xs) (nat_le w left) both.0 (ended (left - w) xs h f (deep_turn a g w (cut (left - w) xs) (nat_le w left) both.0 d) both.1)
ended left (Call a p s q ∷ xs) h f d o = ended left xs h f d o
ended left (Exit a ∷ xs) h f d o = ended left xs h f d o
ended left (Redo a ∷ xs) h f d o = ended left xs h f d o
ended left (Fail a ∷ xs) h f d o = ended left xs h f d o
ended left (Excp a ∷ xs) h f d o = ended left xs h f d o
ended left (Alloc a w ∷ xs) h f d o = ended left xs h f d o
ended left (Out bytes ∷ xs) h f d o = ended left xs h f d o
ended left (Throw bytes ∷ xs) h f d o = last_true (is_finished (cut left xs))
ended left (Answer e ∷ xs) h f d o = refl
ended left (Stuck ∷ xs) h f d o = elim f [ ]
ended left (Deep ∷ xs) h f d o = elim d [ ]

main_det : (p : Procedure) → is_main p ≡ true → p.det ≡ det.Det
main_det p is =
    let a = and_parts _ (are_main_args p.args && same_det p.det det.Det) is in
    same_det_is p.det det.Det (and_parts (are_main_args p.args) (same_det p.det det.Det) a.1).1

main_ends : (s : Hlds) → Judged s → (budget : ℕ) (m : ℕ × Procedure) → procedure_called s main_name ≡ Some m → is_main m.1 ≡ true → HasEnd (main_items s budget m)
main_ends s judged budget m called is =
    let at = called_at s main_name m called in
    let r = body_run s judged m.0 m.1 (main_env (blank (length m.1.vars)) m.1.head) budget 0 1 at (main_fits s (variables m.1.body ++ m.1.head) m.1 is (judged.proper.heads m.0 m.1 at)) in
    end_found (λ e. ⊤) (trace s budget (main_frame s m) [] 1) 1 (λ e k. Exit 0 ∷ Answer e ∷ []) (λ k. Fail 0 ∷ []) [] r.fine
    (r.meets.there (ap (λ (d : Det). (pair_of d).may_fail) (main_det m.1 is))) (λ e n h. tt)

run_called : (s : Hlds) (budget : ℕ) (m : ℕ × Procedure) → procedure_called s main_name ≡ Some m → run s budget ≡ cut budget (main_items s budget m)
unfolding run
run_called s budget m called = ap (run_main s budget) called

items_not_stuck : (s : Hlds) → Judged s → (budget : ℕ) (m : ℕ × Procedure) → procedure_called s main_name ≡ Some m → is_main m.1 ≡ true → HasNoStuck (main_items s budget m)
items_not_stuck s judged budget m called is = main_not_stuck s judged.proper budget m (called_at s main_name m called) is

pub comes_to_its_end : (bytes : List ℕ) (s : Hlds) → Spells bytes s → mode_fault s ≡ None → det_fault s ≡ None → (budget : ℕ) → ComesToItsEnd s budget
comes_to_its_end bytes s spells modes determinism budget =
    let all = judged bytes s spells modes determinism in
    let m = main_there s (accepted s modes).main in
    let is = one_main s m.0 spells.once (accepted s modes).main m.1 in
    let same = run_called s budget m.0 m.1 in
    record {
      main = m.0;
      called = m.1;
      ends = λ over. subst (λ (xs : Items). (is_finished xs || is_thrown xs) ≡ true) (sym same)
          (ended budget (main_items s budget m.0) (main_ends s all budget m.0 m.1 is) (items_not_stuck s all budget m.0 m.1 is) (subst HasNoDeep same (depths s budget)) over);
    }

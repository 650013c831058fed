-- No run of an accepted program is stuck.
use Rattle.std.proofs.Common.{◌≡◌, refl, ap, subst, arith, ℕ, zero, suc, ◌-◌, pos, Bool, true, false, ◌&&◌, nat_le, List, [], ◌∷◌, length, Option, Some, None, Ok, Err, slice_get}
use Rattle.std.proofs.lemmas.Bool.{and_parts, false≢true}
use Rattle.std.specs.Prelude.{⊤}
use Rattle.md_hlds.specs.declared.types.Mode.{Mode}
use Rattle.md_hlds.specs.declared.types.Mode.TheVariants.{In, Out, Di, Uo}
use Rattle.md_hlds.specs.declared.types.Det.TheVariants as det
use Rattle.md_hlds.specs.Hlds.{HldsType, number, text, world, named, closure, Procedure, Hlds, procedure_called, body_number}
use Rattle.md_hlds.specs.Value.{Number, Env, blank}
use Rattle.md_hlds.specs.Trace.{Turn, Call, Exit, Redo, Fail, Excp, Alloc, Out, Throw, Answer, Stuck, Deep, Items, first, trace}
use Rattle.md_hlds.specs.Run.{cut, cut_turn, main_name, main_env, main_frame, main_items, run_main, run}
use Rattle.md_hlds.proofs.DepthLemmas.{AreExcps}
use Rattle.md_reader.specs.Grammar.{Spells}
use Rattle.md_inst.specs.declared.fault.ModeFault.TheVariants.{NoMain}
use Rattle.md_inst.specs.Verdict.{Verdict, ◌>>◌, fault_unless}
use Rattle.md_inst.specs.HldsTypes.{is_world, same_det}
use Rattle.md_inst.specs.Instantiation.{nothing_known}
use Rattle.md_modes.specs.Declarations as declarations
use Rattle.md_modes.specs.Goals.{clause_variables, variables, goal}
use Rattle.md_modes.specs.Modes.{entry_from, entry, end, scope_of, clause, clauses, is_uo, is_di, are_main_args, is_main, has_main, checked, fault_of, mode_fault}
use Rattle.md_modes.proofs.Counts.{times-append}
use Rattle.law_safety.specs.Values.{Fits}
use Rattle.law_safety.specs.Safe.{HasNoStuck}
use Rattle.law_safety.proofs.Items.{Fine, fine_first}
use Rattle.law_safety.proofs.Environments.{fits_put, blank_fits}
use Rattle.law_safety.proofs.Verdicts.{ok_then, ok_after, ok_fault}
use Rattle.law_safety.proofs.Functors.{called_at}
use Rattle.law_safety.proofs.Safe.{Proper, answers, claim}
use Rattle.law_safety.proofs.Spelled.{spelled, spelled_at}
use Rattle.law_safety.proofs.OneMain.{one_main}

-- ---- a trace that is fine isn't stuck, nor is it where the budget cuts it

excps_not_stuck : (xs : Items) → AreExcps xs → HasNoStuck xs
excps_not_stuck [] h = tt
excps_not_stuck (Excp a ∷ xs) h = excps_not_stuck xs h
excps_not_stuck (Turn a g w ∷ xs) h = elim h [ ]
excps_not_stuck (Call a p s q ∷ xs) h = elim h [ ]
excps_not_stuck (Exit a ∷ xs) h = elim h [ ]
excps_not_stuck (Redo a ∷ xs) h = elim h [ ]
excps_not_stuck (Fail a ∷ xs) h = elim h [ ]
excps_not_stuck (Alloc a w ∷ xs) h = elim h [ ]
excps_not_stuck (Out b ∷ xs) h = elim h [ ]
excps_not_stuck (Throw b ∷ xs) h = elim h [ ]
excps_not_stuck (Answer e ∷ xs) h = elim h [ ]
excps_not_stuck (Stuck ∷ xs) h = elim h [ ]
excps_not_stuck (Deep ∷ xs) h = elim h [ ]

pub not_stuck : (good : Env → Type 0) (xs : Items) → Fine good xs → HasNoStuck xs
not_stuck good [] h = tt
not_stuck good (Turn a g w ∷ xs) h = not_stuck good xs h
not_stuck good (Call a p s q ∷ xs) h = not_stuck good xs h
not_stuck good (Exit a ∷ xs) h = not_stuck good xs h
not_stuck good (Redo a ∷ xs) h = not_stuck good xs h
not_stuck good (Fail a ∷ xs) h = not_stuck good xs h
not_stuck good (Excp a ∷ xs) h = not_stuck good xs h
not_stuck good (Alloc a w ∷ xs) h = not_stuck good xs h
not_stuck good (Out b ∷ xs) h = not_stuck good xs h
not_stuck good (Throw b ∷ xs) h = excps_not_stuck xs h
not_stuck good (Answer e ∷ xs) h = not_stuck good xs h.1
not_stuck good (Stuck ∷ xs) h = elim h [ ]
not_stuck good (Deep ∷ xs) h = not_stuck good xs h

turn_not_stuck : (a : ℕ) (g : Option ℕ) (w : ℕ) (rest : Items) (b : Bool) → HasNoStuck rest → HasNoStuck (cut_turn a g w rest b)
turn_not_stuck a g w rest true h = h
turn_not_stuck a g w rest false h = tt

cut_not_stuck : (left : ℕ) (xs : Items) → HasNoStuck xs → HasNoStuck (cut left xs)
cut_not_stuck left [] h = tt
cut_not_stuck left (Turn a g w ∷ xs) h = turn_not_stuck a g w (cut (left - w) xs) (nat_le w left) (cut_not_stuck (left - w) xs h)
cut_not_stuck left (Call a p s q ∷ xs) h = cut_not_stuck left xs h
cut_not_stuck left (Exit a ∷ xs) h = cut_not_stuck left xs h
cut_not_stuck left (Redo a ∷ xs) h = cut_not_stuck left xs h
cut_not_stuck left (Fail a ∷ xs) h = cut_not_stuck left xs h
cut_not_stuck left (Excp a ∷ xs) h = cut_not_stuck left xs h
cut_not_stuck left (Alloc a w ∷ xs) h = cut_not_stuck left xs h
cut_not_stuck left (Out b ∷ xs) h = cut_not_stuck left xs h
cut_not_stuck left (Throw b ∷ xs) h = cut_not_stuck left xs h
cut_not_stuck left (Answer e ∷ xs) h = cut_not_stuck left xs h
cut_not_stuck left (Stuck ∷ xs) h = elim h [ ]
cut_not_stuck left (Deep ∷ xs) h = cut_not_stuck left xs h

-- ---- a program without a fault of modes

no_fault : (v : Verdict (Unit {0})) → fault_of v ≡ None → v ≡ Ok tt
no_fault (Ok u) h = refl
no_fault (Err e) h = absurd (cc h)

all_checked : (s : Hlds) → mode_fault s ≡ None → checked s ≡ Ok tt
unfolding mode_fault
all_checked s h = no_fault (checked s) h

clause_at : (s : Hlds) (ps : List Procedure) (n : ℕ) (p : Procedure) → clauses s ps ≡ Ok tt → slice_get ps n ≡ Some p → clause s p ≡ Ok tt
clause_at s [] n p h is = absurd (cc is)
clause_at s (q ∷ ps) zero p h is =
    let o = ok_after (clause s q) (clauses s ps) tt h in
    let e : q ≡ p = cc is in
    subst (λ (r : Procedure). clause s r ≡ Ok tt) e o.1
clause_at s (q ∷ ps) (suc n) p h is = clause_at s ps n p (ok_after (clause s q) (clauses s ps) tt h).2 is

pub record Accepted (s : Hlds) : Type 0 where
  pub declared : declarations.families s.types s.types ≡ Ok tt
  pub clauses : clauses s s.procedures ≡ Ok tt
  pub main : has_main s.procedures ≡ true

pub accepted : (s : Hlds) → mode_fault s ≡ None → Accepted s
accepted s h =
    let all = all_checked s h in
    let last = ok_after (declarations.families s.types s.types >> declarations.procedures s.types s.procedures >> clauses s s.procedures) (fault_unless (has_main s.procedures) (NoMain s.module_line)) tt all in
    let third = ok_after (declarations.families s.types s.types >> declarations.procedures s.types s.procedures) (clauses s s.procedures) last.0 last.1 in
    let second = ok_after (declarations.families s.types s.types) (declarations.procedures s.types s.procedures) third.0 third.1 in
    record { declared = second.1; clauses = third.2; main = ok_fault (has_main s.procedures) (NoMain s.module_line) tt last.2 }

pub proper : (text : List ℕ) (s : Hlds) → Spells text s → mode_fault s ≡ None → Proper s
proper bytes s spells h =
    let all = spelled bytes s spells in
    record {
      tidy = λ n p at. (spelled_at s.procedures n p all at).0;
      heads = λ n p at. (spelled_at s.procedures n p all at).1;
      accepted = λ n p at. clause_at s s.procedures n p (accepted s h).clauses at;
    }

-- ---- main

world_is : (t : HldsType) → is_world t ≡ true → t ≡ world
world_is world h = refl
world_is number h = absurd (false≢true h)
world_is text h = absurd (false≢true h)
world_is (named n) h = absurd (false≢true h)
world_is (closure ts ms d) h = absurd (false≢true h)

di_is : (m : Mode) → is_di m ≡ true → m ≡ Di
di_is Di h = refl
di_is In h = absurd (false≢true h)
di_is Out h = absurd (false≢true h)
di_is Uo h = absurd (false≢true h)

uo_is : (m : Mode) → is_uo m ≡ true → m ≡ Uo
uo_is Uo h = refl
uo_is In h = absurd (false≢true h)
uo_is Out h = absurd (false≢true h)
uo_is Di h = absurd (false≢true h)

main_args : (args : List (HldsType × Mode)) → are_main_args args ≡ true → args ≡ (world, Di) ∷ (world, Uo) ∷ []
main_args [] h = absurd (false≢true h)
main_args (a ∷ []) h = absurd (false≢true h)
main_args (a ∷ b ∷ []) h =
    let both = and_parts (is_world a.0 && is_di a.1) (is_world b.0 && is_uo b.1) h in
    let first = and_parts (is_world a.0) (is_di a.1) both.0 in
    let last = and_parts (is_world b.0) (is_uo b.1) both.1 in
    let t = world_is a.0 first.0 in let m = di_is a.1 first.1 in
    let u = world_is b.0 last.0 in let n = uo_is b.1 last.1 in
    four a.0 b.0 a.1 b.1 t m u n
  where
    four : (t u : HldsType) (m n : Mode) → t ≡ world → m ≡ Di → u ≡ world → n ≡ Uo → ◌≡◌ {A = List (HldsType × Mode)} ((t, m) ∷ (u, n) ∷ []) ((world, Di) ∷ (world, Uo) ∷ [])
    four t u m n a b c d = rw (a, b, c, d) refl
main_args (a ∷ b ∷ c ∷ args) h = absurd (false≢true h)

main_begins : (s : Hlds) (vars : List ℕ) (n : ℕ) (args : List (HldsType × Mode)) (head : List ℕ) → args ≡ (world, Di) ∷ (world, Uo) ∷ [] → length head ≡ length args
    → Fits s vars (entry_from args head (nothing_known n)) (main_env (blank n) head)
main_begins s vars n args [] is size = absurd (let long : length args ≡ 2 = ap (λ (as' : List (HldsType × Mode)). length as') is in omega (arith, size, long))
main_begins s vars n args (x ∷ []) is size = absurd (let long : length args ≡ 2 = ap (λ (as' : List (HldsType × Mode)). length as') is in omega (arith, size, long))
main_begins s vars n args (x ∷ y ∷ hs) is size =
    rw is (more (blank_fits s vars n))
  where
    more : Fits s vars (nothing_known n) (blank n) → Fits s vars (entry_from ((world, Di) ∷ (world, Uo) ∷ []) (x ∷ y ∷ hs) (nothing_known n)) (main_env (blank n) (x ∷ y ∷ hs))
    more h = fits_put s vars (nothing_known n) (blank n) x (Number (pos 0)) world false h refl

-- main's environment fits what is known before its body
pub main_fits : (s : Hlds) (vars : List ℕ) (p : Procedure) → is_main p ≡ true → length p.head ≡ length p.args → Fits s vars (entry p) (main_env (blank (length p.vars)) p.head)
main_fits s vars p is size =
    let a = and_parts _ (are_main_args p.args && same_det p.det det.Det) is in
    let b = and_parts (are_main_args p.args) (same_det p.det det.Det) a.1 in
    main_begins s vars (length p.vars) p.args p.head (main_args p.args b.0) size

-- main's trace
pub main_fine : (s : Hlds) (proper : Proper s) (depth : ℕ) (m : ℕ × Procedure) → slice_get s.procedures m.0 ≡ Some m.1 → is_main m.1 ≡ true → Fine (λ e. ⊤) (trace s depth (main_frame s m) [] 1)
main_fine s proper depth m at is =
    let p = m.1 in
    let ok = ok_then (goal (scope_of s p) p.body (entry p)) (λ b. end p b) tt (proper.accepted m.0 p at) in
    claim s proper depth (clause_variables p) false p.body (entry p) p.head (λ e. ⊤) ok.0 (body_number s m.0) 0 (main_env (blank (length p.vars)) p.head) [] [] [] 1
    (proper.tidy m.0 p at) ok.1
    (λ x. let e = times-append x p.head (variables p.body) in omega (arith, e))
    (main_fits s _ p is (proper.heads m.0 p at))
    (λ n lt e k reach fits. answers s (λ e. ⊤) n 0 e [] k tt)

-- the whole run, before the budget cuts it
pub main_not_stuck : (s : Hlds) (proper : Proper s) (budget : ℕ) (m : ℕ × Procedure) → slice_get s.procedures m.0 ≡ Some m.1 → is_main m.1 ≡ true → HasNoStuck (main_items s budget m)
main_not_stuck s proper budget m at is =
    not_stuck (λ e. ⊤) (first (trace s budget (main_frame s m) [] 1) 1 (λ e k. Exit 0 ∷ Answer e ∷ []) (λ k. Fail 0 ∷ []) [])
    (fine_first (λ e. ⊤) (λ e. ⊤) (trace s budget (main_frame s m) [] 1) 1 (λ e k. Exit 0 ∷ Answer e ∷ []) (λ k. Fail 0 ∷ []) []
    (main_fine s proper budget m at is) (λ e n h. (tt, tt)) (λ n. tt) tt)

run_safe : (s : Hlds) (proper : Proper s) (budget : ℕ) (o : Option (ℕ × Procedure)) → procedure_called s main_name ≡ o → ((m : ℕ × Procedure) → o ≡ Some m → is_main m.1 ≡ true) → HasNoStuck (run_main s budget o)
run_safe s proper budget None called main = tt
run_safe s proper budget (Some m) called main = cut_not_stuck budget (main_items s budget m) (main_not_stuck s proper budget m (called_at s main_name m called) (main m refl))

-- no run of an accepted program is stuck
pub never_stuck : (text : List ℕ) (s : Hlds) → Spells text s → mode_fault s ≡ None → (budget : ℕ) → HasNoStuck (run s budget)
unfolding run
never_stuck bytes s spells h budget =
    run_safe s (proper bytes s spells h) budget (procedure_called s main_name) refl
    (λ m is. one_main s m spells.once (accepted s h).main is)

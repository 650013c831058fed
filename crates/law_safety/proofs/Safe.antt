-- No trace of a goal that the mode rules accept is stuck, in an environment that fits what is known before the goal. What
-- the job does after the goal is a premise, for every smaller depth and every environment that fits what is known there.
use Rattle.std.proofs.Common.{◌≡◌, refl, sym, ap, ◌∙◌, subst, inl, inr, arith, ℕ, zero, suc, ◌+◌, ◌<◌, ◌≤◌, Bool, true, false, ◌&&◌, cond, nat_eq, List, [], ◌∷◌, ◌++◌, length, Option, Some, None, Ok, slice_get}
use Rattle.std.proofs.lemmas.Bool.{cases_lt, lt-ltb, eq-eqb, eqb-true}
use Rattle.std.specs.Prelude.{⊤}
use Rattle.md_hlds.specs.declared.types.Mode.{Mode}
use Rattle.md_hlds.specs.declared.types.Det.{Det}
use Rattle.md_hlds.specs.declared.types.Det.TheVariants as det
use Rattle.md_hlds.specs.declared.goal.PredName.{PredName}
use Rattle.md_hlds.specs.HldsGoal.{HldsGoal, At, GoalExpr, SimpleGoal, CallGoal, HoCallGoal, ConjGoal, DisjGoal, IfGoal, NotGoal, SomeGoal, HldsGoals, nothing, also, goal_size, Numbered, numbered_goal, numbered_from}
use Rattle.md_hlds.specs.Hlds.{HldsType, Procedure, Hlds, procedure_called, nth_procedure, numbered, body_number}
use Rattle.md_hlds.specs.Value.{Value, Values, no_values, listed_values, Env, value_at}
use Rattle.md_hlds.specs.Simple as run
use Rattle.md_hlds.specs.Simple.{Outcome, Go, No, Throws, Stop}
use Rattle.md_hlds.specs.Switch.{Key, switch_shape, arm_for, has_the_key}
use Rattle.md_hlds.specs.Trace.{Turn, Call, Exit, Redo, Fail, Answer, Deep, Items, Frame, Does, joined, first, excps, back, pairs_of, without, doing, knowing, alone, allocated, written, after_simple, one_arm, switched, disjunction, body_frame, cut_off, run_body, entered, called, call_if, invoked, applied, unfold_expr, returns, trace}
use Rattle.md_hlds.specs.Trace as item
use Rattle.md_hlds.proofs.DepthLemmas.{are_excps}
use Rattle.md_inst.specs.declared.fault.ModeFault.TheVariants.{Arity}
use Rattle.md_inst.specs.Verdict.{fine}
use Rattle.md_inst.specs.Instantiation.{InstMap, known_at, times}
use Rattle.md_inst.specs.Named.{predicate_called}
use Rattle.md_inst.specs.Arguments.{arguments}
use Rattle.md_inst.specs.Simple as rules
use Rattle.md_inst.specs.Simple.{goes_on, call_checked, apply_known, atomic}
use Rattle.md_modes.specs.Branches as branch
use Rattle.md_modes.specs.Branches.{After, after, outside}
use Rattle.md_modes.specs.Goals.{Scope, variables, expr_variables, parts_variables, simple_variables, clause_variables, goal, expr, each, arms}
use Rattle.md_modes.specs.Modes.{entry, exits, end, scope_of, clause}
use Rattle.md_modes.proofs.Counts.{times-append}
use Rattle.law_safety.specs.Values.{AreHeld, Fits}
use Rattle.law_safety.specs.Arguments.{AreArguments, taken, AreResults}
use Rattle.law_safety.specs.Turns.{LeadsTo, AreDistinct, IsTidy, IsTidyExpr, AreTidy}
use Rattle.law_safety.proofs.Items.{Fine, fine_joined, fine_first, fine_allocated, fine_written}
use Rattle.law_safety.proofs.Environments.{fits_fewer}
use Rattle.law_safety.proofs.Verdicts.{ok_then, ok_where, ok_is, ok_reached}
use Rattle.law_safety.proofs.Handing.{In', more_times, first_times, handed, returned}
use Rattle.law_safety.proofs.Functors.{predicate_number, called_at}
use Rattle.law_safety.proofs.SimpleGoals.{simple_leads}
use Rattle.law_safety.proofs.Accepted.{if_ok, not_ok, some_ok, each_ok, arms_ok}
use Rattle.law_safety.proofs.Growing.{later_then, goal_later, arms_later}
use Rattle.law_safety.proofs.JoinLemmas.{Joins, EndsJoin, joined_join, fits_joined}
use Rattle.law_safety.proofs.Calls.{call_fits, exits_return, others_return, without_size, IsApplied, type_of, known_applied}

-- ---- what is taken of a program

-- each clause is accepted, has a variable for each argument, and its goals are as the grammar has them
pub record Proper (s : Hlds) : Type 0 where
  pub tidy : (n : ℕ) (p : Procedure) → slice_get s.procedures n ≡ Some p → IsTidy p.body
  pub heads : (n : ℕ) (p : Procedure) → slice_get s.procedures n ≡ Some p → length p.head ≡ length p.args
  pub accepted : (n : ℕ) (p : Procedure) → slice_get s.procedures n ≡ Some p → clause s p ≡ Ok tt

-- ---- the claim

abbrev pub scope : Hlds → List ℕ → Bool → Scope
scope s all strict = record { program = s; all = all; strict = strict }

abbrev pub frame : ℕ → Env → List Numbered → List (ℕ × ℕ) → Frame
frame act e goals pairs = record { act = act; env = e; goals = goals; pairs = pairs }

-- the variables of a goal and those that are still to come are all of the clause's
abbrev pub HasRoom : (all vars rest : List ℕ) → Type 0
HasRoom all vars rest = (x : ℕ) → times x vars + times x rest ≤ times x all

-- what the job does after a goal is fine, at each smaller depth
abbrev pub GoesOn : Hlds → (Env → Type 0) → ℕ → ℕ → List Numbered → List (ℕ × ℕ) → List Frame → List ℕ → After → Type 0
GoesOn s good m act goals pairs js rest a =
    (n : ℕ) → n < m → (e : Env) (k : ℕ) → a.reach ≡ true → Fits s rest a.known e → Fine good (trace s n (frame act e goals pairs) js k)

abbrev pub Claim : Hlds → ℕ → Type 1
Claim s m =
    (all : List ℕ) (strict : Bool) (p : HldsGoal) (kn : InstMap) (rest : List ℕ) (good : Env → Type 0) (a : After) (number act : ℕ) (e : Env) (goals : List Numbered) (pairs : List (ℕ × ℕ)) (js : List Frame) (k : ℕ)
    → IsTidy p → goal (scope s all strict) p kn ≡ Ok a → HasRoom all (variables p) rest → Fits s (variables p ++ rest) kn e → GoesOn s good m act goals pairs js rest a
    → Fine good (trace s m (frame act e (numbered_goal number p ∷ goals) pairs) js k)

abbrev pub Below : Hlds → ℕ → Type 1
Below s m = (n : ℕ) → n ≤ m → Claim s n

-- ---- jobs without goals

pub answers : (s : Hlds) (good : Env → Type 0) (n act : ℕ) (e : Env) (pairs : List (ℕ × ℕ)) (k : ℕ) → good e → Fine good (trace s n (frame act e [] pairs) [] k)
answers s good zero act e pairs k h = (h, tt)
answers s good (suc n) act e pairs k h = (h, tt)

-- a frame without goals exits, and its caller goes on
pub exits_fine : (s : Hlds) (good : Env → Type 0) (n act : ℕ) (d : Env) (pairs : List (ℕ × ℕ)) (caller : Frame) (js : List Frame) (k : ℕ)
    → Fine good (trace s n (knowing caller (back pairs d caller.env) caller.goals) js k) → Fine good (trace s n (frame act d [] pairs) (caller ∷ js) k)
exits_fine s good zero act d pairs caller js k h = fine_joined good (trace s zero (knowing caller (back pairs d caller.env) caller.goals) js k) k (λ i. Redo act ∷ []) h (λ i. tt)
exits_fine s good (suc n) act d pairs caller js k h = fine_joined good (trace s (suc n) (knowing caller (back pairs d caller.env) caller.goals) js k) k (λ i. Redo act ∷ []) h (λ i. tt)

-- ---- variables

pub in_left : (vs ws : List ℕ) → In' vs (vs ++ ws)
in_left vs ws x there = let e = times-append x vs ws in omega (arith, there, e)

pub in_right : (vs ws : List ℕ) → In' ws (vs ++ ws)
in_right vs ws x there = let e = times-append x vs ws in omega (arith, there, e)

pub fits_left : (s : Hlds) (vs ws : List ℕ) (kn : InstMap) (e : Env) → Fits s (vs ++ ws) kn e → Fits s vs kn e
fits_left s vs ws kn e h = fits_fewer s (vs ++ ws) vs kn e (in_left vs ws) h

pub fits_right : (s : Hlds) (vs ws : List ℕ) (kn : InstMap) (e : Env) → Fits s (vs ++ ws) kn e → Fits s ws kn e
fits_right s vs ws kn e h = fits_fewer s (vs ++ ws) ws kn e (in_right vs ws) h

-- a variable that is still to come occurs outside
pub room_outside : (all vars rest : List ℕ) → HasRoom all vars rest → (x : ℕ) → 0 < times x rest → outside all vars x ≡ true
room_outside all vars rest room x there = lt-ltb (times x vars) (times x all) (let r = room x in omega (arith, there, r))

-- ---- simple goals

simple_fine : (s : Hlds) (good : Env → Type 0) (m number : ℕ) (f : Frame) (goals : List Numbered) (js : List Frame) (k : ℕ) (rest vars : List ℕ) (a : After) (o : Outcome)
    → LeadsTo s vars a.reach a.known o → In' rest vars → GoesOn s good (suc m) f.act goals f.pairs js rest a
    → Fine good (after_simple (λ f js k. trace s m f js k) f number goals js k o)
simple_fine s good m number f goals js k rest vars a (Go d extra words out) h among goes =
    let later = trace s m (frame f.act d goals f.pairs) js k in
    fine_allocated good f.act words (written out ++ later) (fine_written good out later (goes m (omega arith) d k h.1 (fits_fewer s vars rest a.known d among h.0)))
simple_fine s good m number f goals js k rest vars a (No extra) h among goes = tt
simple_fine s good m number f goals js k rest vars a (Throws bytes) h among goes = are_excps js
simple_fine s good m number f goals js k rest vars a Stop h among goes = elim h [ ]

-- ---- calls

-- what is taken of a call that is made: the procedure, its captured values, the arguments that are left
pub record IsCall (s : Hlds) (strict : Bool) (l : ℕ) (q : ℕ × Procedure) (held : Values) (others : List (HldsType × Mode)) (ys : List ℕ) (kn r : InstMap) (e : Env) : Type 0 where
  pub at : slice_get s.procedures q.0 ≡ Some q.1
  pub captured : AreHeld s held q.1.args others
  pub args : AreArguments s others (taken e ys)
  pub size : length ys ≡ length others
  pub accepted : arguments strict l others ys kn ≡ Ok r

-- what the end of a clause gives
pub end_results : (s : Hlds) (p : Procedure) (a : After) (d : Env) → end p a ≡ Ok tt → a.reach ≡ true → Fits s p.head a.known d → AreResults s p.args p.head d
end_results s p a d ok reach fits =
    let out : exits p.clause_line p.args p.head a.known ≡ Ok tt = sym (ap (λ (b : Bool). cond b (exits p.clause_line p.args p.head a.known) fine) reach) ∙ ok in
    exits_return s p.head p.clause_line p.args p.head a.known d fits (λ x there. there) out

-- a body, with whatever comes after it
pub body_fine : (s : Hlds) (proper : Proper s) (m : ℕ) → Below s m → (good : Env → Type 0) (strict : Bool) (l : ℕ) (q : ℕ × Procedure) (held : Values) (others : List (HldsType × Mode)) (ys : List ℕ) (kn r : InstMap) (e : Env)
    (act : ℕ) (pairs : List (ℕ × ℕ)) (js : List Frame) (k : ℕ) → IsCall s strict l q held others ys kn r e
    → ((n : ℕ) → n < m → (d : Env) (i : ℕ) → AreResults s others (without (listed_values held) q.1.head) d → Fine good (trace s n (frame act d [] pairs) js i))
    → Fine good (trace s m (frame act (entered q.1 (listed_values held) ys e) (numbered_goal (body_number s q.0) q.1.body ∷ []) pairs) js k)
body_fine s proper m below good strict l q held others ys kn r e act pairs js k c goes =
    let p = q.1 in
    let ok = ok_then (goal (scope_of s p) p.body (entry p)) (λ b. end p b) tt (proper.accepted q.0 p c.at) in
    below m (omega arith) (clause_variables p) false p.body (entry p) p.head good ok.0 (body_number s q.0) act (entered p (listed_values held) ys e) [] pairs js k
    (proper.tidy q.0 p c.at) ok.1
    (λ x. let e = times-append x p.head (variables p.body) in omega (arith, e))
    (call_fits s (variables p.body ++ p.head) p held others ys e c.captured c.args)
    (λ n lt d i reach fits. goes n lt d i (others_return s held p.args others p.head d c.captured (end_results s p ok.0 d ok.2 reach fits)))

-- what comes back fits what is known after the call
pub back_fits : (s : Hlds) (proper : Proper s) (strict : Bool) (l : ℕ) (q : ℕ × Procedure) (held : Values) (others : List (HldsType × Mode)) (ys rest : List ℕ) (kn r : InstMap) (e d : Env)
    → IsCall s strict l q held others ys kn r e → Fits s (ys ++ rest) kn e → AreResults s others (without (listed_values held) q.1.head) d
    → Fits s rest r (back (pairs_of (without (listed_values held) q.1.head) ys) d e)
back_fits s proper strict l q held others ys rest kn r e d c fits results =
    let size = without_size s held q.1.args others q.1.head c.captured (proper.heads q.0 q.1 c.at) in
    fits_right s ys rest r _
    (returned s (ys ++ rest) strict l others (without (listed_values held) q.1.head) ys kn r d e fits (in_left ys rest) size.0 c.size c.accepted results)

cut_fine : (s : Hlds) (proper : Proper s) (m : ℕ) → Below s m → (good : Env → Type 0) (strict : Bool) (l : ℕ) (q : ℕ × Procedure) (held : Values) (others : List (HldsType × Mode)) (ys rest : List ℕ) (kn r : InstMap) (e : Env)
    (act : ℕ) (goals : List Numbered) (pairs : List (ℕ × ℕ)) (js : List Frame) (k : ℕ) → IsCall s strict l q held others ys kn r e → Fits s (ys ++ rest) kn e
    → GoesOn s good (suc m) act goals pairs js rest (after r true)
    → Fine good (run_body (λ f js k. trace s m f js k) det.Det (body_frame s k (entered q.1 (listed_values held) ys e) q (pairs_of (without (listed_values held) q.1.head) ys)) (frame act e goals pairs) js k)
cut_fine s proper m below good strict l q held others ys rest kn r e act goals pairs js k c fits goes =
    let between = pairs_of (without (listed_values held) q.1.head) ys in
    fine_first (λ d. AreResults s others (without (listed_values held) q.1.head) d) good
    (trace s m (frame k (entered q.1 (listed_values held) ys e) (numbered_goal (body_number s q.0) q.1.body ∷ []) []) [] (suc k)) (suc k)
    (λ d n. Exit k ∷ trace s m (frame act (back between d e) goals pairs) js n) (λ n. Fail k ∷ []) (excps (frame act e goals pairs ∷ js))
    (body_fine s proper m below (λ d. AreResults s others (without (listed_values held) q.1.head) d) strict l q held others ys kn r e k [] [] (suc k) c (λ n lt d i results. answers s (λ d. AreResults s others (without (listed_values held) q.1.head) d) n k d [] i results))
    (λ d n results. goes m (omega arith) (back between d e) n refl (back_fits s proper strict l q held others ys rest kn r e d c fits results))
    (λ n. tt)
    (are_excps js)

whole_fine : (s : Hlds) (proper : Proper s) (m : ℕ) → Below s m → (good : Env → Type 0) (strict : Bool) (l : ℕ) (q : ℕ × Procedure) (held : Values) (others : List (HldsType × Mode)) (ys rest : List ℕ) (kn r : InstMap) (e : Env)
    (act : ℕ) (goals : List Numbered) (pairs : List (ℕ × ℕ)) (js : List Frame) (k : ℕ) → IsCall s strict l q held others ys kn r e → Fits s (ys ++ rest) kn e
    → GoesOn s good (suc m) act goals pairs js rest (after r true)
    → Fine good (run_body (λ f js k. trace s m f js k) det.Multi (body_frame s k (entered q.1 (listed_values held) ys e) q (pairs_of (without (listed_values held) q.1.head) ys)) (frame act e goals pairs) js k)
whole_fine s proper m below good strict l q held others ys rest kn r e act goals pairs js k c fits goes =
    let between = pairs_of (without (listed_values held) q.1.head) ys in
    fine_joined good (trace s m (frame k (entered q.1 (listed_values held) ys e) (numbered_goal (body_number s q.0) q.1.body ∷ []) between) (frame act e goals pairs ∷ js) (suc k)) (suc k) (λ n. Fail k ∷ [])
    (body_fine s proper m below good strict l q held others ys kn r e k between (frame act e goals pairs ∷ js) (suc k) c
    (λ n lt d i results. exits_fine s good n k d between (frame act e goals pairs) js i
    (goes n (omega (arith, lt)) (back between d e) i refl (back_fits s proper strict l q held others ys rest kn r e d c fits results))))
    (λ n. tt)

run_fine : (s : Hlds) (proper : Proper s) (m : ℕ) → Below s m → (good : Env → Type 0) (strict : Bool) (l : ℕ) (q : ℕ × Procedure) (held : Values) (others : List (HldsType × Mode)) (ys rest : List ℕ) (kn r : InstMap) (e : Env)
    (act : ℕ) (goals : List Numbered) (pairs : List (ℕ × ℕ)) (js : List Frame) (k : ℕ) (d : Det) → IsCall s strict l q held others ys kn r e → Fits s (ys ++ rest) kn e
    → GoesOn s good (suc m) act goals pairs js rest (after r true)
    → Fine good (run_body (λ f js k. trace s m f js k) d (body_frame s k (entered q.1 (listed_values held) ys e) q (pairs_of (without (listed_values held) q.1.head) ys)) (frame act e goals pairs) js k)
run_fine s proper m below good strict l q held others ys rest kn r e act goals pairs js k det.Det c fits goes = cut_fine s proper m below good strict l q held others ys rest kn r e act goals pairs js k c fits goes
run_fine s proper m below good strict l q held others ys rest kn r e act goals pairs js k det.Semidet c fits goes = cut_fine s proper m below good strict l q held others ys rest kn r e act goals pairs js k c fits goes
run_fine s proper m below good strict l q held others ys rest kn r e act goals pairs js k det.Failure c fits goes = cut_fine s proper m below good strict l q held others ys rest kn r e act goals pairs js k c fits goes
run_fine s proper m below good strict l q held others ys rest kn r e act goals pairs js k det.Multi c fits goes = whole_fine s proper m below good strict l q held others ys rest kn r e act goals pairs js k c fits goes
run_fine s proper m below good strict l q held others ys rest kn r e act goals pairs js k det.Nondet c fits goes = whole_fine s proper m below good strict l q held others ys rest kn r e act goals pairs js k c fits goes

-- a call of a procedure that is there, with as many arguments as it has
called_fine : (s : Hlds) (proper : Proper s) (m : ℕ) → Below s m → (good : Env → Type 0) (strict : Bool) (l : ℕ) (q : ℕ × Procedure) (held : Values) (others : List (HldsType × Mode)) (ys rest : List ℕ) (kn r : InstMap) (e : Env)
    (f : Frame) (number : ℕ) (goals : List Numbered) (js : List Frame) (k site : ℕ) → f.env ≡ e → IsCall s strict l q held others ys kn r e → Fits s (ys ++ rest) kn e
    → GoesOn s good (suc m) f.act goals f.pairs js rest (after r true)
    → Fine good (invoked s (λ f js k. trace s m f js k) f number goals js k site (Some q) (listed_values held) ys)
called_fine s proper m below good strict l q held others ys rest kn r e f number goals js k site env c fits goes =
    let size = without_size s held q.1.args others q.1.head c.captured (proper.heads q.0 q.1 c.at) in
    let long : length (listed_values held) + length ys ≡ length q.1.head = let a = size.1 in let b = c.size in omega (arith, a, b) in
    rw (eq-eqb (length (listed_values held) + length ys) (length q.1.head) long)
    (subst (λ (d : Env). Fine good (run_body (λ f js k. trace s m f js k) q.1.det (body_frame s k (entered q.1 (listed_values held) ys d) q (pairs_of (without (listed_values held) q.1.head) ys)) (frame f.act d goals f.pairs) js k)) (sym env)
    (run_fine s proper m below good strict l q held others ys rest kn r e f.act goals f.pairs js k q.1.det c fits goes))

-- the call of a name
name_fine : (s : Hlds) (proper : Proper s) (m : ℕ) → Below s m → (good : Env → Type 0) (strict : Bool) (l : ℕ) (q : PredName) (o : Option Procedure) (ys rest : List ℕ) (kn r : InstMap) (e : Env)
    (number act : ℕ) (goals : List Numbered) (pairs : List (ℕ × ℕ)) (js : List Frame) (k site : ℕ) → predicate_called s q ≡ o → AreDistinct ys → call_checked strict l ys o kn ≡ Ok r → Fits s (ys ++ rest) kn e
    → GoesOn s good (suc m) act goals pairs js rest (after r true)
    → Fine good (invoked s (λ f js k. trace s m f js k) (frame act e (numbered_goal number (At l (CallGoal site q ys)) ∷ goals) pairs) number goals js k site (procedure_called s q) [] ys)
name_fine s proper m below good strict l q None ys rest kn r e number act goals pairs js k site is distinct ok fits goes = absurd (cc ok)
name_fine s proper m below good strict l q (Some p) ys rest kn r e number act goals pairs js k site is distinct ok fits goes =
    let n = predicate_number s q p is in
    let a = ok_where (nat_eq (length ys) (length p.args)) (Arity l) (arguments strict l p.args ys kn) r ok in
    let size = eqb-true (length ys) (length p.args) a.0 in
    rw n.1 (called_fine s proper m below good strict l (n.0, p) no_values p.args ys rest kn r e (frame act e (numbered_goal number (At l (CallGoal site q ys)) ∷ goals) pairs) number goals js k site refl
    (record { at = called_at s q (n.0, p) n.1; captured = refl; args = handed s strict l p.args ys kn r e (fits_left s ys rest kn e fits) distinct size a.1; size = size; accepted = a.1 })
    fits goes)

-- the call of a closure
closure_fine : (s : Hlds) (proper : Proper s) (m : ℕ) → Below s m → (good : Env → Type 0) (strict : Bool) (l : ℕ) (o : Option Value) (ys rest : List ℕ) (t : HldsType) (kn r : InstMap) (e : Env)
    (f : Frame) (number : ℕ) (goals : List Numbered) (js : List Frame) (k site : ℕ) → f.env ≡ e → IsApplied s strict l ys o t kn r → AreDistinct ys → Fits s (ys ++ rest) kn e
    → GoesOn s good (suc m) f.act goals f.pairs js rest (after r true)
    → Fine good (applied s (λ f js k. trace s m f js k) f number goals js k site ys o)
closure_fine s proper m below good strict l o ys rest t kn r e f number goals js k site env c distinct fits goes =
    let there : nth_procedure s c.number ≡ Some (c.number, c.procedure) = ap (numbered c.number) c.at in
    subst (λ (v : Option Value). Fine good (applied s (λ f js k. trace s m f js k) f number goals js k site ys v)) (sym c.is)
    (subst (λ (q : Option (ℕ × Procedure)). Fine good (invoked s (λ f js k. trace s m f js k) f number goals js k site q (listed_values c.held) ys)) (sym there)
    (called_fine s proper m below good strict l (c.number, c.procedure) c.held c.others ys rest kn r e f number goals js k site env
    (record { at = c.at; captured = c.captured; args = handed s strict l c.others ys kn r e (fits_left s ys rest kn e fits) distinct c.size c.accepted; size = c.size; accepted = c.accepted })
    fits goes))

-- ---- conjunctions

pub both_reach : (a b : Bool) → a ≡ true → b ≡ true → (a && b) ≡ true
both_reach a b h g = rw (h, g) refl

each_fine : (s : Hlds) (m : ℕ) → Below s m → (all : List ℕ) (strict : Bool) (ps : HldsGoals) (n : ℕ) (kn : InstMap) (rest : List ℕ) (good : Env → Type 0) (a : After)
    (number act : ℕ) (e : Env) (goals : List Numbered) (pairs : List (ℕ × ℕ)) (js : List Frame) (k : ℕ) → n ≤ m
    → AreTidy ps → each (scope s all strict) ps kn ≡ Ok a → HasRoom all (parts_variables ps) rest → Fits s (parts_variables ps ++ rest) kn e → GoesOn s good (suc m) act goals pairs js rest a
    → Fine good (trace s n (frame act e (numbered_from number ps ++ goals) pairs) js k)
each_fine s m below all strict nothing n kn rest good a number act e goals pairs js k le tidy ok room fits goes =
    let is : after kn true ≡ a = ok_is (Ok (after kn true)) (after kn true) a refl ok in
    goes n (omega (arith, le)) e k (sym (ap (λ (b : After). b.reach) is)) (subst (λ (b : After). Fits s rest b.known e) is fits)
each_fine s m below all strict (also p ps) n kn rest good a number act e goals pairs js k le tidy ok room fits goes =
    let o = each_ok (scope s all strict) p ps kn a ok in
    below n le all strict p kn (parts_variables ps ++ rest) good o.first number act e (numbered_from (number + goal_size p) ps ++ goals) pairs js k tidy.0 o.begins
    (λ x. let r = room x in let f = times-append x (variables p) (parts_variables ps) in let g = times-append x (parts_variables ps) rest in omega (arith, r, f, g))
    (fits_fewer s ((variables p ++ parts_variables ps) ++ rest) (variables p ++ (parts_variables ps ++ rest)) kn e
    (λ x there. let f = times-append x (variables p ++ parts_variables ps) rest in let g = times-append x (variables p) (parts_variables ps) in
    let h = times-append x (variables p) (parts_variables ps ++ rest) in let i = times-append x (parts_variables ps) rest in omega (arith, there, f, g, h, i)) fits)
    (λ i lt d j reach inner. each_fine s m below all strict ps i o.first.known rest good o.rest (number + goal_size p) act d goals pairs js j (omega (arith, lt, le)) tidy.1 o.goes_on
    (λ x. let r = room x in let f = times-append x (variables p) (parts_variables ps) in omega (arith, r, f)) inner
    (λ i lt d j there last. goes i lt d j
    (sym (ap (λ (b : After). b.reach) o.is) ∙ both_reach o.first.reach o.rest.reach reach there)
    (subst (λ (b : After). Fits s rest b.known d) o.is last)))

-- ---- branches

-- each of these arms is fine
abbrev pub ArmsFine : (Numbered → ℕ → Type 0) → List Numbered → Type 0
ArmsFine P [] = ⊤
ArmsFine P (p ∷ ps) = ((k : ℕ) → P p k) × ArmsFine P ps

abbrev ArmFine : (Env → Type 0) → Does → Frame → List Numbered → List Frame → Numbered → ℕ → Type 0
ArmFine good go f goals js p k = Fine good (go (doing f (p ∷ goals)) js k)

all_arms : (good : Env → Type 0) (go : Does) (f : Frame) (goals : List Numbered) (js : List Frame) (ps : List Numbered) (k : ℕ) → ArmsFine (ArmFine good go f goals js) ps → Fine good (item.arms go f goals js k ps)
all_arms good go f goals js [] k h = tt
all_arms good go f goals js (p ∷ ps) k h = fine_joined good (go (doing f (p ∷ goals)) js k) k (λ n. item.arms go f goals js n ps) (h.0 k) (λ n. all_arms good go f goals js ps n h.1)

one_step : (good : Env → Type 0) (go : Does) (f : Frame) (goals : List Numbered) (js : List Frame) (k : ℕ) (p : Numbered) (o : Option Numbered) (b : Bool)
    → Fine good (go (doing f (p ∷ goals)) js k) → Fine good (one_arm go f goals js k o) → Fine good (one_arm go f goals js k (cond b (Some p) o))
one_step good go f goals js k p o true h g = h
one_step good go f goals js k p o false h g = g

one_of_arms : (good : Env → Type 0) (go : Does) (f : Frame) (goals : List Numbered) (js : List Frame) (k : ℕ) (v : Value) (keys : List Key) (ps : List Numbered)
    → ArmsFine (ArmFine good go f goals js) ps → Fine good (one_arm go f goals js k (arm_for v keys ps))
one_of_arms good go f goals js k v [] ps h = tt
one_of_arms good go f goals js k v (key ∷ keys) [] h = tt
one_of_arms good go f goals js k v (key ∷ keys) (p ∷ ps) h = one_step good go f goals js k p (arm_for v keys ps) (has_the_key v key) (h.0 k) (one_of_arms good go f goals js k v keys ps h.1)

by_value : (good : Env → Type 0) (go : Does) (f : Frame) (goals : List Numbered) (js : List Frame) (k : ℕ) (ps : List Numbered) (keys : List Key) (o : Option Value)
    → ArmsFine (ArmFine good go f goals js) ps → Fine good (switched go f goals js k ps keys o)
by_value good go f goals js k ps keys None h = all_arms good go f goals js ps k h
by_value good go f goals js k ps keys (Some v) h = one_of_arms good go f goals js k v keys ps h

any_disjunction : (good : Env → Type 0) (go : Does) (f : Frame) (goals : List Numbered) (js : List Frame) (k : ℕ) (ps : List Numbered) (o : Option (ℕ × List Key))
    → ArmsFine (ArmFine good go f goals js) ps → Fine good (disjunction go f goals js k ps o)
any_disjunction good go f goals js k ps None h = all_arms good go f goals js ps k h
any_disjunction good go f goals js k ps (Some w) h = by_value good go f goals js k ps w.1 (value_at f.env w.0) h

-- what follows a branch follows each of its arms
arm_goes : (s : Hlds) (good : Env → Type 0) (m act : ℕ) (goals : List Numbered) (pairs : List (ℕ × ℕ)) (js : List Frame) (all inner rest : List ℕ) (a b : After)
    → HasRoom all inner rest → (b.reach ≡ true → Joins (outside all inner) a b.known) → GoesOn s good (suc m) act goals pairs js rest a → GoesOn s good m act goals pairs js rest b
arm_goes s good m act goals pairs js all inner rest a b room joins goes n lt e k reach fits =
    let j = joins reach in
    goes n (omega (arith, lt)) e k j.reach (fits_joined s (outside all inner) rest a b.known e j (room_outside all inner rest room) fits)

arms_fine : (s : Hlds) (m : ℕ) → Below s m → (all : List ℕ) (strict : Bool) (ps : HldsGoals) (kn : InstMap) (inner rest : List ℕ) (good : Env → Type 0) (a : After) (ends : List After)
    (number : ℕ) (f : Frame) (goals : List Numbered) (js : List Frame)
    → AreTidy ps → arms (scope s all strict) ps kn ≡ Ok ends → HasRoom all inner rest → ((x : ℕ) → times x (parts_variables ps) ≤ times x inner) → Fits s (inner ++ rest) kn f.env
    → EndsJoin (outside all inner) a ends → GoesOn s good (suc m) f.act goals f.pairs js rest a
    → ArmsFine (ArmFine good (λ f js k. trace s m f js k) f goals js) (numbered_from number ps)
arms_fine s m below all strict nothing kn inner rest good a ends number f goals js tidy ok room among fits joins goes = tt
arms_fine s m below all strict (also p ps) kn inner rest good a ends number f goals js tidy ok room among fits joins goes =
    let o = arms_ok (scope s all strict) p ps kn ends ok in
    let parts : EndsJoin (outside all inner) a (o.first ∷ o.ends) = subst (λ (es : List After). EndsJoin (outside all inner) a es) (sym o.is) joins in (
      (λ k. below m (omega arith) all strict p kn rest good o.first number f.act f.env goals f.pairs js k tidy.0 o.begins
          (λ x. let r = room x in let i = among x in let t = times-append x (variables p) (parts_variables ps) in omega (arith, r, i, t))
          (fits_fewer s (inner ++ rest) (variables p ++ rest) kn f.env
          (λ x there. let i = among x in let t = times-append x (variables p) (parts_variables ps) in let g = times-append x (variables p) rest in let h = times-append x inner rest in omega (arith, there, i, t, g, h)) fits)
          (arm_goes s good m f.act goals f.pairs js all inner rest a o.first room parts.0 goes)),
      arms_fine s m below all strict ps kn inner rest good a o.ends (number + goal_size p) f goals js tidy.1 o.others room
          (λ x. let i = among x in let t = times-append x (variables p) (parts_variables ps) in omega (arith, i, t)) fits parts.1 goes,
    )

-- a condition by itself
pub condition_fine : (s : Hlds) (m : ℕ) → Below s m → (all : List ℕ) (c : HldsGoal) (kn : InstMap) (rest : List ℕ) (a : After) (number act : ℕ) (e : Env) (k : ℕ)
    → IsTidy c → goal (scope s all true) c kn ≡ Ok a → HasRoom all (variables c) rest → Fits s (variables c ++ rest) kn e
    → Fine (λ d. Fits s rest a.known d) (trace s m (frame act e (numbered_goal number c ∷ []) []) [] k)
condition_fine s m below all c kn rest a number act e k tidy ok room fits =
    below m (omega arith) all true c kn rest (λ d. Fits s rest a.known d) a number act e [] [] [] k tidy ok room fits
    (λ n lt d i reach inner. answers s (λ d. Fits s rest a.known d) n act d [] i inner)

if_fine : (s : Hlds) (m : ℕ) → Below s m → (all : List ℕ) (strict : Bool) (l : ℕ) (c t e : HldsGoal) (kn : InstMap) (rest : List ℕ) (good : Env → Type 0) (a : After) (number : ℕ) (f : Frame) (goals : List Numbered) (js : List Frame) (k : ℕ)
    → IsTidyExpr (IfGoal c t e) → expr (scope s all strict) l (IfGoal c t e) kn ≡ Ok a → HasRoom all (expr_variables (IfGoal c t e)) rest → Fits s (expr_variables (IfGoal c t e) ++ rest) kn f.env
    → GoesOn s good (suc m) f.act goals f.pairs js rest a → Fine good (unfold_expr s (λ f js k. trace s m f js k) f number goals js k (IfGoal c t e))
if_fine s m below all strict l c t e kn rest good a number f goals js k tidy ok room fits goes =
    let o = if_ok (scope s all strict) l c t e kn a ok in
    let inner = variables c ++ (variables t ++ variables e) in
    let later = later_then kn o.condition.known o.then.known (goal_later (scope s all true) c kn o.condition o.begins) (goal_later (scope s all strict) t o.condition.known o.then o.wins) in
    let joins = joined_join l (outside all inner) kn (o.then ∷ o.else ∷ []) a (later, (goal_later (scope s all strict) e kn o.else o.loses, tt)) o.joins in
    fine_first (λ d. Fits s (variables t ++ rest) o.condition.known d) good
    (trace s m (frame f.act f.env (numbered_goal (suc number) c ∷ []) []) [] k) k
    (λ d n. trace s m (frame f.act d (numbered_goal (suc number + goal_size c) t ∷ goals) f.pairs) js n)
    (λ n. trace s m (frame f.act f.env (numbered_goal (suc number + goal_size c + goal_size t) e ∷ goals) f.pairs) js n)
    (excps js)
    (condition_fine s m below all c kn (variables t ++ rest) o.condition (suc number) f.act f.env k tidy.0 o.begins
    (λ x. let r = room x in let i = times-append x (variables c) (variables t ++ variables e) in let j = times-append x (variables t) (variables e) in let h = times-append x (variables t) rest in omega (arith, r, i, j, h))
    (fits_fewer s (inner ++ rest) (variables c ++ (variables t ++ rest)) kn f.env
    (λ x there. let i = times-append x (variables c) (variables t ++ variables e) in let j = times-append x (variables t) (variables e) in let g = times-append x inner rest in
    let h = times-append x (variables t) rest in let q = times-append x (variables c) (variables t ++ rest) in omega (arith, there, i, j, g, h, q)) fits))
    (λ d n inside. below m (omega arith) all strict t o.condition.known rest good o.then (suc number + goal_size c) f.act d goals f.pairs js n tidy.1.0 o.wins
    (λ x. let r = room x in let i = times-append x (variables c) (variables t ++ variables e) in let j = times-append x (variables t) (variables e) in omega (arith, r, i, j))
    inside (arm_goes s good m f.act goals f.pairs js all inner rest a o.then room joins.0 goes))
    (λ n. below m (omega arith) all strict e kn rest good o.else (suc number + goal_size c + goal_size t) f.act f.env goals f.pairs js n tidy.1.1 o.loses
    (λ x. let r = room x in let i = times-append x (variables c) (variables t ++ variables e) in let j = times-append x (variables t) (variables e) in omega (arith, r, i, j))
    (fits_fewer s (inner ++ rest) (variables e ++ rest) kn f.env
    (λ x there. let i = times-append x (variables c) (variables t ++ variables e) in let j = times-append x (variables t) (variables e) in let g = times-append x inner rest in
    let h = times-append x (variables e) rest in omega (arith, there, i, j, g, h)) fits)
    (arm_goes s good m f.act goals f.pairs js all inner rest a o.else room joins.1.0 goes))
    (are_excps js)

-- after a negation or `some` is known what was known before it
pub only_goes : (s : Hlds) (rest : List ℕ) (kn : InstMap) (a : After) (e : Env) → after kn true ≡ a → Fits s rest kn e → (a.reach ≡ true) × Fits s rest a.known e
only_goes s rest kn a e is fits = (sym (ap (λ (b : After). b.reach) is), subst (λ (b : After). Fits s rest b.known e) is fits)

not_fine : (s : Hlds) (m : ℕ) → Below s m → (all : List ℕ) (strict : Bool) (l : ℕ) (c : HldsGoal) (kn : InstMap) (rest : List ℕ) (good : Env → Type 0) (a : After) (number : ℕ) (f : Frame) (goals : List Numbered) (js : List Frame) (k : ℕ)
    → IsTidy c → expr (scope s all strict) l (NotGoal c) kn ≡ Ok a → HasRoom all (variables c) rest → Fits s (variables c ++ rest) kn f.env
    → GoesOn s good (suc m) f.act goals f.pairs js rest a → Fine good (unfold_expr s (λ f js k. trace s m f js k) f number goals js k (NotGoal c))
not_fine s m below all strict l c kn rest good a number f goals js k tidy ok room fits goes =
    let o = not_ok (scope s all strict) l c kn a ok in
    let there = only_goes s rest kn a f.env o.is (fits_right s (variables c) rest kn f.env fits) in
    fine_first (λ d. Fits s rest o.inner.known d) good (trace s m (frame f.act f.env (numbered_goal (suc number) c ∷ []) []) [] k) k
    (λ d n. []) (λ n. trace s m (frame f.act f.env goals f.pairs) js n) (excps js)
    (condition_fine s m below all c kn rest o.inner (suc number) f.act f.env k tidy o.begins room fits)
    (λ d n inside. tt) (λ n. goes m (omega arith) f.env n there.0 there.1) (are_excps js)

some_fine : (s : Hlds) (m : ℕ) → Below s m → (all : List ℕ) (strict : Bool) (l : ℕ) (vs : List ℕ) (c : HldsGoal) (kn : InstMap) (rest : List ℕ) (good : Env → Type 0) (a : After) (number : ℕ) (f : Frame) (goals : List Numbered) (js : List Frame) (k : ℕ)
    → IsTidy c → expr (scope s all strict) l (SomeGoal vs c) kn ≡ Ok a → HasRoom all (vs ++ variables c) rest → Fits s ((vs ++ variables c) ++ rest) kn f.env
    → GoesOn s good (suc m) f.act goals f.pairs js rest a → Fine good (unfold_expr s (λ f js k. trace s m f js k) f number goals js k (SomeGoal vs c))
some_fine s m below all strict l vs c kn rest good a number f goals js k tidy ok room fits goes =
    let o = some_ok (scope s all strict) l vs c kn a ok in
    let there = only_goes s rest kn a f.env o.is (fits_right s (vs ++ variables c) rest kn f.env fits) in
    fine_first (λ d. Fits s rest o.inner.known d) good (trace s m (frame f.act f.env (numbered_goal (suc number) c ∷ []) []) [] k) k
    (λ d n. trace s m (frame f.act f.env goals f.pairs) js n) (λ n. []) (excps js)
    (condition_fine s m below all c kn rest o.inner (suc number) f.act f.env k tidy o.begins
    (λ x. let r = room x in let i = times-append x vs (variables c) in omega (arith, r, i))
    (fits_fewer s ((vs ++ variables c) ++ rest) (variables c ++ rest) kn f.env
    (λ x there. let i = times-append x vs (variables c) in let g = times-append x (vs ++ variables c) rest in let h = times-append x (variables c) rest in omega (arith, there, i, g, h)) fits))
    (λ d n inside. goes m (omega arith) f.env n there.0 there.1) (λ n. tt) (are_excps js)

-- ---- any goal

expr_fine : (s : Hlds) (proper : Proper s) (m : ℕ) → Below s m → (all : List ℕ) (strict : Bool) (l : ℕ) (t : GoalExpr) (kn : InstMap) (rest : List ℕ) (good : Env → Type 0) (a : After)
    (number act : ℕ) (e : Env) (goals : List Numbered) (pairs : List (ℕ × ℕ)) (js : List Frame) (k : ℕ)
    → IsTidyExpr t → expr (scope s all strict) l t kn ≡ Ok a → HasRoom all (expr_variables t) rest → Fits s (expr_variables t ++ rest) kn e → GoesOn s good (suc m) act goals pairs js rest a
    → Fine good (unfold_expr s (λ f js k. trace s m f js k) (frame act e (numbered_goal number (At l t) ∷ goals) pairs) number goals js k t)
expr_fine s proper m below all strict l (SimpleGoal g) kn rest good a number act e goals pairs js k tidy ok room fits goes =
    let o = ok_reached (goes_on g) (rules.simple s strict l g kn) a ok in
    simple_fine s good m number (frame act e (numbered_goal number (At l (SimpleGoal g)) ∷ goals) pairs) goals js k rest (simple_variables g ++ rest) a (run.simple s e g)
    (subst (λ (b : Bool). LeadsTo s (simple_variables g ++ rest) b a.known (run.simple s e g)) (sym o.1)
    (simple_leads s (simple_variables g ++ rest) strict l g kn a.known e tidy fits (in_left (simple_variables g) rest) o.0))
    (in_right (simple_variables g) rest) goes
expr_fine s proper m below all strict l (CallGoal site q ys) kn rest good a number act e goals pairs js k tidy ok room fits goes =
    let o = ok_reached true (atomic s strict l (CallGoal site q ys) kn) a ok in
    name_fine s proper m below good strict l q (predicate_called s q) ys rest kn a.known e number act goals pairs js k site refl tidy o.0 fits (λ n lt d i reach inner. goes n lt d i o.1 inner)
expr_fine s proper m below all strict l (HoCallGoal site f ys) kn rest good a number act e goals pairs js k tidy ok room fits goes =
    let o = ok_reached true (atomic s strict l (HoCallGoal site f ys) kn) a ok in
    let fewer = fits_fewer s ((f ∷ ys) ++ rest) (ys ++ rest) kn e (λ x there. more_times x f (ys ++ rest) there) fits in
    closure_fine s proper m below good strict l (value_at e f) ys rest (type_of (known_at kn f)) kn a.known e (frame act e (numbered_goal number (At l (HoCallGoal site f ys)) ∷ goals) pairs) number goals js k site refl
    (known_applied s strict l ys (value_at e f) (known_at kn f) kn a.known (fits.each f (first_times f (ys ++ rest))) o.0)
    tidy fewer (λ n lt d i reach inner. goes n lt d i o.1 inner)
expr_fine s proper m below all strict l (ConjGoal ps) kn rest good a number act e goals pairs js k tidy ok room fits goes =
    each_fine s m below all strict ps m kn rest good a (suc number) act e goals pairs js k (omega arith) tidy ok room fits goes
expr_fine s proper m below all strict l (DisjGoal ps) kn rest good a number act e goals pairs js k tidy ok room fits goes =
    let b = ok_then (arms (scope s all strict) ps kn) (λ ends. branch.joined l (outside all (parts_variables ps)) kn ends) a ok in
    let f = frame act e (numbered_goal number (At l (DisjGoal ps)) ∷ goals) pairs in
    any_disjunction good (λ f js k. trace s m f js k) f goals js k (numbered_from (suc number) ps) (switch_shape s ps)
    (arms_fine s m below all strict ps kn (parts_variables ps) rest good a b.0 (suc number) f goals js tidy b.1 room (λ x. omega arith) fits
    (joined_join l (outside all (parts_variables ps)) kn b.0 a (arms_later (scope s all strict) ps kn b.0 b.1) b.2) goes)
expr_fine s proper m below all strict l (IfGoal c t u) kn rest good a number act e goals pairs js k tidy ok room fits goes =
    if_fine s m below all strict l c t u kn rest good a number (frame act e (numbered_goal number (At l (IfGoal c t u)) ∷ goals) pairs) goals js k tidy ok room fits goes
expr_fine s proper m below all strict l (NotGoal c) kn rest good a number act e goals pairs js k tidy ok room fits goes =
    not_fine s m below all strict l c kn rest good a number (frame act e (numbered_goal number (At l (NotGoal c)) ∷ goals) pairs) goals js k tidy ok room fits goes
expr_fine s proper m below all strict l (SomeGoal vs c) kn rest good a number act e goals pairs js k tidy ok room fits goes =
    some_fine s m below all strict l vs c kn rest good a number (frame act e (numbered_goal number (At l (SomeGoal vs c)) ∷ goals) pairs) goals js k tidy ok room fits goes

deeper : (s : Hlds) (proper : Proper s) (m : ℕ) → Below s m → Claim s (suc m)
deeper s proper m below all strict (At l t) kn rest good a number act e goals pairs js k tidy ok room fits goes =
    expr_fine s proper m below all strict l t kn rest good a number act e goals pairs js k tidy ok room fits goes

flat : (s : Hlds) → Claim s zero
flat s all strict p kn rest good a number act e goals pairs js k tidy ok room fits goes = tt

below_none : (s : Hlds) → Below s zero
below_none s n le = let same : n ≡ zero = omega (arith, le) in subst (λ (i : ℕ). Claim s i) (sym same) (flat s)

below_more : (s : Hlds) (m : ℕ) → Below s m → Claim s (suc m) → Below s (suc m)
below_more s m below next n le = elim (cases_lt n (suc m)) [
  | inl lt ↦ below n (omega (arith, lt))
  | inr ge ↦ let same : n ≡ suc m = omega (arith, le, ge) in subst (λ (i : ℕ). Claim s i) (sym same) next
]

pub all_below : (s : Hlds) → Proper s → (m : ℕ) → Below s m
all_below s proper zero = below_none s
all_below s proper (suc m) = let below = all_below s proper m in below_more s m below (deeper s proper m below)

-- no trace of an accepted goal is stuck
pub claim : (s : Hlds) → Proper s → (m : ℕ) → Claim s m
claim s proper m = all_below s proper m m (omega arith)

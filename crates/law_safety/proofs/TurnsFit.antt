-- Each turn that main's trace comes to has an environment that fits. The proof goes the way of that of `never_stuck`: what a
-- job comes to after a goal is a premise, for every smaller depth and every environment that fits what is known there. What
-- the answers of a part fit is taken from there.
use Rattle.std.proofs.Common.{◌≡◌, refl, sym, ap, ◌∙◌, subst, inl, inr, arith, ℕ, zero, suc, ◌+◌, ◌<◌, ◌≤◌, Bool, true, false, cond, nat_eq, List, [], ◌∷◌, ◌++◌, length, Option, Some, None, Ok, slice_get}
use Rattle.std.proofs.lemmas.Bool.{cases_lt, eqb-true}
use Rattle.md_hlds.specs.declared.types.Mode.{Mode}
use Rattle.md_hlds.specs.declared.goal.PredName.{PredName}
use Rattle.md_hlds.specs.HldsGoal.{Simple, HldsGoal, At, GoalExpr, SimpleGoal, CallGoal, HoCallGoal, DisjGoal, IfGoal, NotGoal, SomeGoal, HldsGoals, nothing, also, goal_size, Numbered, numbered_goal, numbered_from}
use Rattle.md_hlds.specs.Hlds.{HldsType, Procedure, Hlds, procedure_called, nth_procedure, numbered, body_number}
use Rattle.md_hlds.specs.Value.{Value, Values, Closure, no_values, listed_values, Env, value_at, blank}
use Rattle.md_hlds.specs.Simple as run
use Rattle.md_hlds.specs.Simple.{Outcome, Go}
use Rattle.md_hlds.specs.Switch.{Key, arm_for, has_the_key}
use Rattle.md_hlds.specs.Trace.{Turn, Call, Exit, Redo, Fail, Excp, Alloc, Out, Throw, Answer, Stuck, Deep, Items, Frame, back, pairs_of, without, doing, knowing, entered, trace}
use Rattle.md_hlds.specs.Run.{main_name, main_env}
use Rattle.md_reader.specs.Grammar.{Spells}
use Rattle.md_inst.specs.declared.fault.ModeFault.TheVariants.{Arity}
use Rattle.md_inst.specs.Instantiation.{InstMap, known_at, times}
use Rattle.md_inst.specs.Named.{predicate_called}
use Rattle.md_inst.specs.Arguments.{arguments}
use Rattle.md_inst.specs.Simple as rules
use Rattle.md_inst.specs.Simple.{goes_on, call_checked, atomic}
use Rattle.md_modes.specs.Branches as branch
use Rattle.md_modes.specs.Branches.{After, after, outside}
use Rattle.md_modes.specs.Goals.{variables, expr_variables, parts_variables, simple_variables, clause_variables, goal, each, arms}
use Rattle.md_modes.specs.Modes.{entry, end, scope_of, is_main, mode_fault}
use Rattle.md_modes.proofs.Counts.{times-append}
use Rattle.md_det.specs.Switches.{switch_of, variable_of}
use Rattle.law_safety.specs.Values.{Fits}
use Rattle.law_safety.specs.Arguments.{AreResults}
use Rattle.law_safety.specs.Turns.{LeadsTo, AreDistinct, IsTidy, AreTidy}
use Rattle.law_safety.specs.Known.{place, Begins, BeginsParts, BeginsArms, body, part, arm, condition, then, else, negated, quantified, next_parts, next_arms, switches_on, parts_switch_on, arms_switch_on, IsChosen, goals_variables, FitsAt, FitsFirst}
use Rattle.law_safety.specs.Known as known
use Rattle.law_safety.specs.Unfolding.{Job, job, main_job, first_answer, Tries, at_once, later, Calls, begins_cut, has_exited, begins_whole, Unfolds, goes, parts, tries, switches, asks, holds, fails, denies, is_denied, seeks, has_found, calls, applies, Next, Comes, here, further}
use Rattle.law_safety.proofs.Items.{Fine}
use Rattle.law_safety.proofs.Environments.{fits_fewer}
use Rattle.law_safety.proofs.Verdicts.{ok_then, ok_where, ok_is, ok_reached}
use Rattle.law_safety.proofs.Handing.{In', more_times, first_times, handed}
use Rattle.law_safety.proofs.Functors.{predicate_number, called_at}
use Rattle.law_safety.proofs.SimpleGoals.{simple_leads}
use Rattle.law_safety.proofs.Accepted.{if_ok, not_ok, some_ok, each_ok, arms_ok}
use Rattle.law_safety.proofs.Growing.{later_then, goal_later, arms_later}
use Rattle.law_safety.proofs.JoinLemmas.{Joins, EndsJoin, joined_join, fits_joined}
use Rattle.law_safety.proofs.Calls.{call_fits, others_return, IsApplied, type_of, known_applied}
use Rattle.law_safety.proofs.Safe.{Proper, frame, HasRoom, IsCall, in_left, in_right, fits_left, fits_right, room_outside, answers, end_results, body_fine, back_fits, both_reach, ArmsFine, condition_fine, only_goes, all_below}
use Rattle.law_safety.proofs.SwitchLemmas.{IsFirstChosen, first_chosen, none_chosen}
use Rattle.law_safety.proofs.ChosenArms.{no_switch_chosen, arm_is_chosen}
use Rattle.law_safety.proofs.Whole.{accepted, proper, main_fits}
use Rattle.law_safety.proofs.OneMain.{one_main}

-- ---- jobs

-- at each turn that a job comes to, the environment fits
abbrev pub AllFit : Hlds → Job → Type 0
AllFit s i = (j : Job) → Comes s i j → FitsFirst s j.frame.env j.frame.goals

all_fit : (s : Hlds) (i : Job) → FitsFirst s i.frame.env i.frame.goals → ((j : Job) → Next s i j → AllFit s j) → AllFit s i
all_fit s _ fits nexts _ (here i) = fits
all_fit s _ fits nexts _ (further i j l step rest) = nexts j step l rest

ended_fit : (s : Hlds) (n act : ℕ) (e : Env) (pairs : List (ℕ × ℕ)) (k : ℕ) → AllFit s (job n (frame act e [] pairs) [] k)
ended_fit s n act e pairs k = all_fit s (job n (frame act e [] pairs) [] k) tt (λ j step. elim step [ ])

-- a frame without goals exits, and its caller goes on
exits_fit : (s : Hlds) (n act : ℕ) (d : Env) (pairs : List (ℕ × ℕ)) (caller : Frame) (js : List Frame) (k : ℕ)
    → AllFit s (job n (knowing caller (back pairs d caller.env) caller.goals) js k) → AllFit s (job n (frame act d [] pairs) (caller ∷ js) k)
exits_fit s n act d pairs caller js k h = all_fit s (job n (frame act d [] pairs) (caller ∷ js) k) tt (λ j is. subst (λ (i : Job). AllFit s i) (sym is) h)

-- the first answer of a trace whose answers are good
answered : (good : Env → Type 0) (xs : Items) (k : ℕ) (d : Env) (i : ℕ) → Fine good xs → first_answer xs k ≡ Some (d, i) → good d
answered good [] k d i h is = absurd (cc is)
answered good (Turn a g w ∷ xs) k d i h is = answered good xs k d i h is
answered good (Call a p s q ∷ xs) k d i h is = answered good xs (suc k) d i h is
answered good (Exit a ∷ xs) k d i h is = answered good xs k d i h is
answered good (Redo a ∷ xs) k d i h is = answered good xs k d i h is
answered good (Fail a ∷ xs) k d i h is = answered good xs k d i h is
answered good (Excp a ∷ xs) k d i h is = answered good xs k d i h is
answered good (Alloc a w ∷ xs) k d i h is = answered good xs k d i h is
answered good (Out b ∷ xs) k d i h is = answered good xs k d i h is
answered good (Throw b ∷ xs) k d i h is = absurd (cc is)
answered good (Answer e ∷ xs) k d i h is = let same : ◌≡◌ {A = Env × ℕ} (e, k) (d, i) = cc is in subst (λ (c : Env). good c) (ap (λ (x : Env × ℕ). x.0) same) h.0
answered good (Stuck ∷ xs) k d i h is = absurd (cc is)
answered good (Deep ∷ xs) k d i h is = absurd (cc is)

-- ---- the claim

-- a goal of a clause that the mode rules come to and accept, in an environment that fits what is known before it
pub record Placed (s : Hlds) (q : ℕ × Procedure) (strict : Bool) (number : ℕ) (p : HldsGoal) (kn : InstMap) (rest : List ℕ) (a : After) (e : Env) : Type 0 where
  pub at : slice_get s.procedures q.0 ≡ Some q.1
  pub before : Begins s q strict number p kn
  pub tidy : IsTidy p
  pub accepted : goal (place s q.1 strict) p kn ≡ Ok a
  pub room : HasRoom (clause_variables q.1) (variables p) rest
  pub fits : Fits s (variables p ++ rest) kn e
  pub chosen : IsChosen s (switches_on before) p e

-- the variables of the goals after it, and those of the head, are among those that are still to come
abbrev pub AreToCome : ℕ × Procedure → List Numbered → List ℕ → Type 0
AreToCome q goals rest = In' (goals_variables goals ++ q.1.head) rest

abbrev GoOn : Hlds → ℕ → ℕ → List Numbered → List (ℕ × ℕ) → List Frame → List ℕ → After → Type 0
GoOn s m act goals pairs js rest a = (n : ℕ) → n < m → (e : Env) (k : ℕ) → a.reach ≡ true → Fits s rest a.known e → AllFit s (job n (frame act e goals pairs) js k)

abbrev Claim : Hlds → ℕ → Type 0
Claim s m =
    (q : ℕ × Procedure) (strict : Bool) (number : ℕ) (p : HldsGoal) (kn : InstMap) (rest : List ℕ) (a : After) (act : ℕ) (e : Env) (goals : List Numbered) (pairs : List (ℕ × ℕ)) (js : List Frame) (k : ℕ)
    → Placed s q strict number p kn rest a e → AreToCome q goals rest → GoOn s m act goals pairs js rest a
    → AllFit s (job m (frame act e (numbered_goal number p ∷ goals) pairs) js k)

abbrev Below : Hlds → ℕ → Type 0
Below s m = (n : ℕ) → n ≤ m → Claim s n

-- ---- variables

pub after_same : (vs ws us : List ℕ) → In' ws us → In' (vs ++ ws) (vs ++ us)
after_same vs ws us h x there = elim (cases_lt 0 (times x ws)) [
  | inl lt ↦ let g = h x lt in let e = times-append x vs us in omega (arith, g, e)
  | inr ge ↦ let e = times-append x vs ws in let f = times-append x vs us in omega (arith, there, ge, e, f)
]

goals_more : (x n : ℕ) (ps : HldsGoals) (goals : List Numbered) → times x (goals_variables (numbered_from n ps ++ goals)) ≡ times x (parts_variables ps) + times x (goals_variables goals)
goals_more x n nothing goals = omega arith
goals_more x n (also p ps) goals =
    let rest = goals_more x (n + goal_size p) ps goals in
    let f = times-append x (variables p) (goals_variables (numbered_from (n + goal_size p) ps ++ goals)) in
    let g = times-append x (variables p) (parts_variables ps) in omega (arith, rest, f, g)

-- what is still to come after a part of a conjunction
pub come_after : (q : ℕ × Procedure) (n : ℕ) (ps : HldsGoals) (goals : List Numbered) (rest : List ℕ) → AreToCome q goals rest → AreToCome q (numbered_from n ps ++ goals) (parts_variables ps ++ rest)
come_after q n ps goals rest h x there =
    after_same (parts_variables ps) (goals_variables goals ++ q.1.head) rest h x
    (let a = goals_more x n ps goals in
    let b = times-append x (goals_variables (numbered_from n ps ++ goals)) q.1.head in
    let c = times-append x (parts_variables ps) (goals_variables goals ++ q.1.head) in
    let d = times-append x (goals_variables goals) q.1.head in omega (arith, there, a, b, c, d))

-- within a condition only the head's variables are still to come
pub come_inside : (q : ℕ × Procedure) (goals : List Numbered) (vs rest : List ℕ) → AreToCome q goals rest → AreToCome q [] (vs ++ rest)
come_inside q goals vs rest h x there = in_right vs rest x (h x (in_right (goals_variables goals) q.1.head x there))

pub first_fits : (s : Hlds) (q : ℕ × Procedure) (strict : Bool) (number : ℕ) (p : HldsGoal) (kn : InstMap) (rest : List ℕ) (a : After) (e : Env) (goals : List Numbered)
    → Placed s q strict number p kn rest a e → AreToCome q goals rest → FitsAt s e (numbered_goal number p) goals
first_fits s q strict number p kn rest a e goals placed come = record {
  procedure = q;
  at = placed.at;
  strict = strict;
  known = kn;
  before = placed.before;
  tidy = placed.tidy;
  after = a;
  accepted = placed.accepted;
  fits = fits_fewer s (variables p ++ rest) (variables p ++ (goals_variables goals ++ q.1.head)) kn e (after_same (variables p) (goals_variables goals ++ q.1.head) rest come) placed.fits;
  chosen = placed.chosen;
}

-- ---- calls

-- a body, with whatever comes after it
body_fit : (s : Hlds) (proper : Proper s) (m : ℕ) → Below s m → (strict : Bool) (l : ℕ) (q : ℕ × Procedure) (held : Values) (others : List (HldsType × Mode)) (ys : List ℕ) (kn r : InstMap) (e : Env)
    (act : ℕ) (pairs : List (ℕ × ℕ)) (js : List Frame) (k : ℕ) → IsCall s strict l q held others ys kn r e
    → ((n : ℕ) → n < m → (d : Env) (i : ℕ) → AreResults s others (without (listed_values held) q.1.head) d → AllFit s (job n (frame act d [] pairs) js i))
    → AllFit s (job m (frame act (entered q.1 (listed_values held) ys e) (numbered_goal (body_number s q.0) q.1.body ∷ []) pairs) js k)
body_fit s proper m below strict l q held others ys kn r e act pairs js k c on =
    let p = q.1 in
    let ok = ok_then (goal (scope_of s p) p.body (entry p)) (λ b. end p b) tt (proper.accepted q.0 p c.at) in
    below m (omega arith) q false (body_number s q.0) p.body (entry p) p.head ok.0 act (entered p (listed_values held) ys e) [] pairs js k
    (record {
      at = c.at;
      before = body;
      tidy = proper.tidy q.0 p c.at;
      accepted = ok.1;
      room = λ x. let e = times-append x p.head (variables p.body) in omega (arith, e);
      fits = call_fits s (variables p.body ++ p.head) p held others ys e c.captured c.args;
      chosen = tt;
    })
    (λ x there. there)
    (λ n lt d i reach fits. on n lt d i (others_return s held p.args others p.head d c.captured (end_results s p ok.0 d ok.2 reach fits)))

call_fit : (s : Hlds) (proper : Proper s) (m : ℕ) → Below s m → (strict : Bool) (l : ℕ) (q : ℕ × Procedure) (held : Values) (others : List (HldsType × Mode)) (ys rest : List ℕ) (kn r : InstMap)
    (f : Frame) (goals : List Numbered) (js : List Frame) (k : ℕ) (j : Job) → IsCall s strict l q held others ys kn r f.env → Fits s (ys ++ rest) kn f.env
    → GoOn s (suc m) f.act goals f.pairs js rest (after r true) → Calls s m f goals js k q (listed_values held) ys j → AllFit s j
call_fit s proper m below strict l q held others ys rest kn r f goals js k _ c fits on (begins_cut cut) =
    body_fit s proper m below strict l q held others ys kn r f.env k [] [] (suc k) c (λ n lt d i results. ended_fit s n k d [] i)
call_fit s proper m below strict l q held others ys rest kn r f goals js k _ c fits on (has_exited d i cut is) =
    on m (omega arith) (back (pairs_of (without (listed_values held) q.1.head) ys) d f.env) i refl
    (back_fits s proper strict l q held others ys rest kn r f.env d c fits
    (answered (λ d. AreResults s others (without (listed_values held) q.1.head) d) (trace s m (frame k (entered q.1 (listed_values held) ys f.env) (numbered_goal (body_number s q.0) q.1.body ∷ []) []) [] (suc k)) (suc k) d i
    (body_fine s proper m (all_below s proper m) (λ d. AreResults s others (without (listed_values held) q.1.head) d) strict l q held others ys kn r f.env k [] [] (suc k) c
    (λ n lt d i results. answers s (λ d. AreResults s others (without (listed_values held) q.1.head) d) n k d [] i results))
    is))
call_fit s proper m below strict l q held others ys rest kn r f goals js k _ c fits on (begins_whole cut) =
    let between = pairs_of (without (listed_values held) q.1.head) ys in
    body_fit s proper m below strict l q held others ys kn r f.env k between (doing f goals ∷ js) (suc k) c
    (λ n lt d i results. exits_fit s n k d between (doing f goals) js i
    (on n (omega (arith, lt)) (back between d f.env) i refl (back_fits s proper strict l q held others ys rest kn r f.env d c fits results)))

-- what is taken of the call of a name
pub named_call : (s : Hlds) (strict : Bool) (l : ℕ) (name : PredName) (o : Option Procedure) (q : ℕ × Procedure) (ys : List ℕ) (kn r : InstMap) (e : Env)
    → predicate_called s name ≡ o → procedure_called s name ≡ Some q → AreDistinct ys → call_checked strict l ys o kn ≡ Ok r → Fits s ys kn e → IsCall s strict l q no_values q.1.args ys kn r e
named_call s strict l name None q ys kn r e is there distinct ok fits = absurd (cc ok)
named_call s strict l name (Some p) q ys kn r e is there distinct ok fits =
    let n = predicate_number s name p is in
    let same : ◌≡◌ {A = ℕ × Procedure} (n.0, p) q = cc (n.1, there) in
    let a = ok_where (nat_eq (length ys) (length p.args)) (Arity l) (arguments strict l p.args ys kn) r ok in
    let size = eqb-true (length ys) (length p.args) a.0 in
    subst (λ (c : ℕ × Procedure). IsCall s strict l c no_values c.1.args ys kn r e) same
    (record { at = called_at s name (n.0, p) n.1; captured = refl; args = handed s strict l p.args ys kn r e fits distinct size a.1; size = size; accepted = a.1 })

-- what is taken of the call of a closure
pub closure_call : (s : Hlds) (strict : Bool) (l : ℕ) (o : Option Value) (c : ℕ) (held : Values) (q : ℕ × Procedure) (ys : List ℕ) (t : HldsType) (kn r : InstMap) (e : Env)
    → IsApplied s strict l ys o t kn r → o ≡ Some (Closure c held) → nth_procedure s c ≡ Some q → AreDistinct ys → Fits s ys kn e → (others : List (HldsType × Mode)) × IsCall s strict l q held others ys kn r e
closure_call s strict l o c held q ys t kn r e app is there distinct fits =
    let number : app.number ≡ c = cc (app.is, is) in
    let values : app.held ≡ held = cc (app.is, is) in
    let found : nth_procedure s app.number ≡ Some (app.number, app.procedure) = ap (numbered app.number) app.at in
    let same : ◌≡◌ {A = ℕ × Procedure} (app.number, app.procedure) q = cc (found, there, number) in (
      app.others,
      subst (λ (v : Values). IsCall s strict l q v app.others ys kn r e) values
          (subst (λ (p : ℕ × Procedure). IsCall s strict l p app.held app.others ys kn r e) same
          (record { at = app.at; captured = app.captured; args = handed s strict l app.others ys kn r e fits distinct app.size app.accepted; size = app.size; accepted = app.accepted })),
    )

-- ---- conjunctions

parts_fit : (s : Hlds) (m : ℕ) → Below s m → (q : ℕ × Procedure) (strict : Bool) (number : ℕ) (ps : HldsGoals) (n : ℕ) (kn : InstMap) (rest : List ℕ) (a : After)
    (act : ℕ) (e : Env) (goals : List Numbered) (pairs : List (ℕ × ℕ)) (js : List Frame) (k : ℕ) → n ≤ m → slice_get s.procedures q.0 ≡ Some q.1
    → (before : BeginsParts s q strict number ps kn) → IsFirstChosen s (parts_switch_on before) ps e → AreTidy ps → each (place s q.1 strict) ps kn ≡ Ok a → HasRoom (clause_variables q.1) (parts_variables ps) rest → Fits s (parts_variables ps ++ rest) kn e
    → AreToCome q goals rest → GoOn s (suc m) act goals pairs js rest a
    → AllFit s (job n (frame act e (numbered_from number ps ++ goals) pairs) js k)
parts_fit s m below q strict number nothing n kn rest a act e goals pairs js k le at before chosen tidy ok room fits come on =
    let is : after kn true ≡ a = ok_is (Ok (after kn true)) (after kn true) a refl ok in
    on n (omega (arith, le)) e k (sym (ap (λ (b : After). b.reach) is)) (subst (λ (b : After). Fits s rest b.known e) is fits)
parts_fit s m below q strict number (also p ps) n kn rest a act e goals pairs js k le at before chosen tidy ok room fits come on =
    let o = each_ok (place s q.1 strict) p ps kn a ok in
    below n le q strict number p kn (parts_variables ps ++ rest) o.first act e (numbered_from (number + goal_size p) ps ++ goals) pairs js k
    (record {
      at = at;
      before = part strict number p ps kn before;
      tidy = tidy.0;
      accepted = o.begins;
      room = λ x. let r = room x in let f = times-append x (variables p) (parts_variables ps) in let g = times-append x (parts_variables ps) rest in omega (arith, r, f, g);
      fits = fits_fewer s ((variables p ++ parts_variables ps) ++ rest) (variables p ++ (parts_variables ps ++ rest)) kn e
          (λ x there. let f = times-append x (variables p ++ parts_variables ps) rest in let g = times-append x (variables p) (parts_variables ps) in
          let h = times-append x (variables p) (parts_variables ps ++ rest) in let i = times-append x (parts_variables ps) rest in omega (arith, there, f, g, h, i)) fits;
      chosen = chosen;
    })
    (come_after q (number + goal_size p) ps goals rest come)
    (λ i lt d j reach inner. parts_fit s m below q strict (number + goal_size p) ps i o.first.known rest o.rest act d goals pairs js j (omega (arith, lt, le)) at
    (next_parts strict number p ps kn o.first before o.begins) (none_chosen s ps d) tidy.1 o.goes_on
    (λ x. let r = room x in let f = times-append x (variables p) (parts_variables ps) in omega (arith, r, f)) inner come
    (λ i lt d j there last. on i lt d j
    (sym (ap (λ (b : After). b.reach) o.is) ∙ both_reach o.first.reach o.rest.reach reach there)
    (subst (λ (b : After). Fits s rest b.known d) o.is last)))

-- ---- branches

tried : (s : Hlds) (m : ℕ) (f : Frame) (goals : List Numbered) (js : List Frame) (P : Numbered → ℕ → Type 0) (qs : List Numbered) (k : ℕ) (p : Numbered) (i : ℕ) → ArmsFine P qs → Tries s m f goals js qs k p i → P p i
tried s m f goals js P _ _ _ _ h (at_once p ps k) = h.0 k
tried s m f goals js P _ _ _ _ h (later p ps k n q i is rest) = tried s m f goals js P ps n q i h.1 rest

one_chosen : (P : Numbered → ℕ → Type 0) (p q : Numbered) (o : Option Numbered) (b : Bool) (i : ℕ) → ((k : ℕ) → P p k) → (o ≡ Some q → P q i) → cond b (Some p) o ≡ Some q → P q i
one_chosen P p q o true i h g is = let same : p ≡ q = cc is in subst (λ (r : Numbered). P r i) same (h i)
one_chosen P p q o false i h g is = g is

chosen : (P : Numbered → ℕ → Type 0) (v : Value) (keys : List Key) (qs : List Numbered) (p : Numbered) (i : ℕ) → ArmsFine P qs → arm_for v keys qs ≡ Some p → P p i
chosen P v [] qs p i h is = absurd (cc is)
chosen P v (key ∷ keys) [] p i h is = absurd (cc is)
chosen P v (key ∷ keys) (q ∷ qs) p i h is = one_chosen P q p (arm_for v keys qs) (has_the_key v key) i h.0 (λ is. chosen P v keys qs p i h.1 is) is

-- what follows a branch follows each of its arms
arm_on : (s : Hlds) (m act : ℕ) (goals : List Numbered) (pairs : List (ℕ × ℕ)) (js : List Frame) (all inner rest : List ℕ) (a b : After)
    → HasRoom all inner rest → (b.reach ≡ true → Joins (outside all inner) a b.known) → GoOn s (suc m) act goals pairs js rest a → GoOn s m act goals pairs js rest b
arm_on s m act goals pairs js all inner rest a b room joins on n lt e k reach fits =
    let j = joins reach in
    on n (omega (arith, lt)) e k j.reach (fits_joined s (outside all inner) rest a b.known e j (room_outside all inner rest room) fits)

-- an arm, where it is the one for the value of the variable that the disjunction switches on, if it is a switch
abbrev ArmFit : Hlds → ℕ → Frame → List Numbered → List Frame → Option ℕ → Numbered → ℕ → Type 0
ArmFit s m f goals js at p i = IsChosen s at p.goal f.env → AllFit s (job m (doing f (p ∷ goals)) js i)

arms_fit : (s : Hlds) (m : ℕ) → Below s m → (q : ℕ × Procedure) (strict : Bool) (number : ℕ) (ps : HldsGoals) (kn : InstMap) (inner rest : List ℕ) (a : After) (ends : List After)
    (f : Frame) (goals : List Numbered) (js : List Frame) → slice_get s.procedures q.0 ≡ Some q.1
    → (before : BeginsArms s q strict number ps kn) → AreTidy ps → arms (place s q.1 strict) ps kn ≡ Ok ends → HasRoom (clause_variables q.1) inner rest → ((x : ℕ) → times x (parts_variables ps) ≤ times x inner)
    → Fits s (inner ++ rest) kn f.env → AreToCome q goals rest → EndsJoin (outside (clause_variables q.1) inner) a ends → GoOn s (suc m) f.act goals f.pairs js rest a
    → ArmsFine (ArmFit s m f goals js (arms_switch_on before)) (numbered_from number ps)
arms_fit s m below q strict number nothing kn inner rest a ends f goals js at before tidy ok room among fits come joins on = tt
arms_fit s m below q strict number (also p ps) kn inner rest a ends f goals js at before tidy ok room among fits come joins on =
    let o = arms_ok (place s q.1 strict) p ps kn ends ok in
    let ends_join : EndsJoin (outside (clause_variables q.1) inner) a (o.first ∷ o.ends) = subst (λ (es : List After). EndsJoin (outside (clause_variables q.1) inner) a es) (sym o.is) joins in (
      (λ k chosen. below m (omega arith) q strict number p kn rest o.first f.act f.env goals f.pairs js k
          (record {
            at = at;
            before = arm strict number p ps kn before;
            tidy = tidy.0;
            accepted = o.begins;
            room = λ x. let r = room x in let i = among x in let t = times-append x (variables p) (parts_variables ps) in omega (arith, r, i, t);
            fits = fits_fewer s (inner ++ rest) (variables p ++ rest) kn f.env
                (λ x there. let i = among x in let t = times-append x (variables p) (parts_variables ps) in let g = times-append x (variables p) rest in let h = times-append x inner rest in omega (arith, there, i, t, g, h)) fits;
            chosen = chosen;
          })
          come (arm_on s m f.act goals f.pairs js (clause_variables q.1) inner rest a o.first room ends_join.0 on)),
      arms_fit s m below q strict (number + goal_size p) ps kn inner rest a o.ends f goals js at (next_arms strict number p ps kn before) tidy.1 o.others room
          (λ x. let i = among x in let t = times-append x (variables p) (parts_variables ps) in omega (arith, i, t)) fits come ends_join.1 on,
    )

disjunction_fit : (s : Hlds) (m : ℕ) → Below s m → (q : ℕ × Procedure) (strict : Bool) (number l : ℕ) (ps : HldsGoals) (kn : InstMap) (rest : List ℕ) (a : After) (f : Frame) (goals : List Numbered) (js : List Frame)
    → Placed s q strict number (At l (DisjGoal ps)) kn rest a f.env → AreToCome q goals rest → GoOn s (suc m) f.act goals f.pairs js rest a
    → ArmsFine (ArmFit s m f goals js (variable_of (switch_of s ps kn))) (numbered_from (suc number) ps)
disjunction_fit s m below q strict number l ps kn rest a f goals js placed come on =
    let b = ok_then (arms (place s q.1 strict) ps kn) (λ ends. branch.joined l (outside (clause_variables q.1) (parts_variables ps)) kn ends) a placed.accepted in
    arms_fit s m below q strict (suc number) ps kn (parts_variables ps) rest a b.0 f goals js placed.at (known.arms strict number l ps kn placed.before) placed.tidy b.1 placed.room (λ x. omega arith) placed.fits come
    (joined_join l (outside (clause_variables q.1) (parts_variables ps)) kn b.0 a (arms_later (place s q.1 strict) ps kn b.0 b.1) b.2) on

-- ---- conditions

-- a condition by itself
condition_fit : (s : Hlds) (m : ℕ) → Below s m → (q : ℕ × Procedure) (number : ℕ) (c : HldsGoal) (kn : InstMap) (rest : List ℕ) (a : After) (f : Frame) (k : ℕ)
    → Placed s q true number c kn rest a f.env → In' q.1.head rest → AllFit s (job m (frame f.act f.env (numbered_goal number c ∷ []) []) [] k)
condition_fit s m below q number c kn rest a f k placed head =
    below m (omega arith) q true number c kn rest a f.act f.env [] [] [] k placed head (λ n lt d i reach fits. ended_fit s n f.act d [] i)

-- its first answer fits what is known after it
condition_answers : (s : Hlds) → Proper s → (m : ℕ) (q : ℕ × Procedure) (number : ℕ) (c : HldsGoal) (kn : InstMap) (rest : List ℕ) (a : After) (f : Frame) (k : ℕ) (d : Env) (i : ℕ)
    → Placed s q true number c kn rest a f.env → first_answer (trace s m (frame f.act f.env (numbered_goal number c ∷ []) []) [] k) k ≡ Some (d, i) → Fits s rest a.known d
condition_answers s proper m q number c kn rest a f k d i placed is =
    answered (λ d. Fits s rest a.known d) (trace s m (frame f.act f.env (numbered_goal number c ∷ []) []) [] k) k d i
    (condition_fine s m (all_below s proper m) (clause_variables q.1) c kn rest a number f.act f.env k placed.tidy placed.accepted placed.room placed.fits) is

-- what is taken of the parts of an if-then-else
pub record PlacedIf (s : Hlds) (q : ℕ × Procedure) (strict : Bool) (number l : ℕ) (c t e : HldsGoal) (kn : InstMap) (rest : List ℕ) (a : After) (d : Env) : Type 0 where
  pub condition : After
  pub then : After
  pub else : After
  pub asked : Placed s q true (suc number) c kn (variables t ++ rest) condition d
  pub wins : (b : Env) → Fits s (variables t ++ rest) condition.known b → Placed s q strict (suc number + goal_size c) t condition.known rest then b
  pub loses : Placed s q strict (suc number + goal_size c + goal_size t) e kn rest else d
  pub joins : EndsJoin (outside (clause_variables q.1) (variables c ++ (variables t ++ variables e))) a (then ∷ else ∷ [])

pub placed_if : (s : Hlds) (q : ℕ × Procedure) (strict : Bool) (number l : ℕ) (c t e : HldsGoal) (kn : InstMap) (rest : List ℕ) (a : After) (d : Env)
    → Placed s q strict number (At l (IfGoal c t e)) kn rest a d → PlacedIf s q strict number l c t e kn rest a d
placed_if s q strict number l c t e kn rest a d placed =
    let o = if_ok (place s q.1 strict) l c t e kn a placed.accepted in
    let inner = variables c ++ (variables t ++ variables e) in
    let later = later_then kn o.condition.known o.then.known (goal_later (place s q.1 true) c kn o.condition o.begins) (goal_later (place s q.1 strict) t o.condition.known o.then o.wins) in
    record {
      condition = o.condition;
      then = o.then;
      else = o.else;
      asked = record {
        at = placed.at;
        before = condition strict number l c t e kn placed.before;
        tidy = placed.tidy.0;
        accepted = o.begins;
        room = λ x. let r = placed.room x in let i = times-append x (variables c) (variables t ++ variables e) in let j = times-append x (variables t) (variables e) in let h = times-append x (variables t) rest in omega (arith, r, i, j, h);
        fits = fits_fewer s (inner ++ rest) (variables c ++ (variables t ++ rest)) kn d
            (λ x there. let i = times-append x (variables c) (variables t ++ variables e) in let j = times-append x (variables t) (variables e) in let g = times-append x inner rest in
            let h = times-append x (variables t) rest in let q = times-append x (variables c) (variables t ++ rest) in omega (arith, there, i, j, g, h, q)) placed.fits;
        chosen = tt;
      };
      wins = λ b inside. record {
        at = placed.at;
        before = then strict number l c t e kn o.condition placed.before o.begins;
        tidy = placed.tidy.1.0;
        accepted = o.wins;
        room = λ x. let r = placed.room x in let i = times-append x (variables c) (variables t ++ variables e) in let j = times-append x (variables t) (variables e) in omega (arith, r, i, j);
        fits = inside;
        chosen = tt;
      };
      loses = record {
        at = placed.at;
        before = else strict number l c t e kn placed.before;
        tidy = placed.tidy.1.1;
        accepted = o.loses;
        room = λ x. let r = placed.room x in let i = times-append x (variables c) (variables t ++ variables e) in let j = times-append x (variables t) (variables e) in omega (arith, r, i, j);
        fits = fits_fewer s (inner ++ rest) (variables e ++ rest) kn d
            (λ x there. let i = times-append x (variables c) (variables t ++ variables e) in let j = times-append x (variables t) (variables e) in let g = times-append x inner rest in
            let h = times-append x (variables e) rest in omega (arith, there, i, j, g, h)) placed.fits;
        chosen = tt;
      };
      joins = joined_join l (outside (clause_variables q.1) inner) kn (o.then ∷ o.else ∷ []) a (later, (goal_later (place s q.1 strict) e kn o.else o.loses, tt)) o.joins;
    }

-- what is taken of a negated or a quantified goal: after it is known what was known before it
pub record PlacedOnly (s : Hlds) (q : ℕ × Procedure) (number : ℕ) (c : HldsGoal) (kn : InstMap) (rest : List ℕ) (a : After) (d : Env) : Type 0 where
  pub inner : After
  pub asked : Placed s q true (suc number) c kn rest inner d
  pub reach : a.reach ≡ true
  pub fits : Fits s rest a.known d

pub placed_not : (s : Hlds) (q : ℕ × Procedure) (strict : Bool) (number l : ℕ) (c : HldsGoal) (kn : InstMap) (rest : List ℕ) (a : After) (d : Env)
    → Placed s q strict number (At l (NotGoal c)) kn rest a d → PlacedOnly s q number c kn rest a d
placed_not s q strict number l c kn rest a d placed =
    let o = not_ok (place s q.1 strict) l c kn a placed.accepted in
    let there = only_goes s rest kn a d o.is (fits_right s (variables c) rest kn d placed.fits) in
    record {
      inner = o.inner;
      asked = record { at = placed.at; before = negated strict number l c kn placed.before; tidy = placed.tidy; accepted = o.begins; room = placed.room; fits = placed.fits; chosen = tt };
      reach = there.0;
      fits = there.1;
    }

pub placed_some : (s : Hlds) (q : ℕ × Procedure) (strict : Bool) (number l : ℕ) (vs : List ℕ) (c : HldsGoal) (kn : InstMap) (rest : List ℕ) (a : After) (d : Env)
    → Placed s q strict number (At l (SomeGoal vs c)) kn rest a d → PlacedOnly s q number c kn rest a d
placed_some s q strict number l vs c kn rest a d placed =
    let o = some_ok (place s q.1 strict) l vs c kn a placed.accepted in
    let there = only_goes s rest kn a d o.is (fits_right s (vs ++ variables c) rest kn d placed.fits) in
    record {
      inner = o.inner;
      asked = record {
        at = placed.at;
        before = quantified strict number l vs c kn placed.before;
        tidy = placed.tidy;
        accepted = o.begins;
        room = λ x. let r = placed.room x in let i = times-append x vs (variables c) in omega (arith, r, i);
        fits = fits_fewer s ((vs ++ variables c) ++ rest) (variables c ++ rest) kn d
            (λ x there. let i = times-append x vs (variables c) in let g = times-append x (vs ++ variables c) rest in let h = times-append x (variables c) rest in omega (arith, there, i, g, h)) placed.fits;
        chosen = tt;
      };
      reach = there.0;
      fits = there.1;
    }

-- ---- any goal

pub simple_fits : (s : Hlds) (q : ℕ × Procedure) (strict : Bool) (number l : ℕ) (g : Simple) (kn : InstMap) (rest : List ℕ) (a : After) (e d : Env) (extra words : ℕ) (out : Option (List ℕ))
    → Placed s q strict number (At l (SimpleGoal g)) kn rest a e → run.simple s e g ≡ Go d extra words out → (a.reach ≡ true) × Fits s rest a.known d
simple_fits s q strict number l g kn rest a e d extra words out placed is =
    let o = ok_reached (goes_on g) (rules.simple s strict l g kn) a placed.accepted in
    let leads = subst (λ (w : Outcome). LeadsTo s (simple_variables g ++ rest) (goes_on g) a.known w) is
    (simple_leads s (simple_variables g ++ rest) strict l g kn a.known e placed.tidy placed.fits (in_left (simple_variables g) rest) o.0) in
    (o.1 ∙ leads.1, fits_right s (simple_variables g) rest a.known d leads.0)

unfolds_fit : (s : Hlds) (proper : Proper s) (m : ℕ) → Below s m → (q : ℕ × Procedure) (strict : Bool) (number l : ℕ) (t : GoalExpr) (kn : InstMap) (rest : List ℕ) (a : After)
    (f : Frame) (goals : List Numbered) (js : List Frame) (k : ℕ) (j : Job)
    → Placed s q strict number (At l t) kn rest a f.env → AreToCome q goals rest → GoOn s (suc m) f.act goals f.pairs js rest a → Unfolds s m f number goals js k t j → AllFit s j
unfolds_fit s proper m below q strict number l _ kn rest a f goals js k _ placed come on (goes g d extra words out is) =
    let o = simple_fits s q strict number l g kn rest a f.env d extra words out placed is in on m (omega arith) d k o.0 o.1
unfolds_fit s proper m below q strict number l _ kn rest a f goals js k _ placed come on (parts ps) =
    parts_fit s m below q strict (suc number) ps m kn rest a f.act f.env goals f.pairs js k (omega arith) placed.at (known.parts strict number l ps kn placed.before) (first_chosen s (switches_on placed.before) l ps f.env placed.chosen) placed.tidy placed.accepted placed.room placed.fits come on
unfolds_fit s proper m below q strict number l _ kn rest a f goals js k _ placed come on (tries ps p i no_value is) =
    tried s m f goals js (ArmFit s m f goals js (variable_of (switch_of s ps kn))) (numbered_from (suc number) ps) k p i (disjunction_fit s m below q strict number l ps kn rest a f goals js placed come on) is
    (no_switch_chosen s ps kn (expr_variables (DisjGoal ps) ++ rest) f.env p.goal placed.fits (in_left (parts_variables ps) rest) no_value)
unfolds_fit s proper m below q strict number l _ kn rest a f goals js k _ placed come on (switches ps w v p shape value is) =
    chosen (ArmFit s m f goals js (variable_of (switch_of s ps kn))) v w.1 (numbered_from (suc number) ps) p k (disjunction_fit s m below q strict number l ps kn rest a f goals js placed come on) is
    (arm_is_chosen s ps kn (suc number) w v p f.env shape value is)
unfolds_fit s proper m below q strict number l _ kn rest a f goals js k _ placed come on (asks c t e) =
    let o = placed_if s q strict number l c t e kn rest a f.env placed in
    condition_fit s m below q (suc number) c kn (variables t ++ rest) o.condition f k o.asked (come_inside q goals (variables t) rest come)
unfolds_fit s proper m below q strict number l _ kn rest a f goals js k _ placed come on (holds c t e d i is) =
    let o = placed_if s q strict number l c t e kn rest a f.env placed in
    below m (omega arith) q strict (suc number + goal_size c) t o.condition.known rest o.then f.act d goals f.pairs js i
    (o.wins d (condition_answers s proper m q (suc number) c kn (variables t ++ rest) o.condition f k d i o.asked is))
    come (arm_on s m f.act goals f.pairs js (clause_variables q.1) (variables c ++ (variables t ++ variables e)) rest a o.then placed.room o.joins.0 on)
unfolds_fit s proper m below q strict number l _ kn rest a f goals js k _ placed come on (fails c t e i is) =
    let o = placed_if s q strict number l c t e kn rest a f.env placed in
    below m (omega arith) q strict (suc number + goal_size c + goal_size t) e kn rest o.else f.act f.env goals f.pairs js i o.loses
    come (arm_on s m f.act goals f.pairs js (clause_variables q.1) (variables c ++ (variables t ++ variables e)) rest a o.else placed.room o.joins.1.0 on)
unfolds_fit s proper m below q strict number l _ kn rest a f goals js k _ placed come on (denies c) =
    let o = placed_not s q strict number l c kn rest a f.env placed in
    condition_fit s m below q (suc number) c kn rest o.inner f k o.asked (come_inside q goals [] rest come)
unfolds_fit s proper m below q strict number l _ kn rest a f goals js k _ placed come on (is_denied c i is) =
    let o = placed_not s q strict number l c kn rest a f.env placed in on m (omega arith) f.env i o.reach o.fits
unfolds_fit s proper m below q strict number l _ kn rest a f goals js k _ placed come on (seeks vs c) =
    let o = placed_some s q strict number l vs c kn rest a f.env placed in
    condition_fit s m below q (suc number) c kn rest o.inner f k o.asked (come_inside q goals [] rest come)
unfolds_fit s proper m below q strict number l _ kn rest a f goals js k _ placed come on (has_found vs c d i is) =
    let o = placed_some s q strict number l vs c kn rest a f.env placed in on m (omega arith) f.env i o.reach o.fits
unfolds_fit s proper m below q strict number l _ kn rest a f goals js k _ placed come on (calls site name ys r j there size is) =
    let o = ok_reached true (atomic s strict l (CallGoal site name ys) kn) a placed.accepted in
    call_fit s proper m below strict l r no_values r.1.args ys rest kn a.known f goals js k j
    (named_call s strict l name (predicate_called s name) r ys kn a.known f.env refl there placed.tidy o.0 (fits_left s ys rest kn f.env placed.fits))
    placed.fits (λ n lt d i reach fits. on n lt d i o.1 fits) is
unfolds_fit s proper m below q strict number l _ kn rest a f goals js k _ placed come on (applies site x ys c held r j value there size is) =
    let o = ok_reached true (atomic s strict l (HoCallGoal site x ys) kn) a placed.accepted in
    let fewer = fits_fewer s ((x ∷ ys) ++ rest) (ys ++ rest) kn f.env (λ y there. more_times y x (ys ++ rest) there) placed.fits in
    let called = closure_call s strict l (value_at f.env x) c held r ys (type_of (known_at kn x)) kn a.known f.env
    (known_applied s strict l ys (value_at f.env x) (known_at kn x) kn a.known (placed.fits.each x (first_times x (ys ++ rest))) o.0)
    value there placed.tidy (fits_left s ys rest kn f.env fewer) in
    call_fit s proper m below strict l r held called.0 ys rest kn a.known f goals js k j called.1 fewer (λ n lt d i reach fits. on n lt d i o.1 fits) is

deeper : (s : Hlds) (proper : Proper s) (m : ℕ) → Below s m → Claim s (suc m)
deeper s proper m below q strict number (At l t) kn rest a act e goals pairs js k placed come on =
    all_fit s (job (suc m) (frame act e (numbered_goal number (At l t) ∷ goals) pairs) js k) (first_fits s q strict number (At l t) kn rest a e goals placed come)
    (λ j step. unfolds_fit s proper m below q strict number l t kn rest a (frame act e (numbered_goal number (At l t) ∷ goals) pairs) goals js k j placed come on step)

flat : (s : Hlds) → Claim s zero
flat s q strict number p kn rest a act e goals pairs js k placed come on =
    all_fit s (job zero (frame act e (numbered_goal number p ∷ goals) pairs) js k) (first_fits s q strict number p kn rest a e goals placed come) (λ j step. elim step [ ])

below_none : (s : Hlds) → Below s zero
below_none s n le = let same : n ≡ zero = omega (arith, le) in subst (λ (i : ℕ). Claim s i) (sym same) (flat s)

below_more : (s : Hlds) (m : ℕ) → Below s m → Claim s (suc m) → Below s (suc m)
below_more s m below next n le = elim (cases_lt n (suc m)) [
  | inl lt ↦ below n (omega (arith, lt))
  | inr ge ↦ let same : n ≡ suc m = omega (arith, le, ge) in subst (λ (i : ℕ). Claim s i) (sym same) next
]

every_below : (s : Hlds) → Proper s → (m : ℕ) → Below s m
every_below s proper zero = below_none s
every_below s proper (suc m) = let below = every_below s proper m in below_more s m below (deeper s proper m below)

-- ---- main

main_fit : (s : Hlds) → Proper s → (depth : ℕ) (m : ℕ × Procedure) → slice_get s.procedures m.0 ≡ Some m.1 → is_main m.1 ≡ true → AllFit s (main_job s depth m)
main_fit s proper depth m at is =
    let p = m.1 in
    let ok = ok_then (goal (scope_of s p) p.body (entry p)) (λ b. end p b) tt (proper.accepted m.0 p at) in
    every_below s proper depth depth (omega arith) m false (body_number s m.0) p.body (entry p) p.head ok.0 0 (main_env (blank (length p.vars)) p.head) [] [] [] 1
    (record {
      at = at;
      before = body;
      tidy = proper.tidy m.0 p at;
      accepted = ok.1;
      room = λ x. let e = times-append x p.head (variables p.body) in omega (arith, e);
      fits = main_fits s _ p is (proper.heads m.0 p at);
      chosen = tt;
    })
    (λ x there. there)
    (λ n lt e k reach fits. ended_fit s n 0 e [] k)

-- each turn of main's trace has an environment that fits
pub turns_fit : (text : List ℕ) (s : Hlds) → Spells text s → mode_fault s ≡ None → (depth : ℕ) (m : ℕ × Procedure) → procedure_called s main_name ≡ Some m → AllFit s (main_job s depth m)
turns_fit text s spells h depth m called =
    main_fit s (proper text s spells h) depth m (called_at s main_name m called) (one_main s m spells.once (accepted s h).main called)

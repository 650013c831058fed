-- A turn at a state where the modes hold: a rule applies, and they hold after it. What is known after a goal is taken from the
-- lemmas about one goal, and what comes after it is there for each environment that fits that.
use Rattle.std.proofs.Common.{◌≡◌, refl, sym, ap, ◌∙◌, subst, arith, ℕ, suc, ◌+◌, ◌≤◌, Bool, true, false, cond, List, [], ◌∷◌, ◌++◌, length, Option, Some, None, Ok, slice_get}
use Rattle.std.proofs.lemmas.Bool.{eq-eqb}
use Rattle.std.specs.Prelude.{⊤}
use Rattle.md_hlds.specs.declared.types.Mode.{Mode}
use Rattle.md_hlds.specs.declared.types.Mode.TheVariants.{In, Out, Di, Uo}
use Rattle.md_hlds.specs.declared.types.Det.{Det}
use Rattle.md_hlds.specs.declared.types.Det.TheVariants as det
use Rattle.md_hlds.specs.declared.goal.PredName.{PredName}
use Rattle.md_hlds.specs.HldsGoal.{HldsGoal, At, GoalExpr, SimpleGoal, CallGoal, HoCallGoal, ConjGoal, DisjGoal, IfGoal, NotGoal, SomeGoal, HldsGoals, nothing, also, goal_size, Numbered, numbered_goal, numbered_from}
use Rattle.md_hlds.specs.Hlds.{HldsType, Procedure, Hlds, procedure_called, nth_procedure, numbered, body_number}
use Rattle.md_hlds.specs.Value.{Value, Values, no_values, listed_values, Env, value_at}
use Rattle.md_hlds.specs.Simple as run
use Rattle.md_hlds.specs.Simple.{Outcome, Go, No, Stop}
use Rattle.md_hlds.specs.Simple.{Throws as Raised}
use Rattle.md_hlds.specs.Switch.{Key, switch_shape, arm_for, has_the_key}
use Rattle.md_hlds.specs.Trace.{Frame, back, pairs_of, without, doing, entered, body_frame}
use Rattle.law_steps.specs.State.{Wait, Goes, state}
use Rattle.law_steps.specs.Steps.{goes_simply, takes_arm, switches, chooses, enters, calls, applies, unfolds_expr, unfolds}
use Rattle.md_inst.specs.Instantiation.{InstMap, known_at, times}
use Rattle.md_inst.specs.Named.{predicate_called}
use Rattle.md_inst.specs.Simple as rules
use Rattle.md_inst.specs.Simple.{goes_on, call_checked, atomic}
use Rattle.md_modes.specs.Branches as branch
use Rattle.md_modes.specs.Branches.{After, after, outside}
use Rattle.md_modes.specs.Goals.{variables, expr_variables, parts_variables, simple_variables, clause_variables, goal, each, arms}
use Rattle.md_modes.specs.Modes.{entry, end, scope_of}
use Rattle.md_modes.proofs.Counts.{times-append}
use Rattle.md_det.specs.Switches.{switch_of, variable_of}
use Rattle.law_safety.specs.Values.{Fits}
use Rattle.law_safety.specs.Arguments.{IsArgument, AreArguments, taken, IsResult, AreResults}
use Rattle.law_safety.specs.Turns.{LeadsTo, AreDistinct, AreTidy}
use Rattle.law_safety.specs.Roles.{HasValue}
use Rattle.law_safety.specs.Known.{place, Begins, BeginsParts, BeginsArms, body, part, arm, next_parts, next_arms, switches_on, parts_switch_on, arms_switch_on, IsChosen, FitsAt}
use Rattle.law_safety.specs.Known as known
use Rattle.law_safety.specs.Unfolding.{switch_value}
use Rattle.law_safety.proofs.Environments.{fits_fewer}
use Rattle.law_safety.proofs.Verdicts.{ok_then, ok_is, ok_reached}
use Rattle.law_safety.proofs.Handing.{more_times, first_times, handed}
use Rattle.law_safety.proofs.Functors.{predicate_number}
use Rattle.law_safety.proofs.SimpleGoals.{simple_leads}
use Rattle.law_safety.proofs.Accepted.{each_ok, arms_ok}
use Rattle.law_safety.proofs.Growing.{arms_later}
use Rattle.law_safety.proofs.JoinLemmas.{Joins, EndsJoin, joined_join, fits_joined}
use Rattle.law_safety.proofs.Calls.{call_fits, others_return, without_size, IsApplied, type_of, known_applied}
use Rattle.law_safety.proofs.Safe.{Proper, HasRoom, IsCall, in_left, fits_left, fits_right, room_outside, end_results, back_fits, both_reach}
use Rattle.law_safety.proofs.SwitchLemmas.{IsFirstChosen, first_chosen, none_chosen}
use Rattle.law_safety.proofs.ChosenArms.{no_switch_chosen, arm_is_chosen}
use Rattle.law_safety.proofs.TurnsFit.{Placed, AreToCome, come_after, come_inside, first_fits, named_call, placed_if, placed_not, placed_some}
use Rattle.law_fits.specs.States.{FitsHere, FitsGoals, GivesBack, FitsJob, FitsAnswer, FitsFrame, FitArms, FitWaits, FitsState, FitsUnfolded}

-- ---- places

placed_of : (s : Hlds) (e : Env) (g : Numbered) (goals : List Numbered) (h : FitsHere s e g goals) → Placed s h.procedure h.strict g.number g.goal h.known h.rest h.after e
placed_of s e g goals h = record { at = h.at; before = h.before; tidy = h.tidy; accepted = h.accepted; room = h.room; fits = h.fits; chosen = h.chosen }

abbrev here_of : (s : Hlds) (q : ℕ × Procedure) (strict : Bool) (number : ℕ) (p : HldsGoal) (kn : InstMap) (rest : List ℕ) (a : After) (e : Env) (goals : List Numbered)
    → Placed s q strict number p kn rest a e → AreToCome q goals rest → FitsHere s e (numbered_goal number p) goals
here_of s q strict number p kn rest a e goals h come = record {
  procedure = q;
  at = h.at;
  strict = strict;
  known = kn;
  before = h.before;
  tidy = h.tidy;
  after = a;
  accepted = h.accepted;
  rest = rest;
  room = h.room;
  come = come;
  fits = h.fits;
  chosen = h.chosen;
}

-- what comes after a goal is there for each environment that fits what is known after it
abbrev GoesOn : Hlds → List Numbered → List (ℕ × ℕ) → List Frame → (Env → Type 0) → List ℕ → After → Type 0
GoesOn s goals pairs js ends rest a = (d : Env) → a.reach ≡ true → Fits s rest a.known d → FitsJob s d goals pairs js ends

job_begins : (s : Hlds) (q : ℕ × Procedure) (strict : Bool) (number : ℕ) (p : HldsGoal) (kn : InstMap) (rest : List ℕ) (a : After) (e : Env) (goals : List Numbered) (pairs : List (ℕ × ℕ)) (js : List Frame) (ends : Env → Type 0)
    → Placed s q strict number p kn rest a e → AreToCome q goals rest → GoesOn s goals pairs js ends rest a → FitsJob s e (numbered_goal number p ∷ goals) pairs js ends
job_begins s q strict number p kn rest a e goals pairs [] ends h come on = (here_of s q strict number p kn rest a e goals h come, on)
job_begins s q strict number p kn rest a e goals pairs (c ∷ js) ends h come on = (here_of s q strict number p kn rest a e goals h come, on)

job_first : (s : Hlds) (e : Env) (g : Numbered) (goals : List Numbered) (pairs : List (ℕ × ℕ)) (js : List Frame) (ends : Env → Type 0)
    → FitsJob s e (g ∷ goals) pairs js ends → (h : FitsHere s e g goals) × GoesOn s goals pairs js ends h.rest h.after
job_first s e g goals pairs [] ends h = (h.0, h.1)
job_first s e g goals pairs (c ∷ js) ends h = (h.0, h.1)

-- ---- conjunctions

parts_job : (s : Hlds) (q : ℕ × Procedure) (strict : Bool) (number : ℕ) (ps : HldsGoals) (kn : InstMap) (rest : List ℕ) (a : After) (e : Env) (goals : List Numbered) (pairs : List (ℕ × ℕ)) (js : List Frame) (ends : Env → Type 0)
    → slice_get s.procedures q.0 ≡ Some q.1 → (before : BeginsParts s q strict number ps kn) → IsFirstChosen s (parts_switch_on before) ps e → AreTidy ps → each (place s q.1 strict) ps kn ≡ Ok a
    → HasRoom (clause_variables q.1) (parts_variables ps) rest → Fits s (parts_variables ps ++ rest) kn e → AreToCome q goals rest → GoesOn s goals pairs js ends rest a
    → FitsJob s e (numbered_from number ps ++ goals) pairs js ends
parts_job s q strict number nothing kn rest a e goals pairs js ends at before chosen tidy ok room fits come on =
    let is : after kn true ≡ a = ok_is (Ok (after kn true)) (after kn true) a refl ok in
    on e (sym (ap (λ (b : After). b.reach) is)) (subst (λ (b : After). Fits s rest b.known e) is fits)
parts_job s q strict number (also p ps) kn rest a e goals pairs js ends at before chosen tidy ok room fits come on =
    let o = each_ok (place s q.1 strict) p ps kn a ok in
    job_begins s q strict number p kn (parts_variables ps ++ rest) o.first e (numbered_from (number + goal_size p) ps ++ goals) pairs js ends
    (record {
      at = at;
      before = part strict number p ps kn before;
      tidy = tidy.0;
      accepted = o.begins;
      room = λ x. let r = room x in let f = times-append x (variables p) (parts_variables ps) in let g = times-append x (parts_variables ps) rest in omega (arith, r, f, g);
      fits = fits_fewer s ((variables p ++ parts_variables ps) ++ rest) (variables p ++ (parts_variables ps ++ rest)) kn e
          (λ x there. let f = times-append x (variables p ++ parts_variables ps) rest in let g = times-append x (variables p) (parts_variables ps) in
          let h = times-append x (variables p) (parts_variables ps ++ rest) in let i = times-append x (parts_variables ps) rest in omega (arith, there, f, g, h, i)) fits;
      chosen = chosen;
    })
    (come_after q (number + goal_size p) ps goals rest come)
    (λ d reach inner. parts_job s q strict (number + goal_size p) ps o.first.known rest o.rest d goals pairs js ends at
    (next_parts strict number p ps kn o.first before o.begins) (none_chosen s ps d) tidy.1 o.goes_on
    (λ x. let r = room x in let f = times-append x (variables p) (parts_variables ps) in omega (arith, r, f)) inner come
    (λ c there last. on c
    (sym (ap (λ (b : After). b.reach) o.is) ∙ both_reach o.first.reach o.rest.reach reach there)
    (subst (λ (b : After). Fits s rest b.known c) o.is last)))

-- ---- branches

-- each of these goals has the property
abbrev EachArm : (Numbered → Type 0) → List Numbered → Type 0
EachArm P [] = ⊤
EachArm P (p ∷ ps) = P p × EachArm P ps

-- what follows a branch follows each of its arms
arm_on : (s : Hlds) (goals : List Numbered) (pairs : List (ℕ × ℕ)) (js : List Frame) (ends : Env → Type 0) (all inner rest : List ℕ) (a b : After)
    → HasRoom all inner rest → (b.reach ≡ true → Joins (outside all inner) a b.known) → GoesOn s goals pairs js ends rest a → GoesOn s goals pairs js ends rest b
arm_on s goals pairs js ends all inner rest a b room joins on d reach fits =
    let j = joins reach in
    on d j.reach (fits_joined s (outside all inner) rest a b.known d j (room_outside all inner rest room) fits)

-- an arm, where it is the one for the value of the variable that the disjunction switches on, if it is a switch
abbrev ArmJob : Hlds → Env → List Numbered → List (ℕ × ℕ) → List Frame → (Env → Type 0) → Option ℕ → Numbered → Type 0
ArmJob s e goals pairs js ends at p = IsChosen s at p.goal e → FitsJob s e (p ∷ goals) pairs js ends

arms_job : (s : Hlds) (q : ℕ × Procedure) (strict : Bool) (number : ℕ) (ps : HldsGoals) (kn : InstMap) (inner rest : List ℕ) (a : After) (afters : List After)
    (e : Env) (goals : List Numbered) (pairs : List (ℕ × ℕ)) (js : List Frame) (ends : Env → Type 0) → slice_get s.procedures q.0 ≡ Some q.1
    → (before : BeginsArms s q strict number ps kn) → AreTidy ps → arms (place s q.1 strict) ps kn ≡ Ok afters → HasRoom (clause_variables q.1) inner rest → ((x : ℕ) → times x (parts_variables ps) ≤ times x inner)
    → Fits s (inner ++ rest) kn e → AreToCome q goals rest → EndsJoin (outside (clause_variables q.1) inner) a afters → GoesOn s goals pairs js ends rest a
    → EachArm (ArmJob s e goals pairs js ends (arms_switch_on before)) (numbered_from number ps)
arms_job s q strict number nothing kn inner rest a afters e goals pairs js ends at before tidy ok room among fits come joins on = tt
arms_job s q strict number (also p ps) kn inner rest a afters e goals pairs js ends at before tidy ok room among fits come joins on =
    let o = arms_ok (place s q.1 strict) p ps kn afters ok in
    let ends_join : EndsJoin (outside (clause_variables q.1) inner) a (o.first ∷ o.ends) = subst (λ (es : List After). EndsJoin (outside (clause_variables q.1) inner) a es) (sym o.is) joins in (
      (λ chosen. job_begins s q strict number p kn rest o.first e goals pairs js ends
          (record {
            at = at;
            before = arm strict number p ps kn before;
            tidy = tidy.0;
            accepted = o.begins;
            room = λ x. let r = room x in let i = among x in let t = times-append x (variables p) (parts_variables ps) in omega (arith, r, i, t);
            fits = fits_fewer s (inner ++ rest) (variables p ++ rest) kn e
                (λ x there. let i = among x in let t = times-append x (variables p) (parts_variables ps) in let g = times-append x (variables p) rest in let h = times-append x inner rest in omega (arith, there, i, t, g, h)) fits;
            chosen = chosen;
          })
          come (arm_on s goals pairs js ends (clause_variables q.1) inner rest a o.first room ends_join.0 on)),
      arms_job s q strict (number + goal_size p) ps kn inner rest a o.ends e goals pairs js ends at (next_arms strict number p ps kn before) tidy.1 o.others room
          (λ x. let i = among x in let t = times-append x (variables p) (parts_variables ps) in omega (arith, i, t)) fits come ends_join.1 on,
    )

disjunction_job : (s : Hlds) (q : ℕ × Procedure) (strict : Bool) (number l : ℕ) (ps : HldsGoals) (kn : InstMap) (rest : List ℕ) (a : After) (e : Env) (goals : List Numbered) (pairs : List (ℕ × ℕ)) (js : List Frame) (ends : Env → Type 0)
    → Placed s q strict number (At l (DisjGoal ps)) kn rest a e → AreToCome q goals rest → GoesOn s goals pairs js ends rest a
    → EachArm (ArmJob s e goals pairs js ends (variable_of (switch_of s ps kn))) (numbered_from (suc number) ps)
disjunction_job s q strict number l ps kn rest a e goals pairs js ends placed come on =
    let b = ok_then (arms (place s q.1 strict) ps kn) (λ ends. branch.joined l (outside (clause_variables q.1) (parts_variables ps)) kn ends) a placed.accepted in
    arms_job s q strict (suc number) ps kn (parts_variables ps) rest a b.0 e goals pairs js ends placed.at (known.arms strict number l ps kn placed.before) placed.tidy b.1 placed.room (λ x. omega arith) placed.fits come
    (joined_join l (outside (clause_variables q.1) (parts_variables ps)) kn b.0 a (arms_later (place s q.1 strict) ps kn b.0 b.1) b.2) on

-- the arms that wait
arms_wait : (s : Hlds) (f : Frame) (goals : List Numbered) (js : List Frame) (ws : List Wait) (at : Option ℕ) (qs : List Numbered)
    → ((p : Numbered) → IsChosen s at p.goal f.env) → EachArm (ArmJob s f.env goals f.pairs js (λ d. FitsAnswer s ws d) at) qs → FitArms s (doing f goals) js ws qs
arms_wait s f goals js ws at [] chosen h = tt
arms_wait s f goals js ws at (p ∷ ps) chosen h = (h.0 (chosen p), arms_wait s f goals js ws at ps chosen h.1)

one_chosen : (P : Numbered → Type 0) (p q : Numbered) (o : Option Numbered) (b : Bool) → P p → (o ≡ Some q → P q) → cond b (Some p) o ≡ Some q → P q
one_chosen P p q o true h g is = let same : p ≡ q = cc is in subst (λ (r : Numbered). P r) same h
one_chosen P p q o false h g is = g is

chosen_arm : (P : Numbered → Type 0) (v : Value) (keys : List Key) (qs : List Numbered) (p : Numbered) → EachArm P qs → arm_for v keys qs ≡ Some p → P p
chosen_arm P v [] qs p h is = absurd (cc is)
chosen_arm P v (key ∷ keys) [] p h is = absurd (cc is)
chosen_arm P v (key ∷ keys) (q ∷ qs) p h is = one_chosen P q p (arm_for v keys qs) (has_the_key v key) h.0 (λ is. chosen_arm P v keys qs p h.1 is) is

arm_taken : (s : Hlds) (f : Frame) (goals : List Numbered) (js : List Frame) (ws : List Wait) (k : ℕ) (o : Option Numbered)
    → ((p : Numbered) → o ≡ Some p → FitsFrame s f (p ∷ goals) js ws) → FitWaits s ws → FitsUnfolded s (takes_arm f goals js ws k o)
arm_taken s f goals js ws k None h waits = waits
arm_taken s f goals js ws k (Some p) h waits = (h p refl, waits)

switched : (s : Hlds) (f : Frame) (goals : List Numbered) (js : List Frame) (ws : List Wait) (k : ℕ) (qs : List Numbered) (keys : List Key) (o : Option Value)
    → (o ≡ None → FitArms s (doing f goals) js ws qs) → ((v : Value) → o ≡ Some v → (p : Numbered) → arm_for v keys qs ≡ Some p → FitsFrame s f (p ∷ goals) js ws) → FitWaits s ws
    → FitsUnfolded s (switches f goals js ws k qs keys o)
switched s f goals js ws k qs keys None tried taken waits = (tried refl, waits)
switched s f goals js ws k qs keys (Some v) tried taken waits = arm_taken s f goals js ws k (arm_for v keys qs) (λ p is. taken v refl p is) waits

chosen_by : (s : Hlds) (f : Frame) (goals : List Numbered) (js : List Frame) (ws : List Wait) (k : ℕ) (qs : List Numbered) (o : Option (ℕ × List Key))
    → (switch_value o f.env ≡ None → FitArms s (doing f goals) js ws qs)
    → ((w : ℕ × List Key) → o ≡ Some w → (v : Value) → value_at f.env w.0 ≡ Some v → (p : Numbered) → arm_for v w.1 qs ≡ Some p → FitsFrame s f (p ∷ goals) js ws) → FitWaits s ws
    → FitsUnfolded s (chooses f goals js ws k qs o)
chosen_by s f goals js ws k qs None tried taken waits = (tried refl, waits)
chosen_by s f goals js ws k qs (Some w) tried taken waits = switched s f goals js ws k qs w.1 (value_at f.env w.0) tried (λ v at p is. taken w refl v at p is) waits

-- ---- calls

gives_one : (s : Hlds) (m : Mode) (t : HldsType) (o p : Option Value) → IsArgument s m t o → IsResult s m t p → o ≡ None → HasValue p
gives_one s In t None p h r is = elim h [ ]
gives_one s In t (Some v) p h r is = absurd (cc is)
gives_one s Di t None p h r is = elim h [ ]
gives_one s Di t (Some v) p h r is = absurd (cc is)
gives_one s Out t o None h r is = elim r [ ]
gives_one s Out t o (Some v) h r is = (v, refl)
gives_one s Uo t o None h r is = elim r [ ]
gives_one s Uo t o (Some v) h r is = (v, refl)

gives_back : (s : Hlds) (args : List (HldsType × Mode)) (heads ys : List ℕ) (d e : Env) → AreArguments s args (taken e ys) → AreResults s args heads d → GivesBack (pairs_of heads ys) d e
gives_back s args [] ys d e h r = tt
gives_back s args (x ∷ heads) [] d e h r = tt
gives_back s [] (x ∷ heads) (y ∷ ys) d e h r = elim h [ ]
gives_back s (a ∷ args) (x ∷ heads) (y ∷ ys) d e h r = (gives_one s a.1 a.0 (value_at e y) (value_at d x) h.0 r.0, gives_back s args heads ys d e h.1 r.1)

-- a body, and what its caller does with what it gives back
body_job : (s : Hlds) (proper : Proper s) (strict : Bool) (l : ℕ) (q : ℕ × Procedure) (held : Values) (others : List (HldsType × Mode)) (ys rest : List ℕ) (kn r : InstMap) (e : Env)
    (goals : List Numbered) (pairs : List (ℕ × ℕ)) (js : List Frame) (ends : Env → Type 0) → IsCall s strict l q held others ys kn r e → Fits s (ys ++ rest) kn e → GoesOn s goals pairs js ends rest (after r true)
    → FitsGoals s (entered q.1 (listed_values held) ys e) (numbered_goal (body_number s q.0) q.1.body ∷ [])
    (λ d. GivesBack (pairs_of (without (listed_values held) q.1.head) ys) d e × FitsJob s (back (pairs_of (without (listed_values held) q.1.head) ys) d e) goals pairs js ends)
body_job s proper strict l q held others ys rest kn r e goals pairs js ends c fits on =
    let p = q.1 in
    let ok = ok_then (goal (scope_of s p) p.body (entry p)) (λ b. end p b) tt (proper.accepted q.0 p c.at) in (
      here_of s q false (body_number s q.0) p.body (entry p) p.head ok.0 (entered p (listed_values held) ys e) []
          (record {
            at = c.at;
            before = body;
            tidy = proper.tidy q.0 p c.at;
            accepted = ok.1;
            room = λ x. let e = times-append x p.head (variables p.body) in omega (arith, e);
            fits = call_fits s (variables p.body ++ p.head) p held others ys e c.captured c.args;
            chosen = tt;
          })
          (λ x there. there),
      λ d reach inner.
          let results = others_return s held p.args others p.head d c.captured (end_results s p ok.0 d ok.2 reach inner) in (
            gives_back s others (without (listed_values held) p.head) ys d e c.args results,
            on (back (pairs_of (without (listed_values held) p.head) ys) d e) refl (back_fits s proper strict l q held others ys rest kn r e d c fits results),
          ),
    )

-- a body is entered
entered_fits : (s : Hlds) (d : Det) (callee caller : Frame) (js : List Frame) (ws : List Wait) (k : ℕ)
    → FitsGoals s callee.env callee.goals (λ d. GivesBack callee.pairs d caller.env × FitsJob s (back callee.pairs d caller.env) caller.goals caller.pairs js (λ d. FitsAnswer s ws d))
    → FitWaits s ws → FitsState s (enters d callee caller js ws k)
entered_fits s det.Det callee caller js ws k h waits = (h, waits)
entered_fits s det.Semidet callee caller js ws k h waits = (h, waits)
entered_fits s det.Failure callee caller js ws k h waits = (h, waits)
entered_fits s det.Multi callee caller js ws k h waits = (h, waits)
entered_fits s det.Nondet callee caller js ws k h waits = (h, waits)

call_fits_on : (s : Hlds) (proper : Proper s) (strict : Bool) (l : ℕ) (q : ℕ × Procedure) (held : Values) (others : List (HldsType × Mode)) (ys rest : List ℕ) (kn r : InstMap)
    (f : Frame) (goals : List Numbered) (js : List Frame) (ws : List Wait) (k site : ℕ) → IsCall s strict l q held others ys kn r f.env → Fits s (ys ++ rest) kn f.env
    → GoesOn s goals f.pairs js (λ d. FitsAnswer s ws d) rest (after r true) → FitWaits s ws
    → FitsUnfolded s (calls s f goals js ws k site (Some q) (listed_values held) ys)
call_fits_on s proper strict l q held others ys rest kn r f goals js ws k site c fits on waits =
    let size = without_size s held q.1.args others q.1.head c.captured (proper.heads q.0 q.1 c.at) in
    let long : length (listed_values held) + length ys ≡ length q.1.head = let a = size.1 in let b = c.size in omega (arith, a, b) in
    rw (eq-eqb (length (listed_values held) + length ys) (length q.1.head) long)
    (entered_fits s q.1.det (body_frame s k (entered q.1 (listed_values held) ys f.env) q (pairs_of (without (listed_values held) q.1.head) ys)) (doing f goals) js ws k
    (body_job s proper strict l q held others ys rest kn r f.env goals f.pairs js (λ d. FitsAnswer s ws d) c fits on) waits)

named_fits : (s : Hlds) (proper : Proper s) (strict : Bool) (l : ℕ) (name : PredName) (o : Option Procedure) (ys rest : List ℕ) (kn r : InstMap)
    (f : Frame) (goals : List Numbered) (js : List Frame) (ws : List Wait) (k site : ℕ) → predicate_called s name ≡ o → AreDistinct ys → call_checked strict l ys o kn ≡ Ok r → Fits s (ys ++ rest) kn f.env
    → GoesOn s goals f.pairs js (λ d. FitsAnswer s ws d) rest (after r true) → FitWaits s ws
    → FitsUnfolded s (calls s f goals js ws k site (procedure_called s name) [] ys)
named_fits s proper strict l name None ys rest kn r f goals js ws k site is distinct ok fits on waits = absurd (cc ok)
named_fits s proper strict l name (Some p) ys rest kn r f goals js ws k site is distinct ok fits on waits =
    let n = predicate_number s name p is in
    let c = named_call s strict l name (Some p) (n.0, p) ys kn r f.env is n.1 distinct ok (fits_left s ys rest kn f.env fits) in
    rw n.1 (call_fits_on s proper strict l (n.0, p) no_values p.args ys rest kn r f goals js ws k site c fits on waits)

closure_fits : (s : Hlds) (proper : Proper s) (strict : Bool) (l : ℕ) (o : Option Value) (ys rest : List ℕ) (t : HldsType) (kn r : InstMap)
    (f : Frame) (goals : List Numbered) (js : List Frame) (ws : List Wait) (k site : ℕ) → IsApplied s strict l ys o t kn r → AreDistinct ys → Fits s (ys ++ rest) kn f.env
    → GoesOn s goals f.pairs js (λ d. FitsAnswer s ws d) rest (after r true) → FitWaits s ws
    → FitsUnfolded s (applies s f goals js ws k site ys o)
closure_fits s proper strict l o ys rest t kn r f goals js ws k site c distinct fits on waits =
    let there : nth_procedure s c.number ≡ Some (c.number, c.procedure) = ap (numbered c.number) c.at in
    subst (λ (v : Option Value). FitsUnfolded s (applies s f goals js ws k site ys v)) (sym c.is)
    (subst (λ (q : Option (ℕ × Procedure)). FitsUnfolded s (calls s f goals js ws k site q (listed_values c.held) ys)) (sym there)
    (call_fits_on s proper strict l (c.number, c.procedure) c.held c.others ys rest kn r f goals js ws k site
    (record { at = c.at; captured = c.captured; args = handed s strict l c.others ys kn r f.env (fits_left s ys rest kn f.env fits) distinct c.size c.accepted; size = c.size; accepted = c.accepted })
    fits on waits))

-- ---- any goal

simple_unfolds : (s : Hlds) (f : Frame) (goals : List Numbered) (js : List Frame) (ws : List Wait) (k : ℕ) (vars rest : List ℕ) (a : After) (reach : Bool) (o : Outcome)
    → LeadsTo s (vars ++ rest) reach a.known o → a.reach ≡ reach → GoesOn s goals f.pairs js (λ d. FitsAnswer s ws d) rest a → FitWaits s ws → FitsUnfolded s (goes_simply f goals js ws k o)
simple_unfolds s f goals js ws k vars rest a reach (Go d extra words out) h is on waits = (on d (is ∙ h.1) (fits_right s vars rest a.known d h.0), waits)
simple_unfolds s f goals js ws k vars rest a reach (No extra) h is on waits = waits
simple_unfolds s f goals js ws k vars rest a reach (Raised bytes) h is on waits = tt
simple_unfolds s f goals js ws k vars rest a reach Stop h is on waits = elim h [ ]

expr_fits : (s : Hlds) (proper : Proper s) (q : ℕ × Procedure) (strict : Bool) (number l : ℕ) (t : GoalExpr) (kn : InstMap) (rest : List ℕ) (a : After)
    (f : Frame) (goals : List Numbered) (js : List Frame) (ws : List Wait) (k : ℕ)
    → Placed s q strict number (At l t) kn rest a f.env → AreToCome q goals rest → GoesOn s goals f.pairs js (λ d. FitsAnswer s ws d) rest a → FitWaits s ws
    → FitsUnfolded s (unfolds_expr s f number goals js ws k t)
expr_fits s proper q strict number l (SimpleGoal g) kn rest a f goals js ws k placed come on waits =
    let o = ok_reached (goes_on g) (rules.simple s strict l g kn) a placed.accepted in
    simple_unfolds s f goals js ws k (simple_variables g) rest a (goes_on g) (run.simple s f.env g)
    (simple_leads s (simple_variables g ++ rest) strict l g kn a.known f.env placed.tidy placed.fits (in_left (simple_variables g) rest) o.0) o.1 on waits
expr_fits s proper q strict number l (ConjGoal ps) kn rest a f goals js ws k placed come on waits = (
  parts_job s q strict (suc number) ps kn rest a f.env goals f.pairs js (λ d. FitsAnswer s ws d) placed.at (known.parts strict number l ps kn placed.before)
      (first_chosen s (switches_on placed.before) l ps f.env placed.chosen) placed.tidy placed.accepted placed.room placed.fits come on,
  waits,
)
expr_fits s proper q strict number l (DisjGoal ps) kn rest a f goals js ws k placed come on waits =
    let arms = disjunction_job s q strict number l ps kn rest a f.env goals f.pairs js (λ d. FitsAnswer s ws d) placed come on in
    let at = variable_of (switch_of s ps kn) in
    chosen_by s f goals js ws k (numbered_from (suc number) ps) (switch_shape s ps)
    (λ none. arms_wait s f goals js ws at (numbered_from (suc number) ps)
    (λ p. no_switch_chosen s ps kn (expr_variables (DisjGoal ps) ++ rest) f.env p.goal placed.fits (in_left (parts_variables ps) rest) none) arms)
    (λ w shape v value p is. chosen_arm (ArmJob s f.env goals f.pairs js (λ d. FitsAnswer s ws d) at) v w.1 (numbered_from (suc number) ps) p arms is
    (arm_is_chosen s ps kn (suc number) w v p f.env shape value is))
    waits
expr_fits s proper q strict number l (IfGoal c t e) kn rest a f goals js ws k placed come on waits =
    let o = placed_if s q strict number l c t e kn rest a f.env placed in
    let inner = variables c ++ (variables t ++ variables e) in (
      (
        here_of s q true (suc number) c kn (variables t ++ rest) o.condition f.env [] o.asked (come_inside q goals (variables t) rest come),
        λ d reach inside. job_begins s q strict (suc number + goal_size c) t o.condition.known rest o.then d goals f.pairs js (λ d. FitsAnswer s ws d) (o.wins d inside) come
            (arm_on s goals f.pairs js (λ d. FitsAnswer s ws d) (clause_variables q.1) inner rest a o.then placed.room o.joins.0 on),
      ),
      (
        job_begins s q strict (suc number + goal_size c + goal_size t) e kn rest o.else f.env goals f.pairs js (λ d. FitsAnswer s ws d) o.loses come
            (arm_on s goals f.pairs js (λ d. FitsAnswer s ws d) (clause_variables q.1) inner rest a o.else placed.room o.joins.1.0 on),
        waits,
      ),
    )
expr_fits s proper q strict number l (NotGoal c) kn rest a f goals js ws k placed come on waits =
    let o = placed_not s q strict number l c kn rest a f.env placed in (
      (here_of s q true (suc number) c kn rest o.inner f.env [] o.asked (come_inside q goals [] rest come), λ d reach inside. tt),
      (on f.env o.reach o.fits, waits),
    )
expr_fits s proper q strict number l (SomeGoal vs c) kn rest a f goals js ws k placed come on waits =
    let o = placed_some s q strict number l vs c kn rest a f.env placed in (
      (here_of s q true (suc number) c kn rest o.inner f.env [] o.asked (come_inside q goals [] rest come), λ d reach inside. on f.env o.reach o.fits),
      waits,
    )
expr_fits s proper q strict number l (CallGoal site name ys) kn rest a f goals js ws k placed come on waits =
    let o = ok_reached true (atomic s strict l (CallGoal site name ys) kn) a placed.accepted in
    named_fits s proper strict l name (predicate_called s name) ys rest kn a.known f goals js ws k site refl placed.tidy o.0 placed.fits (λ d reach fits. on d o.1 fits) waits
expr_fits s proper q strict number l (HoCallGoal site x ys) kn rest a f goals js ws k placed come on waits =
    let o = ok_reached true (atomic s strict l (HoCallGoal site x ys) kn) a placed.accepted in
    let fewer = fits_fewer s ((x ∷ ys) ++ rest) (ys ++ rest) kn f.env (λ y there. more_times y x (ys ++ rest) there) placed.fits in
    closure_fits s proper strict l (value_at f.env x) ys rest (type_of (known_at kn x)) kn a.known f goals js ws k site
    (known_applied s strict l ys (value_at f.env x) (known_at kn x) kn a.known (placed.fits.each x (first_times x (ys ++ rest))) o.0)
    placed.tidy fewer (λ d reach fits. on d o.1 fits) waits

goal_fits : (s : Hlds) (proper : Proper s) (q : ℕ × Procedure) (strict : Bool) (number : ℕ) (p : HldsGoal) (kn : InstMap) (rest : List ℕ) (a : After)
    (f : Frame) (goals : List Numbered) (js : List Frame) (ws : List Wait) (k : ℕ)
    → Placed s q strict number p kn rest a f.env → AreToCome q goals rest → GoesOn s goals f.pairs js (λ d. FitsAnswer s ws d) rest a → FitWaits s ws
    → FitsUnfolded s (unfolds s f number goals js ws k p)
goal_fits s proper q strict number (At l t) kn rest a f goals js ws k placed come on waits = expr_fits s proper q strict number l t kn rest a f goals js ws k placed come on waits

-- the first goal of the frame that goes on
pub first_of_frame : (s : Hlds) (f : Frame) (js : List Frame) (ws : List Wait) (k : ℕ) (g : Numbered) (goals : List Numbered) → f.goals ≡ g ∷ goals → FitsState s (state (Goes f js) ws k) → FitsFrame s f (g ∷ goals) js ws
first_of_frame s f js ws k g goals is h = subst (λ (gs : List Numbered). FitsFrame s f gs js ws) is h.0

pub turn_fits : (s : Hlds) (proper : Proper s) (f : Frame) (js : List Frame) (ws : List Wait) (k : ℕ) (g : Numbered) (goals : List Numbered) → f.goals ≡ g ∷ goals → FitsState s (state (Goes f js) ws k)
    → FitsUnfolded s (unfolds s f g.number goals js ws k g.goal)
turn_fits s proper f js ws k g goals is h =
    let o = job_first s f.env g goals f.pairs js (λ d. FitsAnswer s ws d) (first_of_frame s f js ws k g goals is h) in
    goal_fits s proper o.0.procedure o.0.strict g.number g.goal o.0.known o.0.rest o.0.after f goals js ws k (placed_of s f.env g goals o.0) o.0.come o.1 h.1

-- what the mode rules know at the turn
pub turn_known : (s : Hlds) (f : Frame) (js : List Frame) (ws : List Wait) (k : ℕ) (g : Numbered) (goals : List Numbered) → f.goals ≡ g ∷ goals → FitsState s (state (Goes f js) ws k) → FitsAt s f.env g goals
turn_known s f js ws k g goals is h =
    let o = job_first s f.env g goals f.pairs js (λ d. FitsAnswer s ws d) (first_of_frame s f js ws k g goals is h) in
    first_fits s o.0.procedure o.0.strict g.number g.goal o.0.known o.0.rest o.0.after f.env goals (placed_of s f.env g goals o.0) o.0.come

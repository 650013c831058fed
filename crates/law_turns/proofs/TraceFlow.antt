-- Of each job that a finished run comes to, the trace leads on as the table of goals says: what it uses was made.
use Rattle.std.proofs.Common.{◌≡◌, refl, sym, ap, ◌∙◌, subst, arith, ℕ, zero, suc, ◌+◌, ◌≤◌, Bool, true, false, cond, nat_eq, List, [], ◌∷◌, ◌++◌, length, Option, Some, None, slice_get}
use Rattle.std.proofs.lemmas.Bool.{eqb-true}
use Rattle.md_hlds.specs.declared.types.Det.{Det}
use Rattle.md_hlds.specs.declared.types.Det.TheVariants as det
use Rattle.md_hlds.specs.HldsGoal.{Simple, HldsGoal, At, GoalExpr, SimpleGoal, CallGoal, HoCallGoal, ConjGoal, DisjGoal, IfGoal, NotGoal, SomeGoal, HldsGoals, nothing, also, goal_size, Numbered, numbered_goal, numbered_from}
use Rattle.md_hlds.specs.Hlds.{Hlds, Procedure, body_number, procedure_called, nth_procedure}
use Rattle.md_hlds.specs.Value.{Value, Values, Number, Literal, Built, Closure, listed_values, Env, value_at}
use Rattle.md_hlds.specs.HldsGoal as kind
use Rattle.md_hlds.specs.Simple.{Outcome, Go, No, Throws, Stop, simple, raise}
use Rattle.md_hlds.specs.Switch.{Key, switch_shape, has_the_key, arm_for}
use Rattle.md_hlds.specs.Trace.{Item, Turn, Call, Exit, Redo, Fail, Items, Frame, joined, first, excps, back, pairs_of, without, doing, knowing, alone, allocated, written, after_simple, arms, one_arm, switched, disjunction, cut_off, run_body, call_weight, call_if, invoked, applied, unfold_expr, unfold_goal, returns, trace}
use Rattle.md_hlds.specs.Trace as item
use Rattle.md_reader.specs.Grammar.{Spells}
use Rattle.md_modes.specs.Modes.{mode_fault}
use Rattle.md_det.specs.declared.finding.Switch.{Switch}
use Rattle.md_det.specs.Faults.{det_fault}
use Rattle.md_det.specs.Switches.{is_whole}
use Rattle.md_det.specs.Findings.{program_findings, switch_at, pair_at}
use Rattle.md_trace.specs.Activation.{Activation, numbered}
use Rattle.law_events.proofs.SiteLemmas.{found_by_name, found_by_number}
use Rattle.law_safety.specs.Known.{FitsFirst}
use Rattle.law_safety.specs.Unfolding.{Job, job, first_answer, failed, ended, switch_value, Tries, at_once, is_cut, callee, Calls, begins_cut, has_exited, begins_whole, Unfolds, goes, parts, tries, switches, asks, holds, fails, denies, is_denied, seeks, has_found, calls, applies, expr_in, Next, Comes, here, further}
use Rattle.law_safety.specs.Unfolding as way
use Rattle.law_turns.specs.Equations.{numbers_from}
use Rattle.law_turns.proofs.Spots as spots
use Rattle.law_turns.proofs.Spots.{Cause, ByTurn, ByEnd, ByChoice, ByCall, ByExit, Effect, Begins, Ends, Chooses, Picks, CallsAt, ExitsOf, How, AtOnce, Later, Chosen, how_of, how_of_whole, arm_begun, part_ended, IsAt, PartsAt, ArmsAt, body_at, condition_at, then_at, else_at, negated_at, quantified_at, parts_at, arms_at, part_at, next_parts, arm_at, next_arms}
use Rattle.law_turns.proofs.Flow.{arms_turned, once_turned, once_made, simple_turned, simple_made, turned, made, chosen, picked, vias, choices, last_from, vias_at, is_at_site, goal_of_site, Token, token, to_effect, of_cause, uses, makes, how_often, Ended, Chose, exit_uses, exit_makes, Awaits, awaits_item, awaits_mark, awaits_turned, Leads, leads_first, leads_joined, leads_quietly}
use Rattle.law_turns.proofs.Places.{begun_is, ended_is, turned_is, made_is, chosen_is, picked_is, vias_is, choices_is, chooses_is, calls_at_is, exits_of_is, by_call_is, by_exit_is, same_number, other_number, size_positive, once_alone, once_of_two, none_below, once_first, once_later}
use Rattle.law_turns.proofs.AtTurns.{fails_turned, no_switch, a_switch, takes_an_arm}

-- the goal of a call stands where its site is looked up
abbrev pub AreSited : Hlds → Type 0
AreSited s = (n l : ℕ) (b : List Cause) (d : List Effect) (t : GoalExpr) (x : ℕ) → IsAt s n b d (At l t) → is_at_site x t ≡ true → goal_of_site s x ≡ n

-- a trace without an answer that comes to its end
ended_of : (xs : Items) (k i : ℕ) → failed xs k ≡ Some i → ended xs k ≡ Some i
ended_of [] k i is = is
ended_of (item.Answer e ∷ xs) k i is = absurd (cc is)
ended_of (Call a p x q ∷ xs) k i is = ended_of xs (suc k) i is
ended_of (item.Throw bytes ∷ xs) k i is = is
ended_of (item.Stuck ∷ xs) k i is = is
ended_of (item.Deep ∷ xs) k i is = is
ended_of (Turn a g w ∷ xs) k i is = ended_of xs k i is
ended_of (Exit a ∷ xs) k i is = ended_of xs k i is
ended_of (Redo a ∷ xs) k i is = ended_of xs k i is
ended_of (Fail a ∷ xs) k i is = ended_of xs k i is
ended_of (item.Excp a ∷ xs) k i is = ended_of xs k i is
ended_of (item.Alloc a w ∷ xs) k i is = ended_of xs k i is
ended_of (item.Out bytes ∷ xs) k i is = ended_of xs k i is

module _ (bytes : List ℕ) (s : Hlds) (spells : Spells bytes s) (modes : mode_fault s ≡ None) (judged : det_fault s ≡ None) (sited : AreSited s) (acts : List Activation) (root : Job)
    (fits : (j : Job) → Comes s root j → FitsFirst s j.frame.env j.frame.goals) where
  abbrev pub Due : Items → List Token → Type 0
  Due done due = Awaits s acts done due

  -- the trace leads to where `good` is awaited beside the others, or, at its end, the others alone
  abbrev pub Flows : List Token → List Token → Items → ℕ → Items → Type 0
  Flows good due xs k done = Leads acts (λ e i then'. Due then' (good ++ due)) (λ i then'. Due then' due) xs k done

  recast : (done : Items) (xs ys due : List Token) → xs ≡ ys → Due done (xs ++ due) → Due done (ys ++ due)
  recast done xs ys due same h = subst (λ (zs : List Token). Due done (zs ++ due)) same h

  -- ---- where goals lead

  -- the end of the goal n leads to these tokens, by way of the goals that end with it
  abbrev pub LeadsTo : ℕ → List Token → Type 0
  LeadsTo n next = (done : Items) (due : List Token) → Due done (makes s (ByEnd n) ++ due) → Due done (next ++ due)

  -- the next goal's beginning, or what comes after the last
  abbrev pub next_of : List Numbered → List Token → List Token
  next_of [] last = last
  next_of (g ∷ goals) last = uses s (Begins g.number)

  pub record Placed (n : ℕ) (p : HldsGoal) (next : List Token) : Type 0 where
    pub begun : List Cause
    pub ended' : List Effect
    pub at : IsAt s n begun ended' p
    pub on : LeadsTo n next

  abbrev pub Follow : List Numbered → List Token → Type 0
  Follow [] last = Unit {0}
  Follow (g ∷ goals) last = Placed g.number g.goal (next_of goals last) × Follow goals last

  abbrev pub last_of : ℕ → List Frame → List Token → List Token
  last_of act [] good = good
  last_of act (c ∷ js) good = exit_uses s (numbered acts act)

  -- the caller goes on where a call of it has its exit
  pub record Resumes (act : ℕ) (next : List Token) : Type 0 where
    pub number : ℕ
    pub once : how_often number (vias_at number (slice_get (spots.spots s) number)) ≡ 1
    pub same : exit_makes s (numbered acts act) ≡ uses s (Ends number number)
    pub on : LeadsTo number next

  abbrev pub Stands : ℕ → List Numbered → List Frame → List Token → Type 0
  Stands act goals [] good = Follow goals good
  Stands act goals (c ∷ js) good = Follow goals (exit_uses s (numbered acts act)) × (Resumes act (next_of c.goals (last_of c.act js good)) × Stands c.act c.goals js good)

  stands_follow : (act : ℕ) (goals : List Numbered) (js : List Frame) (good : List Token) → Stands act goals js good → Follow goals (last_of act js good)
  stands_follow act goals [] good h = h
  stands_follow act goals (c ∷ js) good h = h.0

  stands_with : (act : ℕ) (goals others : List Numbered) (js : List Frame) (good : List Token) → Stands act goals js good → Follow others (last_of act js good) → Stands act others js good
  stands_with act goals others [] good h f = f
  stands_with act goals others (c ∷ js) good h f = (f, h.1)

  abbrev pub with : ℕ → Env → List Numbered → List (ℕ × ℕ) → Frame
  with act e goals pairs = record { act = act; env = e; goals = goals; pairs = pairs }

  -- each job of this depth flows
  abbrev pub AllFlow : ℕ → Type 0
  AllFlow m =
      (act : ℕ) (e : Env) (goals : List Numbered) (pairs : List (ℕ × ℕ)) (js : List Frame) (k : ℕ) (good due : List Token) (done : Items)
      → Comes s root (job m (with act e goals pairs) js k) → Stands act goals js good → Due done (next_of goals (last_of act js good) ++ due)
      → Flows good due (trace s m (with act e goals pairs) js k) k done

  comes_on : (i j l : Job) → Comes s i j → Next s j l → Comes s i l
  comes_on _ _ l (here i) step = further i l l step (here l)
  comes_on _ _ l (further i j o first' more) step = further i j l first' (comes_on j o l more step)

  -- ---- marks

  -- a goal ends, having succeeded by itself
  ends_alone : (n l : ℕ) (b : List Cause) (d : List Effect) (t : GoalExpr) (next due : List Token) (done : Items) → IsAt s n b d (At l t) → LeadsTo n next → vias n t ≡ n ∷ []
      → Due done (uses s (Ends n n) ++ due) → Due done (next ++ due)
  ends_alone n l b d t next due done at on via h =
      on done due (awaits_mark s acts done (Ended n n (ap (how_often n) (vias_is s n l b d t at ∙ via) ∙ once_alone n)) due h)

  -- a part by way of which the goal n ends
  leads_up : (n l : ℕ) (b : List Cause) (d : List Effect) (t : GoalExpr) (next : List Token) (m : ℕ) (c : List Cause) (p : HldsGoal) → IsAt s n b d (At l t) → LeadsTo n next
      → how_often m (vias n t) ≡ 1 → made (program_findings s) n m t ≡ ByEnd m ∷ [] → IsAt s m c (Ends n m ∷ []) p → LeadsTo m next
  leads_up n l b d t next m c p at on once by part done due h =
      on done due (awaits_mark s acts done (Ended n m (ap (how_often m) (vias_is s n l b d t at) ∙ once)) due
      (recast done (makes s (ByEnd m)) (uses s (Ends n m)) due
      (ap (of_cause (ByEnd m)) (ended_is s m c (Ends n m ∷ []) p part) ∙ sym (ap (to_effect (Ends n m)) (made_is s n m l b d t at ∙ by))) h))

  -- the choice of the goal n falls on j
  falls : (n l : ℕ) (b : List Cause) (d : List Effect) (t : GoalExpr) (j : ℕ) (due : List Token) (done : Items) → IsAt s n b d (At l t) → how_often j (choices n t) ≡ 1
      → Due done (token (ByTurn n) (Chooses n) ∷ (to_effect (Picks n j) (picked n j t) ++ due)) → Due done (of_cause (ByChoice n j) (chosen n j t) ++ due)
  falls n l b d t j due done at once h =
      recast done (makes s (ByChoice n j)) (of_cause (ByChoice n j) (chosen n j t)) due (ap (of_cause (ByChoice n j)) (chosen_is s n j l b d t at))
      (awaits_mark s acts done (Chose n j (ap (how_often j) (choices_is s n l b d t at) ∙ once)) due
      (recast done (token (ByTurn n) (Chooses n) ∷ to_effect (Picks n j) (picked n j t)) (uses s (Chooses n) ++ uses s (Picks n j)) due
      (rw (chooses_is s n, picked_is s n j l b d t at) refl) h))

  swap : (done : Items) (x y : Token) (due : List Token) → Due done (x ∷ y ∷ due) → Due done (y ∷ x ∷ due)
  swap done x y due h = awaits_turned s acts done (x ∷ []) (y ∷ []) due h

  -- ---- simple goals

  once_same : (n : ℕ) (p : Option (Bool × ℕ)) → of_cause (ByTurn n) (once_turned n p) ≡ to_effect (Ends n n) (once_made n p)
  once_same n None = refl
  once_same n (Some (true, c)) = refl
  once_same n (Some (false, zero)) = refl
  once_same n (Some (false, suc zero)) = refl
  once_same n (Some (false, suc (suc c))) = refl

  raised_goes : (o : Option Value) (e : Env) (extra words : ℕ) (out : Option (List ℕ)) → raise o ≡ Go e extra words out → ⊥
  raised_goes None e extra words out is = cc
  raised_goes (Some (Number i)) e extra words out is = cc
  raised_goes (Some (Literal i)) e extra words out is = cc
  raised_goes (Some (Built f vs)) e extra words out is = cc
  raised_goes (Some (Closure q vs)) e extra words out is = cc

  simple_same : (e : Env) (n : ℕ) (g : Simple) (d : Env) (extra words : ℕ) (out : Option (List ℕ)) (p : Option (Bool × ℕ)) → simple s e g ≡ Go d extra words out
      → of_cause (ByTurn n) (simple_turned n g p) ≡ to_effect (Ends n n) (simple_made n g p)
  simple_same e n kind.Fails d extra words out p is = absurd (cc is)
  simple_same e n (kind.Raises x) d extra words out p is = absurd (raised_goes (value_at e x) d extra words out is)
  simple_same e n kind.Succeeds d extra words out p is = once_same n p
  simple_same e n (kind.Unifies x t) d extra words out p is = once_same n p
  simple_same e n (kind.Computes z a op b) d extra words out p is = once_same n p
  simple_same e n (kind.Compares a c b) d extra words out p is = once_same n p
  simple_same e n (kind.WritesInt x b a) d extra words out p is = once_same n p
  simple_same e n (kind.WritesText x b a) d extra words out p is = once_same n p
  simple_same e n (kind.EndsLine b a) d extra words out p is = once_same n p

  -- what is known at one goal's turn, at a depth that allows it
  module _ (m : ℕ) (flows : AllFlow m) (act : ℕ) (e : Env) (n l : ℕ) (goals : List Numbered) (pairs : List (ℕ × ℕ)) (js : List Frame) (k : ℕ) (good due : List Token) (done : Items) where
    abbrev Here : GoalExpr → Type 0
    Here t = Comes s root (job (suc m) (with act e (numbered_goal n (At l t) ∷ goals) pairs) js k)

    abbrev frame : GoalExpr → Frame
    frame t = with act e (numbered_goal n (At l t) ∷ goals) pairs

    -- after the turn
    turn_made : (t : GoalExpr) (b : List Cause) (d : List Effect) (w : ℕ) → IsAt s n b d (At l t) → Due done (uses s (Begins n) ++ due)
        → Due (Turn act (Some n) w ∷ done) (of_cause (ByTurn n) (turned (program_findings s) n t) ++ due)
    turn_made t b d w at h =
        recast (Turn act (Some n) w ∷ done) (makes s (ByTurn n)) (of_cause (ByTurn n) (turned (program_findings s) n t)) due
        (ap (of_cause (ByTurn n)) (turned_is s n l b d t at)) (awaits_item s acts done (Turn act (Some n) w) due h)

    simple_flows : (g : Simple) (o : Outcome) → Here (SimpleGoal g) → Stands act (numbered_goal n (At l (SimpleGoal g)) ∷ goals) js good → simple s e g ≡ o → Due done (uses s (Begins n) ++ due)
        → Flows good due (after_simple (λ f js k. trace s m f js k) (frame (SimpleGoal g)) n goals js k o) k done
    simple_flows g (Go d extra words out) comes stands is h =
        let follow = stands_follow act (numbered_goal n (At l (SimpleGoal g)) ∷ goals) js good stands in
        let p = follow.0 in
        let at = p.at in
        let now : Items = Turn act (Some n) (suc extra) ∷ done in
        let made' : Due now (uses s (Ends n n) ++ due) =
        recast now (of_cause (ByTurn n) (turned (program_findings s) n (SimpleGoal g))) (uses s (Ends n n)) due
        (simple_same e n g d extra words out (pair_at (program_findings s) n) is ∙ sym (ap (to_effect (Ends n n)) (made_is s n n l p.begun p.ended' (SimpleGoal g) at)))
        (turn_made (SimpleGoal g) p.begun p.ended' (suc extra) at h) in
        leads_quietly s acts _ _ act words out (trace s m (with act d goals pairs) js k) k now (next_of goals (last_of act js good) ++ due)
        (ends_alone n l p.begun p.ended' (SimpleGoal g) (next_of goals (last_of act js good)) due now at p.on refl made')
        (λ then' due'. flows act d goals pairs js k good due then' (comes_on root _ _ comes (goes g d extra words out is))
        (stands_with act (numbered_goal n (At l (SimpleGoal g)) ∷ goals) goals js good stands follow.1) due')
    simple_flows g (No extra) comes stands is h =
        let p = (stands_follow act (numbered_goal n (At l (SimpleGoal g)) ∷ goals) js good stands).0 in
        let at = p.at in
        recast (Turn act (Some n) (suc extra) ∷ done) (of_cause (ByTurn n) (turned (program_findings s) n (SimpleGoal g))) [] due
        (ap (of_cause (ByTurn n)) (fails_turned bytes s spells modes judged (frame (SimpleGoal g)) n l g goals (fits _ comes) extra is))
        (turn_made (SimpleGoal g) p.begun p.ended' (suc extra) at h)
    simple_flows g (Throws bytes) comes stands is h = tt
    simple_flows g Stop comes stands is h = tt

    -- ---- conditions

    -- a condition by itself, which leads to these tokens where it has an answer
    condition_flows : (t : GoalExpr) (c : HldsGoal) (b : List Cause) (d : List Effect) (next others : List Token) (then' : Items) → IsAt s (suc n) b d c → LeadsTo (suc n) next
        → Comes s root (job m (with act e (numbered_goal (suc n) c ∷ []) []) [] k) → Due then' (to_effect (Begins (suc n)) b ++ others)
        → Flows next others (trace s m (alone (frame t) (numbered_goal (suc n) c)) [] k) k then'
    condition_flows t c b d next others then' at on comes h =
        flows act e (numbered_goal (suc n) c ∷ []) [] [] k next others then' comes
        (record { begun = b; ended' = d; at = at; on = on }, tt)
        (recast then' (to_effect (Begins (suc n)) b) (uses s (Begins (suc n))) others (sym (ap (to_effect (Begins (suc n))) (begun_is s (suc n) b d c at))) h)

    -- the end of a condition is awaited as it is
    leads_itself : (i : ℕ) → LeadsTo i (makes s (ByEnd i))
    leads_itself i done due h = h

    -- the choice of a negation falls on the condition, where that has an answer, and else on itself
    refuses : (c : HldsGoal) (b : List Cause) (d : List Effect) → IsAt s n b d (At l (NotGoal c)) → (then' : Items) → Due then' (token (ByEnd (suc n)) (Picks n (suc n)) ∷ token (ByTurn n) (Chooses n) ∷ due) → Due then' due
    refuses c b d at then' h =
        let other : nat_eq n (suc n) ≡ false = other_number n (suc n) (omega arith) in
        recast then' (of_cause (ByChoice n (suc n)) (chosen n (suc n) (NotGoal c))) [] due (rw other refl)
        (falls n l b d (NotGoal c) (suc n) due then' at (once_of_two n (suc n) (omega arith)).1
        (subst (λ (x : Bool). Due then' (token (ByTurn n) (Chooses n) ∷ (to_effect (Picks n (suc n)) (cond x [] (ByEnd (suc n) ∷ [])) ++ due))) (sym other)
        (swap then' (token (ByEnd (suc n)) (Picks n (suc n))) (token (ByTurn n) (Chooses n)) due h)))

    denied : (c : HldsGoal) (b : List Cause) (d : List Effect) → IsAt s n b d (At l (NotGoal c)) → (then' : Items) → Due then' (token (ByTurn n) (Chooses n) ∷ due) → Due then' (uses s (Ends n n) ++ due)
    denied c b d at then' h =
        let same : nat_eq n n ≡ true = same_number n in
        recast then' (of_cause (ByChoice n n) (chosen n n (NotGoal c))) (uses s (Ends n n)) due
        (rw same refl ∙ sym (ap (to_effect (Ends n n)) (made_is s n n l b d (NotGoal c) at)))
        (falls n l b d (NotGoal c) n due then' at (once_of_two n (suc n) (omega arith)).0
        (subst (λ (x : Bool). Due then' (token (ByTurn n) (Chooses n) ∷ (to_effect (Picks n n) (cond x [] (ByEnd n ∷ [])) ++ due))) (sym same) h))

    not_flows : (c : HldsGoal) → Here (NotGoal c) → Stands act (numbered_goal n (At l (NotGoal c)) ∷ goals) js good → Due done (uses s (Begins n) ++ due)
        → Flows good due (unfold_expr s (λ f js k. trace s m f js k) (frame (NotGoal c)) n goals js k (NotGoal c)) k done
    not_flows c comes stands h =
        let follow = stands_follow act (numbered_goal n (At l (NotGoal c)) ∷ goals) js good stands in
        let p = follow.0 in
        let at = p.at in
        let inner = negated_at s n l p.begun p.ended' c at in
        let now : Items = Turn act (Some n) 1 ∷ done in
        leads_first acts _ _ _ _ (λ found i. []) (λ i. trace s m (with act e goals pairs) js i) (excps js) (trace s m (alone (frame (NotGoal c)) (numbered_goal (suc n) c)) [] k) k now
        (condition_flows (NotGoal c) c (ByTurn n ∷ []) (Picks n (suc n) ∷ []) (makes s (ByEnd (suc n))) (token (ByTurn n) (Chooses n) ∷ due) now inner (leads_itself (suc n))
        (comes_on root _ _ comes (denies c)) (turn_made (NotGoal c) p.begun p.ended' 1 at h))
        (λ d i then' is found. refuses c p.begun p.ended' at then'
        (recast then' (makes s (ByEnd (suc n))) (token (ByEnd (suc n)) (Picks n (suc n)) ∷ []) (token (ByTurn n) (Chooses n) ∷ due)
        (ap (of_cause (ByEnd (suc n))) (ended_is s (suc n) (ByTurn n ∷ []) (Picks n (suc n) ∷ []) c inner)) found))
        (λ i then' is missed. flows act e goals pairs js i good due then' (comes_on root _ _ comes (is_denied c i is))
        (stands_with act (numbered_goal n (At l (NotGoal c)) ∷ goals) goals js good stands follow.1)
        (ends_alone n l p.begun p.ended' (NotGoal c) (next_of goals (last_of act js good)) due then' at p.on refl (denied c p.begun p.ended' at then' missed)))

    some_flows : (vs : List ℕ) (c : HldsGoal) → Here (SomeGoal vs c) → Stands act (numbered_goal n (At l (SomeGoal vs c)) ∷ goals) js good → Due done (uses s (Begins n) ++ due)
        → Flows good due (unfold_expr s (λ f js k. trace s m f js k) (frame (SomeGoal vs c)) n goals js k (SomeGoal vs c)) k done
    some_flows vs c comes stands h =
        let follow = stands_follow act (numbered_goal n (At l (SomeGoal vs c)) ∷ goals) js good stands in
        let p = follow.0 in
        let at = p.at in
        let inner = quantified_at s n l p.begun p.ended' vs c at in
        let now : Items = Turn act (Some n) 1 ∷ done in
        let next : List Token = next_of goals (last_of act js good) in
        leads_first acts _ _ _ _ (λ found i. trace s m (with act e goals pairs) js i) (λ i. []) (excps js) (trace s m (alone (frame (SomeGoal vs c)) (numbered_goal (suc n) c)) [] k) k now
        (condition_flows (SomeGoal vs c) c (ByTurn n ∷ []) (Ends n (suc n) ∷ []) next due now inner
        (leads_up n l p.begun p.ended' (SomeGoal vs c) next (suc n) (ByTurn n ∷ []) c at p.on (once_alone (suc n)) refl inner)
        (comes_on root _ _ comes (seeks vs c)) (turn_made (SomeGoal vs c) p.begun p.ended' 1 at h))
        (λ d i then' is found. flows act e goals pairs js i good due then' (comes_on root _ _ comes (has_found vs c d i is))
        (stands_with act (numbered_goal n (At l (SomeGoal vs c)) ∷ goals) goals js good stands follow.1) found)
        (λ i then' is missed. missed)

    if_flows : (c t el : HldsGoal) → Here (IfGoal c t el) → Stands act (numbered_goal n (At l (IfGoal c t el)) ∷ goals) js good → Due done (uses s (Begins n) ++ due)
        → Flows good due (unfold_expr s (λ f js k. trace s m f js k) (frame (IfGoal c t el)) n goals js k (IfGoal c t el)) k done
    if_flows c t el comes stands h =
        let follow = stands_follow act (numbered_goal n (At l (IfGoal c t el)) ∷ goals) js good stands in
        let p = follow.0 in
        let at = p.at in
        let inner = condition_at s n l p.begun p.ended' c t el at in
        let won = then_at s n l p.begun p.ended' c t el at in
        let lost = else_at s n l p.begun p.ended' c t el at in
        let now : Items = Turn act (Some n) 1 ∷ done in
        let next : List Token = next_of goals (last_of act js good) in
        let a : ℕ = suc n + goal_size c in
        let b : ℕ = suc n + goal_size c + goal_size t in
        let positive = size_positive t in
        let twice = once_of_two a b (omega (arith, positive)) in
        leads_first acts _ _ _ _ (λ found i. trace s m (with act found (numbered_goal a t ∷ goals) pairs) js i) (λ i. trace s m (with act e (numbered_goal b el ∷ goals) pairs) js i) (excps js)
        (trace s m (alone (frame (IfGoal c t el)) (numbered_goal (suc n) c)) [] k) k now
        (condition_flows (IfGoal c t el) c (ByTurn n ∷ []) (Begins a ∷ []) (makes s (ByEnd (suc n))) (token (ByTurn n) (Chooses n) ∷ due) now inner (leads_itself (suc n))
        (comes_on root _ _ comes (asks c t el)) (turn_made (IfGoal c t el) p.begun p.ended' 1 at h))
        (λ d i then' is found. flows act d (numbered_goal a t ∷ goals) pairs js i good due then' (comes_on root _ _ comes (holds c t el d i is))
        (stands_with act (numbered_goal n (At l (IfGoal c t el)) ∷ goals) (numbered_goal a t ∷ goals) js good stands
        (record { begun = ByEnd (suc n) ∷ ByChoice n a ∷ []; ended' = Ends n a ∷ []; at = won; on = leads_up n l p.begun p.ended' (IfGoal c t el) next a (ByEnd (suc n) ∷ ByChoice n a ∷ []) t at p.on twice.0 refl won }, follow.1))
        (recast then' (to_effect (Begins a) (ByEnd (suc n) ∷ ByChoice n a ∷ [])) (uses s (Begins a)) due (sym (ap (to_effect (Begins a)) (begun_is s a (ByEnd (suc n) ∷ ByChoice n a ∷ []) (Ends n a ∷ []) t won)))
        (swap then' (token (ByChoice n a) (Begins a)) (token (ByEnd (suc n)) (Begins a)) due
        (falls n l p.begun p.ended' (IfGoal c t el) a (token (ByEnd (suc n)) (Begins a) ∷ due) then' at twice.0
        (swap then' (token (ByEnd (suc n)) (Begins a)) (token (ByTurn n) (Chooses n)) due
        (recast then' (makes s (ByEnd (suc n))) (token (ByEnd (suc n)) (Begins a) ∷ []) (token (ByTurn n) (Chooses n) ∷ due)
        (ap (of_cause (ByEnd (suc n))) (ended_is s (suc n) (ByTurn n ∷ []) (Begins a ∷ []) c inner)) found))))))
        (λ i then' is missed. flows act e (numbered_goal b el ∷ goals) pairs js i good due then' (comes_on root _ _ comes (fails c t el i is))
        (stands_with act (numbered_goal n (At l (IfGoal c t el)) ∷ goals) (numbered_goal b el ∷ goals) js good stands
        (record { begun = ByChoice n b ∷ []; ended' = Ends n b ∷ []; at = lost; on = leads_up n l p.begun p.ended' (IfGoal c t el) next b (ByChoice n b ∷ []) el at p.on twice.1 refl lost }, follow.1))
        (recast then' (to_effect (Begins b) (ByChoice n b ∷ [])) (uses s (Begins b)) due (sym (ap (to_effect (Begins b)) (begun_is s b (ByChoice n b ∷ []) (Ends n b ∷ []) el lost)))
        (falls n l p.begun p.ended' (IfGoal c t el) b due then' at twice.1 missed)))

    -- ---- conjunctions

    -- the parts of a conjunction, and then the goals after it; the last of all the parts has the number `final`
    parts_follow : (l' : ℕ) (b : List Cause) (d : List Effect) (all : HldsGoals) (next last : List Token) → IsAt s n b d (At l' (ConjGoal all)) → LeadsTo n next → (final : ℕ) → last_from n (suc n) all ≡ final
        → made (program_findings s) n final (ConjGoal all) ≡ ByEnd final ∷ [] → next ≡ next_of goals last → Follow goals last
        → (by : Cause) (before i : ℕ) (ps : HldsGoals) → last_from before i ps ≡ final → PartsAt s n by i ps → Follow (numbered_from i ps ++ goals) last
    parts_follow l' b d all next last at on final is by' same follow by before i nothing ends at' = follow
    parts_follow l' b d all next last at on final is by' same follow by before i (also q nothing) ends at' =
        let here' = part_at s n by i q nothing at' in
        let once : how_often i (vias n (ConjGoal all)) ≡ 1 = ap (λ (x : ℕ). how_often i (x ∷ [])) (is ∙ sym ends) ∙ once_alone i in
        let up : made (program_findings s) n i (ConjGoal all) ≡ ByEnd i ∷ [] = subst (λ (x : ℕ). made (program_findings s) n x (ConjGoal all) ≡ ByEnd x ∷ []) (sym ends) by' in
        (record { begun = by ∷ []; ended' = Ends n i ∷ []; at = here'; on = λ done' due' h'. subst (λ (ts : List Token). Due done' (ts ++ due')) same (leads_up n l' b d (ConjGoal all) next i (by ∷ []) q at on once up here' done' due' h') }, follow)
    parts_follow l' b d all next last at on final is by' same follow by before i (also q (also r rs)) ends at' =
        let here' = part_at s n by i q (also r rs) at' in
        let there = next_parts s n by i q (also r rs) at' in
        let begins = part_at s n (ByEnd i) (i + goal_size q) r rs there in (
          record {
            begun = by ∷ [];
            ended' = Begins (i + goal_size q) ∷ [];
            at = here';
            on = λ done' due' h'. recast done' (makes s (ByEnd i)) (uses s (Begins (i + goal_size q))) due'
                (ap (of_cause (ByEnd i)) (ended_is s i (by ∷ []) (Begins (i + goal_size q) ∷ []) q here') ∙ sym (ap (to_effect (Begins (i + goal_size q))) (begun_is s (i + goal_size q) (ByEnd i ∷ []) _ r begins))) h';
          },
          parts_follow l' b d all next last at on final is by' same follow (ByEnd i) i (i + goal_size q) (also r rs) ends there,
        )

    conjunction_flows : (ps : HldsGoals) → Here (ConjGoal ps) → Stands act (numbered_goal n (At l (ConjGoal ps)) ∷ goals) js good → Due done (uses s (Begins n) ++ due)
        → Flows good due (unfold_expr s (λ f js k. trace s m f js k) (frame (ConjGoal ps)) n goals js k (ConjGoal ps)) k done
    conjunction_flows nothing comes stands h =
        let follow = stands_follow act (numbered_goal n (At l (ConjGoal nothing)) ∷ goals) js good stands in
        let p = follow.0 in
        let at = p.at in
        let now : Items = Turn act (Some n) 1 ∷ done in
        flows act e goals pairs js k good due now (comes_on root _ _ comes (parts nothing))
        (stands_with act (numbered_goal n (At l (ConjGoal nothing)) ∷ goals) goals js good stands follow.1)
        (ends_alone n l p.begun p.ended' (ConjGoal nothing) (next_of goals (last_of act js good)) due now at p.on refl
        (recast now (token (ByTurn n) (Ends n n) ∷ []) (uses s (Ends n n)) due (sym (ap (to_effect (Ends n n)) (made_is s n n l p.begun p.ended' (ConjGoal nothing) at))) (turn_made (ConjGoal nothing) p.begun p.ended' 1 at h)))
    conjunction_flows (also q qs) comes stands h =
        let follow = stands_follow act (numbered_goal n (At l (ConjGoal (also q qs))) ∷ goals) js good stands in
        let p = follow.0 in
        let at = p.at in
        let now : Items = Turn act (Some n) 1 ∷ done in
        let there = parts_at s n l p.begun p.ended' (also q qs) at in
        let begins = part_at s n (ByTurn n) (suc n) q qs there in
        let last : List Token = last_of act js good in
        flows act e (numbered_from (suc n) (also q qs) ++ goals) pairs js k good due now (comes_on root _ _ comes (parts (also q qs)))
        (stands_with act (numbered_goal n (At l (ConjGoal (also q qs))) ∷ goals) (numbered_from (suc n) (also q qs) ++ goals) js good stands
        (parts_follow l p.begun p.ended' (also q qs) (next_of goals last) last at p.on (last_from n (suc n) (also q qs)) refl refl refl follow.1 (ByTurn n) n (suc n) (also q qs) refl there))
        (recast now (token (ByTurn n) (Begins (suc n)) ∷ []) (uses s (Begins (suc n))) due
        (sym (ap (to_effect (Begins (suc n))) (begun_is s (suc n) (ByTurn n ∷ []) _ q begins))) (turn_made (ConjGoal (also q qs)) p.begun p.ended' 1 at h))

    -- ---- disjunctions

    -- what is due as the arms from here on begin
    abbrev first_due : How → ℕ → HldsGoals → List Token
    first_due AtOnce i nothing = []
    first_due AtOnce i (also q qs) = token (ByTurn n) (Begins i) ∷ []
    first_due Later i ps = []
    first_due Chosen i ps = []

    -- an arm that begins
    arm_flows : (all : HldsGoals) → Here (DisjGoal all) → Stands act (numbered_goal n (At l (DisjGoal all)) ∷ goals) js good
        → (q : Numbered) (b : List Cause) → IsAt s q.number b (Ends n q.number ∷ []) q.goal → how_often q.number (numbers_from (suc n) all) ≡ 1
        → (i : ℕ) (then' : Items) → Unfolds s m (frame (DisjGoal all)) n goals js k (DisjGoal all) (job m (with act e (q ∷ goals) pairs) js i)
        → Due then' (to_effect (Begins q.number) b ++ due) → Flows good due (trace s m (with act e (q ∷ goals) pairs) js i) i then'
    arm_flows all comes stands q b at' once i then' way' h =
        let follow = stands_follow act (numbered_goal n (At l (DisjGoal all)) ∷ goals) js good stands in
        let p = follow.0 in
        let next : List Token = next_of goals (last_of act js good) in
        flows act e (q ∷ goals) pairs js i good due then' (comes_on root _ _ comes way')
        (stands_with act (numbered_goal n (At l (DisjGoal all)) ∷ goals) (q ∷ goals) js good stands
        (record { begun = b; ended' = Ends n q.number ∷ []; at = at'; on = leads_up n l p.begun p.ended' (DisjGoal all) next q.number b q.goal p.at p.on once refl at' }, follow.1))
        (recast then' (to_effect (Begins q.number) b) (uses s (Begins q.number)) due (sym (ap (to_effect (Begins q.number)) (begun_is s q.number b (Ends n q.number ∷ []) q.goal at'))) h)

    -- the numbers of these arms are numbers of the disjunction's
    abbrev Among : HldsGoals → ℕ → HldsGoals → Type 0
    Among all i ps = (j : ℕ) → how_often j (numbers_from i ps) ≡ 1 → how_often j (numbers_from (suc n) all) ≡ 1

    among_later : (all : HldsGoals) (i : ℕ) (q : HldsGoal) (qs : HldsGoals) → Among all i (also q qs) → Among all (i + goal_size q) qs
    among_later all i q qs among j once = among j (later_once (nat_eq i j) refl)
      where
        later_once : (x : Bool) → nat_eq i j ≡ x → how_often j (numbers_from i (also q qs)) ≡ 1
        later_once true is =
            let same : i ≡ j = eqb-true i j is in
            let positive = size_positive q in
            let none : how_often j (numbers_from (i + goal_size q) qs) ≡ 0 = none_below j (i + goal_size q) qs (omega (arith, positive, same)) in
            absurd (omega (arith, once, none))
        later_once false is = rw (is, once) refl

    -- all arms, one after the other
    arms_flow : (all : HldsGoals) → Here (DisjGoal all) → Stands act (numbered_goal n (At l (DisjGoal all)) ∷ goals) js good
        → (how : How) → (how ≡ Chosen → ⊥) → (i : ℕ) (ps : HldsGoals) → ArmsAt s n how i ps → Among all i ps → (h : ℕ) (then' : Items)
        → ((q : Numbered) (j : ℕ) → Tries s m (frame (DisjGoal all)) goals js (numbered_from i ps) h q j → Unfolds s m (frame (DisjGoal all)) n goals js k (DisjGoal all) (job m (with act e (q ∷ goals) pairs) js j))
        → Due then' (first_due how i ps ++ due) → Flows good due (arms (λ f js k. trace s m f js k) (frame (DisjGoal all)) goals js h (numbered_from i ps)) h then'
    arms_flow all comes stands AtOnce never i nothing at' among h then' way' d = d
    arms_flow all comes stands Later never i nothing at' among h then' way' d = d
    arms_flow all comes stands Chosen never i ps at' among h then' way' d = absurd (never refl)
    arms_flow all comes stands AtOnce never i (also q qs) at' among h then' way' d =
        leads_joined acts _ _ _ (λ j. arms (λ f js k. trace s m f js k) (frame (DisjGoal all)) goals js j (numbered_from (i + goal_size q) qs)) (trace s m (with act e (numbered_goal i q ∷ goals) pairs) js h) h then'
        (arm_flows all comes stands (numbered_goal i q) (ByTurn n ∷ []) (arm_at s n AtOnce i q qs at') (among i (once_first i q qs)) h then' (way' (numbered_goal i q) h (at_once (numbered_goal i q) (numbered_from (i + goal_size q) qs) h)) d)
        (λ j later' is over. arms_flow all comes stands Later (λ x. cc x) (i + goal_size q) qs (next_arms s n AtOnce i q qs at') (among_later all i q qs among) j later'
        (λ r o t. way' r o (way.later (numbered_goal i q) (numbered_from (i + goal_size q) qs) h j r o (ended_of (trace s m (with act e (numbered_goal i q ∷ goals) pairs) js h) h j is) t)) over)
    arms_flow all comes stands Later never i (also q qs) at' among h then' way' d =
        leads_joined acts _ _ _ (λ j. arms (λ f js k. trace s m f js k) (frame (DisjGoal all)) goals js j (numbered_from (i + goal_size q) qs)) (trace s m (with act e (numbered_goal i q ∷ goals) pairs) js h) h then'
        (arm_flows all comes stands (numbered_goal i q) [] (arm_at s n Later i q qs at') (among i (once_first i q qs)) h then' (way' (numbered_goal i q) h (at_once (numbered_goal i q) (numbered_from (i + goal_size q) qs) h)) d)
        (λ j later' is over. arms_flow all comes stands Later (λ x. cc x) (i + goal_size q) qs (next_arms s n Later i q qs at') (among_later all i q qs among) j later'
        (λ r o t. way' r o (way.later (numbered_goal i q) (numbered_from (i + goal_size q) qs) h j r o (ended_of (trace s m (with act e (numbered_goal i q ∷ goals) pairs) js h) h j is) t)) over)

    -- ---- switches

    record ArmFound (how : How) (i : ℕ) (ps : HldsGoals) (q : Numbered) : Type 0 where
      at : IsAt s q.number (arm_begun n q.number how) (Ends n q.number ∷ []) q.goal
      once : how_often q.number (numbers_from i ps) ≡ 1
      after : i ≤ q.number

    found_first : (how : How) (i : ℕ) (p : HldsGoal) (ps : HldsGoals) → ArmsAt s n how i (also p ps) → ArmFound how i (also p ps) (numbered_goal i p)
    found_first how i p ps at' = record { at = arm_at s n how i p ps at'; once = once_first i p ps; after = omega arith }

    found_later : (how : How) (i : ℕ) (p : HldsGoal) (ps : HldsGoals) (q : Numbered) → ArmFound how (i + goal_size p) ps q → ArmFound how i (also p ps) q
    found_later how i p ps q h =
        let positive = size_positive p in
        let more = h.after in
        record { at = h.at; once = once_later q.number i p ps (omega (arith, positive, more)) h.once; after = omega (arith, more) }

    found_step : (how : How) (i : ℕ) (p : HldsGoal) (ps : HldsGoals) (q : Numbered) (x : Bool) (o : Option Numbered) → cond x (Some (numbered_goal i p)) o ≡ Some q
        → ArmFound how i (also p ps) (numbered_goal i p) → (o ≡ Some q → ArmFound how i (also p ps) q) → ArmFound how i (also p ps) q
    found_step how i p ps q true o is here' later' = let same : numbered_goal i p ≡ q = cc is in subst (λ (r : Numbered). ArmFound how i (also p ps) r) same here'
    found_step how i p ps q false o is here' later' = later' is

    arm_found : (how : How) → spots.later how ≡ how → (v : Value) (keys : List Key) (i : ℕ) (ps : HldsGoals) (q : Numbered) → arm_for v keys (numbered_from i ps) ≡ Some q → ArmsAt s n how i ps → ArmFound how i ps q
    arm_found how steady v [] i ps q is at' = absurd (cc is)
    arm_found how steady v (key ∷ keys) i nothing q is at' = absurd (cc is)
    arm_found how steady v (key ∷ keys) i (also p ps) q is at' =
        found_step how i p ps q (has_the_key v key) (arm_for v keys (numbered_from (i + goal_size p) ps)) is (found_first how i p ps at')
        (λ more. found_later how i p ps q (arm_found how steady v keys (i + goal_size p) ps q more
        (subst (λ (x : How). ArmsAt s n x (i + goal_size p) ps) steady (next_arms s n how i p ps at'))))

    -- the arm that the switch takes
    abbrev whole_how : Bool → How
    whole_how w = how_of_whole w

    steady_of : (w : Bool) → spots.later (how_of_whole w) ≡ how_of_whole w
    steady_of true = refl
    steady_of false = refl

    -- what is due as the arm q begins, once the choice of a whole switch has fallen on it
    chosen_due : (all : HldsGoals) (b : List Cause) (d : List Effect) → IsAt s n b d (At l (DisjGoal all)) → (w : Bool) (q : ℕ) → how_often q (numbers_from (suc n) all) ≡ 1 → (then' : Items)
        → Due then' (of_cause (ByTurn n) (arms_turned n all (how_of_whole w)) ++ due) → Due then' (to_effect (Begins q) (arm_begun n q (how_of_whole w)) ++ due)
    chosen_due all b d at' true q once then' h = falls n l b d (DisjGoal all) q due then' at' once (whole_due all then' h)
      where
        whole_due : (all : HldsGoals) (then' : Items) → Due then' (of_cause (ByTurn n) (arms_turned n all Chosen) ++ due) → Due then' (token (ByTurn n) (Chooses n) ∷ due)
        whole_due nothing then' h = h
        whole_due (also p ps) then' h = h
    chosen_due all b d at' false q once then' h = part_due all then' h
      where
        part_due : (all : HldsGoals) (then' : Items) → Due then' (of_cause (ByTurn n) (arms_turned n all Later) ++ due) → Due then' due
        part_due nothing then' h = h
        part_due (also p ps) then' h = h

    one_arm_flows : (all : HldsGoals) → Here (DisjGoal all) → Stands act (numbered_goal n (At l (DisjGoal all)) ∷ goals) js good → (x : ℕ × List Key) (v : Value) → switch_shape s all ≡ Some x → value_at e x.0 ≡ Some v
        → switch_at (program_findings s) n ≡ Some (record { var = x.0; whole = is_whole s x.1 }) → (o : Option Numbered) → arm_for v x.1 (numbered_from (suc n) all) ≡ o
        → Due done (uses s (Begins n) ++ due) → Flows good due (one_arm (λ f js k. trace s m f js k) (frame (DisjGoal all)) goals js k o) k (Turn act (Some n) 1 ∷ done)
    one_arm_flows all comes stands x v shape value found None is h = none_due (is_whole s x.1) refl all refl
      where
        none_due : (w : Bool) → is_whole s x.1 ≡ w → (ps : HldsGoals) → all ≡ ps → Due (Turn act (Some n) 1 ∷ done) due
        none_due true whole ps same = absurd (takes_an_arm bytes s spells modes e n l all goals (fits _ comes) x v shape value whole is)
        none_due false whole ps same =
            let p = (stands_follow act (numbered_goal n (At l (DisjGoal all)) ∷ goals) js good stands).0 in
            let now : Items = Turn act (Some n) 1 ∷ done in
            recast now (of_cause (ByTurn n) (arms_turned n all (how_of (switch_at (program_findings s) n)))) [] due
            (ap (λ (y : Option Switch). of_cause (ByTurn n) (arms_turned n all (how_of y))) found ∙ (ap (λ (y : Bool). of_cause (ByTurn n) (arms_turned n all (how_of_whole y))) whole ∙ later_none all))
            (turn_made (DisjGoal all) p.begun p.ended' 1 p.at h)
          where
            later_none : (ps : HldsGoals) → of_cause (ByTurn n) (arms_turned n ps Later) ≡ []
            later_none nothing = refl
            later_none (also q qs) = refl
    one_arm_flows all comes stands x v shape value found (Some q) is h =
        let p = (stands_follow act (numbered_goal n (At l (DisjGoal all)) ∷ goals) js good stands).0 in
        let now : Items = Turn act (Some n) 1 ∷ done in
        let w : Bool = is_whole s x.1 in
        let there : ArmsAt s n (how_of_whole w) (suc n) all = subst (λ (y : Option Switch). ArmsAt s n (how_of y) (suc n) all) found (arms_at s n l p.begun p.ended' all p.at) in
        let arm : ArmFound (how_of_whole w) (suc n) all q = arm_found (how_of_whole w) (steady_of w) v x.1 (suc n) all q is there in
        arm_flows all comes stands q (arm_begun n q.number (how_of_whole w)) arm.at arm.once k now (switches all x v q shape value is)
        (chosen_due all p.begun p.ended' p.at w q.number arm.once now
        (recast now (of_cause (ByTurn n) (arms_turned n all (how_of (switch_at (program_findings s) n)))) (of_cause (ByTurn n) (arms_turned n all (how_of_whole w))) due
        (ap (λ (y : Option Switch). of_cause (ByTurn n) (arms_turned n all (how_of y))) found) (turn_made (DisjGoal all) p.begun p.ended' 1 p.at h)))

    tries_flows : (all : HldsGoals) → Here (DisjGoal all) → Stands act (numbered_goal n (At l (DisjGoal all)) ∷ goals) js good → switch_value (switch_shape s all) e ≡ None
        → Due done (uses s (Begins n) ++ due) → Flows good due (arms (λ f js k. trace s m f js k) (frame (DisjGoal all)) goals js k (numbered_from (suc n) all)) k (Turn act (Some n) 1 ∷ done)
    tries_flows all comes stands none h =
        let p = (stands_follow act (numbered_goal n (At l (DisjGoal all)) ∷ goals) js good stands).0 in
        let now : Items = Turn act (Some n) 1 ∷ done in
        let found = no_switch s e n l all goals (fits _ comes) none in
        arms_flow all comes stands AtOnce (λ x. cc x) (suc n) all (subst (λ (y : Option Switch). ArmsAt s n (how_of y) (suc n) all) found (arms_at s n l p.begun p.ended' all p.at)) (λ j once. once) k now
        (λ q j t. tries all q j none t)
        (recast now (of_cause (ByTurn n) (arms_turned n all (how_of (switch_at (program_findings s) n)))) (first_due AtOnce (suc n) all) due
        (ap (λ (y : Option Switch). of_cause (ByTurn n) (arms_turned n all (how_of y))) found ∙ at_once_due all) (turn_made (DisjGoal all) p.begun p.ended' 1 p.at h))
      where
        at_once_due : (ps : HldsGoals) → of_cause (ByTurn n) (arms_turned n ps AtOnce) ≡ first_due AtOnce (suc n) ps
        at_once_due nothing = refl
        at_once_due (also q qs) = refl

    switched_flows : (all : HldsGoals) → Here (DisjGoal all) → Stands act (numbered_goal n (At l (DisjGoal all)) ∷ goals) js good → (x : ℕ × List Key) (o : Option Value) → switch_shape s all ≡ Some x → value_at e x.0 ≡ o
        → Due done (uses s (Begins n) ++ due) → Flows good due (switched (λ f js k. trace s m f js k) (frame (DisjGoal all)) goals js k (numbered_from (suc n) all) x.1 o) k (Turn act (Some n) 1 ∷ done)
    switched_flows all comes stands x None shape value h = tries_flows all comes stands (ap (λ (c : Option (ℕ × List Key)). switch_value c e) shape ∙ value) h
    switched_flows all comes stands x (Some v) shape value h =
        one_arm_flows all comes stands x v shape value (a_switch s e n l all goals (fits _ comes) x v shape value) (arm_for v x.1 (numbered_from (suc n) all)) refl h

    disjunction_flows : (all : HldsGoals) → Here (DisjGoal all) → Stands act (numbered_goal n (At l (DisjGoal all)) ∷ goals) js good → (o : Option (ℕ × List Key)) → switch_shape s all ≡ o
        → Due done (uses s (Begins n) ++ due) → Flows good due (disjunction (λ f js k. trace s m f js k) (frame (DisjGoal all)) goals js k (numbered_from (suc n) all) o) k (Turn act (Some n) 1 ∷ done)
    disjunction_flows all comes stands None shape h = tries_flows all comes stands (ap (λ (c : Option (ℕ × List Key)). switch_value c e) shape) h
    disjunction_flows all comes stands (Some x) shape h = switched_flows all comes stands x (value_at e x.0) shape refl h

    -- ---- calls

    -- the goal is a call at this site
    record IsCallAt (x : ℕ) (t : GoalExpr) : Type 0 where
      calls_it : turned (program_findings s) n t ≡ CallsAt x ∷ []
      made_by : made (program_findings s) n n t ≡ ByExit x ∷ []
      via : vias n t ≡ n ∷ []
      site : is_at_site x t ≡ true

    abbrev activation : ℕ → ℕ → Activation
    activation x q = record { parent = Some act; site = Some x; procedure = q }

    -- the exit of the call leads to the end of its goal
    exit_same : (t : GoalExpr) (b : List Cause) (d : List Effect) (x q : ℕ) → IsAt s n b d (At l t) → IsCallAt x t → numbered acts k ≡ Some (activation x q) → exit_makes s (numbered acts k) ≡ uses s (Ends n n)
    exit_same t b d x q at' call is =
        let here' : goal_of_site s x ≡ n = sited n l b d t x at' call.site in
        ap (exit_makes s) is
        ∙ (ap (of_cause (ByExit x)) (by_exit_is s x ∙ ap (λ (y : ℕ). Ends y y ∷ []) here')
        ∙ sym (ap (to_effect (Ends n n)) (made_is s n n l b d t at' ∙ call.made_by)))

    -- the call leads to the body's beginning
    call_made : (t : GoalExpr) (b : List Cause) (d : List Effect) (x w : ℕ) (q : ℕ × Procedure) → IsAt s n b d (At l t) → IsCallAt x t → slice_get s.procedures q.0 ≡ Some q.1 → Due done (uses s (Begins n) ++ due)
        → Due (Call k (Some act) (Some x) q.0 ∷ Turn act (Some n) w ∷ done) (uses s (Begins (body_number s q.0)) ++ due)
    call_made t b d x w q at' call is h =
        let here' : goal_of_site s x ≡ n = sited n l b d t x at' call.site in
        let now : Items = Turn act (Some n) w ∷ done in
        let body : ℕ = body_number s q.0 in
        recast (Call k (Some act) (Some x) q.0 ∷ now) (makes s (ByCall q.0)) (uses s (Begins body)) due
        (ap (of_cause (ByCall q.0)) (by_call_is s q.0) ∙ sym (ap (to_effect (Begins body)) (begun_is s body (ByCall q.0 ∷ []) (ExitsOf q.0 ∷ []) q.1.body (body_at s q is))))
        (awaits_item s acts now (Call k (Some act) (Some x) q.0) due
        (recast now (of_cause (ByTurn n) (turned (program_findings s) n t)) (uses s (CallsAt x)) due
        (ap (of_cause (ByTurn n)) call.calls_it ∙ sym (ap (to_effect (CallsAt x)) (calls_at_is s x ∙ ap (λ (y : ℕ). ByTurn y ∷ []) here')))
        (turn_made t b d w at' h)))

    -- the body leads to the call's exit
    body_follows : (q : ℕ × Procedure) (x : ℕ) → slice_get s.procedures q.0 ≡ Some q.1 → numbered acts k ≡ Some (activation x q.0) → Follow (numbered_goal (body_number s q.0) q.1.body ∷ []) (exit_uses s (numbered acts k))
    body_follows q x is act' =
        let body : ℕ = body_number s q.0 in
        let at' = body_at s q is in (
          record {
            begun = ByCall q.0 ∷ [];
            ended' = ExitsOf q.0 ∷ [];
            at = at';
            on = λ done' due' h'. recast done' (makes s (ByEnd body)) (exit_uses s (numbered acts k)) due'
                (ap (of_cause (ByEnd body)) (ended_is s body (ByCall q.0 ∷ []) (ExitsOf q.0 ∷ []) q.1.body at') ∙ sym (ap (exit_uses s) act' ∙ ap (to_effect (ExitsOf q.0)) (exits_of_is s q.0))) h';
          },
          tt,
        )

    -- how the jobs of a call are come to
    abbrev WayOn : GoalExpr → ℕ × Procedure → List Value → List ℕ → Type 0
    WayOn t q vs ys = (j : Job) → Calls s m (frame t) goals js k q vs ys j → Unfolds s m (frame t) n goals js k t j

    cut_flows : (t : GoalExpr) (x w : ℕ) (q : ℕ × Procedure) (vs : List Value) (ys : List ℕ) → Here t → Stands act (numbered_goal n (At l t) ∷ goals) js good → IsCallAt x t → slice_get s.procedures q.0 ≡ Some q.1 → WayOn t q vs ys
        → is_cut q.1.det ≡ true → numbered acts k ≡ Some (activation x q.0) → Due done (uses s (Begins n) ++ due)
        → Flows good due (run_body (λ f js k. trace s m f js k) det.Det (callee s (frame t) k q vs ys) (doing (frame t) goals) js k) (suc k) (Call k (Some act) (Some x) q.0 ∷ Turn act (Some n) w ∷ done)
    cut_flows t x w q vs ys comes stands call is way' cut' act' h =
        let follow = stands_follow act (numbered_goal n (At l t) ∷ goals) js good stands in
        let p = follow.0 in
        let now : Items = Call k (Some act) (Some x) q.0 ∷ Turn act (Some n) w ∷ done in
        let c : Frame = cut_off (callee s (frame t) k q vs ys) in
        leads_first acts _ _ _ _ (λ d i. Exit k ∷ trace s m (knowing (frame t) (back (pairs_of (without vs q.1.head) ys) d e) goals) js i) (λ i. Fail k ∷ []) (excps (doing (frame t) goals ∷ js)) (trace s m c [] (suc k)) (suc k) now
        (flows k c.env c.goals [] [] (suc k) (exit_uses s (numbered acts k)) due now (comes_on root _ _ comes (way' _ (begins_cut cut'))) (body_follows q x is act') (call_made t p.begun p.ended' x w q p.at call is h))
        (λ d i then' first' found. flows act (back (pairs_of (without vs q.1.head) ys) d e) goals pairs js i good due (Exit k ∷ then') (comes_on root _ _ comes (way' _ (has_exited d i cut' first')))
        (stands_with act (numbered_goal n (At l t) ∷ goals) goals js good stands follow.1)
        (ends_alone n l p.begun p.ended' t (next_of goals (last_of act js good)) due (Exit k ∷ then') p.at p.on call.via
        (recast (Exit k ∷ then') (exit_makes s (numbered acts k)) (uses s (Ends n n)) due (exit_same t p.begun p.ended' x q.0 p.at call act')
        (awaits_item s acts then' (Exit k) due found))))
        (λ i then' last' missed. awaits_item s acts then' (Fail k) due missed)

    whole_flows : (t : GoalExpr) (x w : ℕ) (q : ℕ × Procedure) (vs : List Value) (ys : List ℕ) → Here t → Stands act (numbered_goal n (At l t) ∷ goals) js good → IsCallAt x t → slice_get s.procedures q.0 ≡ Some q.1 → WayOn t q vs ys
        → is_cut q.1.det ≡ false → numbered acts k ≡ Some (activation x q.0) → Due done (uses s (Begins n) ++ due)
        → Flows good due (run_body (λ f js k. trace s m f js k) det.Multi (callee s (frame t) k q vs ys) (doing (frame t) goals) js k) (suc k) (Call k (Some act) (Some x) q.0 ∷ Turn act (Some n) w ∷ done)
    whole_flows t x w q vs ys comes stands call is way' cut' act' h =
        let follow = stands_follow act (numbered_goal n (At l t) ∷ goals) js good stands in
        let p = follow.0 in
        let now : Items = Call k (Some act) (Some x) q.0 ∷ Turn act (Some n) w ∷ done in
        let c : Frame = callee s (frame t) k q vs ys in
        leads_joined acts _ _ _ (λ i. Fail k ∷ []) (trace s m c (doing (frame t) goals ∷ js) (suc k)) (suc k) now
        (flows k c.env c.goals c.pairs (doing (frame t) goals ∷ js) (suc k) good due now (comes_on root _ _ comes (way' _ (begins_whole cut'))) (
          body_follows q x is act',
          (
            record {
              number = n;
              once = ap (how_often n) (vias_is s n l p.begun p.ended' t p.at ∙ call.via) ∙ once_alone n;
              same = exit_same t p.begun p.ended' x q.0 p.at call act';
              on = p.on;
            },
            stands_with act (numbered_goal n (At l t) ∷ goals) goals js good stands follow.1,
          ),
        )
        (call_made t p.begun p.ended' x w q p.at call is h))
        (λ i then' last' missed. awaits_item s acts then' (Fail k) due missed)

    body_flows : (t : GoalExpr) (x w : ℕ) (q : ℕ × Procedure) (vs : List Value) (ys : List ℕ) → Here t → Stands act (numbered_goal n (At l t) ∷ goals) js good → IsCallAt x t → slice_get s.procedures q.0 ≡ Some q.1 → WayOn t q vs ys
        → (d : Det) → q.1.det ≡ d → numbered acts k ≡ Some (activation x q.0) → Due done (uses s (Begins n) ++ due)
        → Flows good due (run_body (λ f js k. trace s m f js k) d (callee s (frame t) k q vs ys) (doing (frame t) goals) js k) (suc k) (Call k (Some act) (Some x) q.0 ∷ Turn act (Some n) w ∷ done)
    body_flows t x w q vs ys comes stands call is way' det.Det same act' h = cut_flows t x w q vs ys comes stands call is way' (ap is_cut same) act' h
    body_flows t x w q vs ys comes stands call is way' det.Semidet same act' h = cut_flows t x w q vs ys comes stands call is way' (ap is_cut same) act' h
    body_flows t x w q vs ys comes stands call is way' det.Failure same act' h = cut_flows t x w q vs ys comes stands call is way' (ap is_cut same) act' h
    body_flows t x w q vs ys comes stands call is way' det.Multi same act' h = whole_flows t x w q vs ys comes stands call is way' (ap is_cut same) act' h
    body_flows t x w q vs ys comes stands call is way' det.Nondet same act' h = whole_flows t x w q vs ys comes stands call is way' (ap is_cut same) act' h

    call_flows : (t : GoalExpr) (x : ℕ) (q : ℕ × Procedure) (vs : List Value) (ys : List ℕ) → Here t → Stands act (numbered_goal n (At l t) ∷ goals) js good → IsCallAt x t → slice_get s.procedures q.0 ≡ Some q.1
        → (right : Bool) → nat_eq (length vs + length ys) (length q.1.head) ≡ right → (length vs + length ys ≡ length q.1.head → WayOn t q vs ys) → Due done (uses s (Begins n) ++ due)
        → Flows good due (call_if s (λ f js k. trace s m f js k) (frame t) n goals js k x q vs ys right) k done
    call_flows t x q vs ys comes stands call is true right way' h = λ act'. body_flows t x (call_weight q.1) q vs ys comes stands call is (way' (eqb-true (length vs + length ys) (length q.1.head) right)) q.1.det refl act' h
    call_flows t x q vs ys comes stands call is false right way' h = tt

    name_flows : (x : ℕ) (name : _) (ys : List ℕ) → Here (CallGoal x name ys) → Stands act (numbered_goal n (At l (CallGoal x name ys)) ∷ goals) js good → (o : Option (ℕ × Procedure)) → procedure_called s name ≡ o → Due done (uses s (Begins n) ++ due)
        → Flows good due (invoked s (λ f js k. trace s m f js k) (frame (CallGoal x name ys)) n goals js k x o [] ys) k done
    name_flows x name ys comes stands None called h = tt
    name_flows x name ys comes stands (Some q) called h =
        call_flows (CallGoal x name ys) x q [] ys comes stands (record { calls_it = refl; made_by = refl; via = refl; site = same_number x }) (found_by_name s name q called) (nat_eq (length {A = Value} [] + length ys) (length q.1.head)) refl
        (λ size j c. calls x name ys q j called (omega (arith, size)) c) h

    closure_flows : (x f : ℕ) (ys : List ℕ) (c : ℕ) (held : Values) → Here (HoCallGoal x f ys) → Stands act (numbered_goal n (At l (HoCallGoal x f ys)) ∷ goals) js good → value_at e f ≡ Some (Closure c held)
        → (o : Option (ℕ × Procedure)) → nth_procedure s c ≡ o → Due done (uses s (Begins n) ++ due)
        → Flows good due (invoked s (λ f js k. trace s m f js k) (frame (HoCallGoal x f ys)) n goals js k x o (listed_values held) ys) k done
    closure_flows x f ys c held comes stands value None called h = tt
    closure_flows x f ys c held comes stands value (Some q) called h =
        call_flows (HoCallGoal x f ys) x q (listed_values held) ys comes stands (record { calls_it = refl; made_by = refl; via = refl; site = same_number x }) (found_by_number s c q called) (nat_eq (length (listed_values held) + length ys) (length q.1.head)) refl
        (λ size j d. applies x f ys c held q j value called size d) h

    applied_flows : (x f : ℕ) (ys : List ℕ) → Here (HoCallGoal x f ys) → Stands act (numbered_goal n (At l (HoCallGoal x f ys)) ∷ goals) js good → (o : Option Value) → value_at e f ≡ o → Due done (uses s (Begins n) ++ due)
        → Flows good due (applied s (λ f js k. trace s m f js k) (frame (HoCallGoal x f ys)) n goals js k x ys o) k done
    applied_flows x f ys comes stands None value h = tt
    applied_flows x f ys comes stands (Some (Number i)) value h = tt
    applied_flows x f ys comes stands (Some (Literal i)) value h = tt
    applied_flows x f ys comes stands (Some (Built g vs)) value h = tt
    applied_flows x f ys comes stands (Some (Closure c held)) value h = closure_flows x f ys c held comes stands value (nth_procedure s c) refl h

    -- ---- any goal

    goal_flows : (t : GoalExpr) → Here t → Stands act (numbered_goal n (At l t) ∷ goals) js good → Due done (uses s (Begins n) ++ due)
        → Flows good due (unfold_expr s (λ f js k. trace s m f js k) (frame t) n goals js k t) k done
    goal_flows (SimpleGoal g) comes stands h = simple_flows g (simple s e g) comes stands refl h
    goal_flows (CallGoal x name ys) comes stands h = name_flows x name ys comes stands (procedure_called s name) refl h
    goal_flows (HoCallGoal x f ys) comes stands h = applied_flows x f ys comes stands (value_at e f) refl h
    goal_flows (ConjGoal ps) comes stands h = conjunction_flows ps comes stands h
    goal_flows (DisjGoal ps) comes stands h = disjunction_flows ps comes stands (switch_shape s ps) refl h
    goal_flows (IfGoal c t el) comes stands h = if_flows c t el comes stands h
    goal_flows (NotGoal c) comes stands h = not_flows c comes stands h
    goal_flows (SomeGoal vs c) comes stands h = some_flows vs c comes stands h

  -- ---- a job

  numbered_flows : (m : ℕ) → AllFlow m → (act : ℕ) (e : Env) (n : ℕ) (g : HldsGoal) (goals : List Numbered) (pairs : List (ℕ × ℕ)) (js : List Frame) (k : ℕ) (good due : List Token) (done : Items)
      → Comes s root (job (suc m) (with act e (numbered_goal n g ∷ goals) pairs) js k) → Stands act (numbered_goal n g ∷ goals) js good → Due done (uses s (Begins n) ++ due)
      → Flows good due (unfold_goal s (λ f js k. trace s m f js k) (with act e (numbered_goal n g ∷ goals) pairs) n goals js k g) k done
  numbered_flows m flows act e n (At l t) goals pairs js k good due done comes stands h = goal_flows m flows act e n l goals pairs js k good due done t comes stands h

  abbrev Rule : Type 0
  Rule = Frame → Numbered → List Numbered → List Frame → ℕ → Items

  returns_flow : (m : ℕ) (rule : Rule)
      → ((act : ℕ) (e : Env) (g : Numbered) (goals : List Numbered) (pairs : List (ℕ × ℕ)) (js : List Frame) (k : ℕ) (good due : List Token) (done : Items)
      → Comes s root (job m (with act e (g ∷ goals) pairs) js k) → Stands act (g ∷ goals) js good → Due done (uses s (Begins g.number) ++ due) → Flows good due (rule (with act e (g ∷ goals) pairs) g goals js k) k done)
      → (js : List Frame) (act : ℕ) (e : Env) (goals : List Numbered) (pairs : List (ℕ × ℕ)) (k : ℕ) (good due : List Token) (done : Items)
      → Comes s root (job m (with act e goals pairs) js k) → Stands act goals js good → Due done (next_of goals (last_of act js good) ++ due)
      → Flows good due (returns rule js (with act e goals pairs) goals k) k done
  returns_flow m rule inner js act e (g ∷ goals) pairs k good due done comes stands h = inner act e g goals pairs js k good due done comes stands h
  returns_flow m rule inner [] act e [] pairs k good due done comes stands h = h
  returns_flow m rule inner (c ∷ js) act e [] pairs k good due done comes stands h =
      let r = stands.1.0 in
      leads_joined acts _ _ _ (λ i. Redo act ∷ []) (returns rule js (knowing c (back pairs e c.env) c.goals) c.goals k) k (Exit act ∷ done)
      (returns_flow m rule inner js c.act (back pairs e c.env) c.goals c.pairs k good due (Exit act ∷ done) (comes_on root _ _ comes refl) stands.1.1
      (r.on (Exit act ∷ done) due (awaits_mark s acts (Exit act ∷ done) (Ended r.number r.number r.once) due
      (recast (Exit act ∷ done) (exit_makes s (numbered acts act)) (uses s (Ends r.number r.number)) due r.same
      (awaits_item s acts done (Exit act) due h)))))
      (λ i then' is over. awaits_item s acts then' (Redo act) due over)

  pub trace_flows : (m : ℕ) → AllFlow m
  trace_flows zero act e goals pairs js k good due done comes stands h =
      returns_flow zero (λ f g goals js k. item.Deep ∷ []) (λ act e g goals pairs js k good due done comes stands h. tt) js act e goals pairs k good due done comes stands h
  trace_flows (suc m) act e goals pairs js k good due done comes stands h =
      returns_flow (suc m) (λ f g goals js k. unfold_goal s (λ f js k. trace s m f js k) f g.number goals js k g.goal)
      (λ act e g goals pairs js k good due done comes stands h. numbered_flows m (trace_flows m) act e g.number g.goal goals pairs js k good due done comes stands h)
      js act e goals pairs k good due done comes stands h

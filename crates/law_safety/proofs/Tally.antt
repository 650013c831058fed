-- A goal that the checks accept has as many answers as its pair says. The same induction as that no trace is stuck, with
-- a pair in place of what the answers are: what the job does after the goal meets a pair.
use Rattle.std.proofs.Common.{◌≡◌, refl, sym, ap, ◌∙◌, subst, inl, inr, arith, ℕ, zero, suc, ◌+◌, ◌<◌, ◌≤◌, Bool, true, false, not, ◌||◌, cond, nat_eq, List, [], ◌∷◌, ◌++◌, length, Option, Some, None, Ok, slice_get}
use Rattle.std.proofs.lemmas.Bool.{cases_lt, eq-eqb, eqb-true, and_parts, true≢false, false≢true}
use Rattle.std.specs.Prelude.{⊤}
use Rattle.md_hlds.specs.declared.types.Mode.{Mode}
use Rattle.md_hlds.specs.declared.types.Det.{Det}
use Rattle.md_hlds.specs.declared.types.Det.TheVariants as det
use Rattle.md_hlds.specs.declared.goal.PredName.{PredName}
use Rattle.md_hlds.specs.HldsGoal.{HldsGoal, At, GoalExpr, SimpleGoal, CallGoal, HoCallGoal, ConjGoal, DisjGoal, IfGoal, NotGoal, SomeGoal, HldsGoals, nothing, also, goal_size, Numbered, numbered_goal, numbered_from}
use Rattle.md_hlds.specs.Hlds.{HldsType, Procedure, Hlds, procedure_called, nth_procedure, numbered, body_number}
use Rattle.md_hlds.specs.Hlds as hlds
use Rattle.md_hlds.specs.Value.{Value, Values, no_values, listed_values, Env, value_at}
use Rattle.md_hlds.specs.Simple as run
use Rattle.md_hlds.specs.Simple.{Outcome, Go, No, Throws, Stop}
use Rattle.md_hlds.specs.Switch.{Key, keys_of, switch_shape, arm_for, has_the_key}
use Rattle.md_hlds.specs.Trace.{Turn, Call, Exit, Redo, Fail, Answer, Items, Frame, Does, joined, first, excps, back, pairs_of, without, doing, knowing, allocated, written, after_simple, one_arm, switched, disjunction, body_frame, run_body, entered, invoked, applied, unfold_expr, trace}
use Rattle.md_hlds.specs.Trace as item
use Rattle.md_inst.specs.declared.fault.ModeFault.TheVariants.{Arity, IoUsed}
use Rattle.md_inst.specs.Instantiation.{Instantiation, free, has, InstMap, known_at, times}
use Rattle.md_inst.specs.Named.{predicate_called}
use Rattle.md_inst.specs.Arguments.{arguments}
use Rattle.md_inst.specs.Simple as rules
use Rattle.md_inst.specs.Simple.{goes_on, call_checked, apply_sort, apply_known, atomic}
use Rattle.md_inst.specs.Arguments.{is_spent}
use Rattle.md_modes.specs.Branches as branch
use Rattle.md_modes.specs.Branches.{After, after, outside}
use Rattle.md_modes.specs.Goals.{Scope, variables, expr_variables, parts_variables, simple_variables, clause_variables, goal, expr, each, arms}
use Rattle.md_modes.specs.Modes.{entry, end, scope_of}
use Rattle.md_modes.specs.Notes.{known_after}
use Rattle.md_modes.proofs.Counts.{times-append}
use Rattle.md_det.specs.declared.pair.Bound.TheVariants.{Zero, One}
use Rattle.md_det.specs.declared.pair.Pair.{Pair}
use Rattle.md_det.specs.Bounds.{product, exceeds}
use Rattle.md_det.specs.Pairs.{pair, pair_of, in_turn, one_of_two, cut, all_alternatives, one_of_all, with_missing, allows}
use Rattle.md_det.specs.Switches.{is_whole, switch_on_known, switch_with, variable_of}
use Rattle.md_det.specs.Determinism.{unsure, simple_pair, call_pair, sort_pair, apply_pair, disjunction_pair, goal_pair, expr_pair, each_pair, arm_pairs}
use Rattle.md_det.specs.Faults.{body_pair}
use Rattle.law_safety.specs.Values.{Agrees, Fits}
use Rattle.law_safety.specs.Arguments.{AreResults}
use Rattle.law_safety.specs.Turns.{LeadsTo, AreDistinct, IsTidy, IsTidyExpr, AreTidy}
use Rattle.law_safety.specs.Known.{IsKeyed, IsChosen}
use Rattle.law_safety.proofs.Environments.{fits_fewer}
use Rattle.law_safety.proofs.Verdicts.{ok_then, ok_where, ok_unless, ok_is, ok_reached}
use Rattle.law_safety.proofs.Handing.{In', more_times, first_times, handed}
use Rattle.law_safety.proofs.Functors.{predicate_number, called_at}
use Rattle.law_safety.proofs.SimpleGoals.{simple_leads}
use Rattle.law_safety.proofs.Accepted.{if_ok, not_ok, some_ok, each_ok, arms_ok}
use Rattle.law_safety.proofs.Growing.{later_then, goal_later, arms_later}
use Rattle.law_safety.proofs.JoinLemmas.{Joins, EndsJoin, joined_join, fits_joined}
use Rattle.law_safety.proofs.Calls.{call_fits, others_return, without_size, sort_det, IsApplied, type_of, known_applied}
use Rattle.law_safety.proofs.Safe.{Proper, scope, frame, HasRoom, all_below, IsCall, answers, in_left, in_right, fits_left, fits_right, room_outside, end_results, body_fine, back_fits, both_reach, condition_fine, only_goes}
use Rattle.law_safety.proofs.TypesDiffer.{TypesDiffer}
use Rattle.law_safety.proofs.Sure.{IsAllowed, simple_sure}
use Rattle.law_safety.proofs.SwitchLemmas.{first_keys, shape_keys, shape_occurs, has_some_key, whole_any, IsFirstChosen, first_chosen, none_chosen}
use Rattle.law_safety.proofs.Counting.{Meets, meets_nothing, meets_allocated, meets_written, meets_joined, meets_then, meets_left, meets_right, meets_first, meets_cut, meets_assoc, meets_last, meets_sum, meets_one, meets_declared, IsWithin, or_left, or_right, greatest_left, greatest_right}

-- each clause is accepted, types are told by their names, and each body does no more than its declaration says
pub record Judged (s : Hlds) : Type 0 where
  pub proper : Proper s
  pub differ : TypesDiffer s
  pub declared : (n : ℕ) (p : Procedure) → slice_get s.procedures n ≡ Some p → allows (pair_of p.det) (body_pair s p) ≡ true

-- what the job does after a goal meets a pair, at each smaller depth
abbrev pub CountsOn : Hlds → Pair → ℕ → ℕ → List Numbered → List (ℕ × ℕ) → List Frame → List ℕ → After → Type 0
CountsOn s q m act goals pairs js rest a =
    (n : ℕ) → n < m → (e : Env) (k : ℕ) → a.reach ≡ true → Fits s rest a.known e → Meets q (trace s n (frame act e goals pairs) js k)

abbrev pub Tally : Hlds → ℕ → Type 0
Tally s m =
    (all : List ℕ) (strict : Bool) (at : Option ℕ) (p : HldsGoal) (kn : InstMap) (rest : List ℕ) (q : Pair) (a : After) (number act : ℕ) (e : Env) (goals : List Numbered) (pairs : List (ℕ × ℕ)) (js : List Frame) (k : ℕ)
    → IsTidy p → goal (scope s all strict) p kn ≡ Ok a → HasRoom all (variables p) rest → Fits s (variables p ++ rest) kn e → IsChosen s at p e → CountsOn s q m act goals pairs js rest a
    → Meets (in_turn (goal_pair (scope s all strict) at p kn) q) (trace s m (frame act e (numbered_goal number p ∷ goals) pairs) js k)

abbrev pub TallyBelow : Hlds → ℕ → Type 0
TallyBelow s m = (n : ℕ) → n ≤ m → Tally s n

-- ---- items that are no answers

turned : (p : Pair) (a : ℕ) (g : Option ℕ) (w : ℕ) (xs : Items) → Meets p xs → Meets p (Turn a g w ∷ xs)
turned p a g w xs h = record { within = h.within; there = h.there }

called' : (p : Pair) (a : ℕ) (parent site : Option ℕ) (q : ℕ) (xs : Items) → Meets p xs → Meets p (Call a parent site q ∷ xs)
called' p a parent site q xs h = record { within = h.within; there = h.there }

exited : (p : Pair) (a : ℕ) (xs : Items) → Meets p xs → Meets p (Exit a ∷ xs)
exited p a xs h = record { within = h.within; there = h.there }

-- before what can't fail and succeeds once
meets_sure : (p q : Pair) (xs : Items) → p.bound ≡ One → Meets q xs → Meets (in_turn p q) xs
meets_sure p q xs e h = record { within = subst (λ b. IsWithin xs (product b q.bound)) (sym e) h.within; there = λ f. h.there (or_right p.may_fail q.may_fail f) }

or_true : (a b : Bool) → a ≡ true → (a || b) ≡ true
or_true a b e = rw e refl

-- ---- jobs without goals

pub answered : (s : Hlds) (n act : ℕ) (e : Env) (pairs : List (ℕ × ℕ)) (k : ℕ) → Meets (pair false One) (trace s n (frame act e [] pairs) [] k)
answered s zero act e pairs k = record { within = tt; there = λ f. tt }
answered s (suc n) act e pairs k = record { within = tt; there = λ f. tt }

exits_counted : (s : Hlds) (q : Pair) (n act : ℕ) (d : Env) (pairs : List (ℕ × ℕ)) (caller : Frame) (js : List Frame) (k : ℕ)
    → Meets q (trace s n (knowing caller (back pairs d caller.env) caller.goals) js k) → Meets q (trace s n (frame act d [] pairs) (caller ∷ js) k)
exits_counted s q zero act d pairs caller js k h =
    exited q act _ (meets_then q (trace s zero (knowing caller (back pairs d caller.env) caller.goals) js k) k (λ i. Redo act ∷ []) h (λ i. record { within = tt; there = λ f. absurd (true≢false f) }))
exits_counted s q (suc n) act d pairs caller js k h =
    exited q act _ (meets_then q (trace s (suc n) (knowing caller (back pairs d caller.env) caller.goals) js k) k (λ i. Redo act ∷ []) h (λ i. record { within = tt; there = λ f. absurd (true≢false f) }))

-- ---- simple goals

simple_counted : (s : Hlds) (q : Pair) (m number : ℕ) (f : Frame) (goals : List Numbered) (js : List Frame) (k : ℕ) (rest vars : List ℕ) (a : After) (p : Pair) (o : Outcome)
    → LeadsTo s vars a.reach a.known o → IsAllowed p o → In' rest vars → CountsOn s q (suc m) f.act goals f.pairs js rest a
    → Meets (in_turn p q) (after_simple (λ f js k. trace s m f js k) f number goals js k o)
simple_counted s q m number f goals js k rest vars a p (Go d extra words out) h allowed among goes =
    let later = trace s m (frame f.act d goals f.pairs) js k in
    turned (in_turn p q) f.act (Some number) (suc extra) (allocated f.act words ++ (written out ++ later))
    (meets_allocated (in_turn p q) f.act words (written out ++ later) (meets_written (in_turn p q) out later
    (meets_sure p q later allowed (goes m (omega arith) d k h.1 (fits_fewer s vars rest a.known d among h.0)))))
simple_counted s q m number f goals js k rest vars a p (No extra) h allowed among goes =
    turned (in_turn p q) f.act (Some number) (suc extra) [] (meets_nothing (in_turn p q) (or_true p.may_fail q.may_fail allowed))
simple_counted s q m number f goals js k rest vars a p (Throws bytes) h allowed among goes = record { within = tt; there = λ f. tt }
simple_counted s q m number f goals js k rest vars a p Stop h allowed among goes = elim h [ ]

-- ---- calls

pub allows_less : (d b : Pair) → allows d b ≡ true → (exceeds b.bound d.bound ≡ false) × (d.may_fail ≡ false → b.may_fail ≡ false)
allows_less d b h =
    let both = and_parts (d.may_fail || not b.may_fail) (not (exceeds b.bound d.bound)) h in
    (not_true (exceeds b.bound d.bound) both.1, fails d.may_fail b.may_fail both.0)
  where
    not_true : (b : Bool) → not b ≡ true → b ≡ false
    not_true true h = absurd (false≢true h)
    not_true false h = refl

    fails : (a b : Bool) → (a || not b) ≡ true → a ≡ false → b ≡ false
    fails true b h e = absurd (true≢false e)
    fails false true h e = absurd (false≢true h)
    fails false false h e = refl

-- a body, with whatever comes after it
body_counted : (s : Hlds) (judged : Judged s) (m : ℕ) → TallyBelow s m → (r : Pair) (strict : Bool) (l : ℕ) (q : ℕ × Procedure) (held : Values) (others : List (HldsType × Mode)) (ys : List ℕ) (kn : InstMap) (kr : InstMap) (e : Env)
    (act : ℕ) (pairs : List (ℕ × ℕ)) (js : List Frame) (k : ℕ) → IsCall s strict l q held others ys kn kr e
    → ((n : ℕ) → n < m → (d : Env) (i : ℕ) → AreResults s others (without (listed_values held) q.1.head) d → Meets r (trace s n (frame act d [] pairs) js i))
    → Meets (in_turn (pair_of q.1.det) r) (trace s m (frame act (entered q.1 (listed_values held) ys e) (numbered_goal (body_number s q.0) q.1.body ∷ []) pairs) js k)
body_counted s judged m below r strict l q held others ys kn kr e act pairs js k c goes =
    let p = q.1 in
    let ok = ok_then (goal (scope_of s p) p.body (entry p)) (λ b. end p b) tt (judged.proper.accepted q.0 p c.at) in
    let less = allows_less (pair_of p.det) (body_pair s p) (judged.declared q.0 p c.at) in
    meets_declared (body_pair s p) (pair_of p.det) r _ less.0 less.1
    (below m (omega arith) (clause_variables p) false None p.body (entry p) p.head r ok.0 (body_number s q.0) act (entered p (listed_values held) ys e) [] pairs js k
    (judged.proper.tidy q.0 p c.at) ok.1
    (λ x. let e = times-append x p.head (variables p.body) in omega (arith, e))
    (call_fits s (variables p.body ++ p.head) p held others ys e c.captured c.args) tt
    (λ n lt d i reach fits. goes n lt d i (others_return s held p.args others p.head d c.captured (end_results s p ok.0 d ok.2 reach fits))))

cut_counted : (s : Hlds) (judged : Judged s) (m : ℕ) → TallyBelow s m → (r : Pair) (strict : Bool) (l : ℕ) (q : ℕ × Procedure) (held : Values) (others : List (HldsType × Mode)) (ys rest : List ℕ) (kn : InstMap) (kr : InstMap) (e : Env)
    (act : ℕ) (goals : List Numbered) (pairs : List (ℕ × ℕ)) (js : List Frame) (k : ℕ) → IsCall s strict l q held others ys kn kr e → Fits s (ys ++ rest) kn e
    → CountsOn s r (suc m) act goals pairs js rest (after kr true)
    → Meets (in_turn (cut (pair_of q.1.det)) r) (run_body (λ f js k. trace s m f js k) det.Det (body_frame s k (entered q.1 (listed_values held) ys e) q (pairs_of (without (listed_values held) q.1.head) ys)) (frame act e goals pairs) js k)
cut_counted s judged m below r strict l q held others ys rest kn kr e act goals pairs js k c fits goes =
    let between = pairs_of (without (listed_values held) q.1.head) ys in
    let body = trace s m (frame k (entered q.1 (listed_values held) ys e) (numbered_goal (body_number s q.0) q.1.body ∷ []) []) [] (suc k) in
    meets_cut (pair_of q.1.det) r (λ d. AreResults s others (without (listed_values held) q.1.head) d) body (suc k)
    (λ d n. Exit k ∷ trace s m (frame act (back between d e) goals pairs) js n) (λ n. Fail k ∷ []) (excps (frame act e goals pairs ∷ js))
    (body_fine s judged.proper m (all_below s judged.proper m) (λ d. AreResults s others (without (listed_values held) q.1.head) d) strict l q held others ys kn kr e k [] [] (suc k) c
    (λ n lt d i results. answers s (λ d. AreResults s others (without (listed_values held) q.1.head) d) n k d [] i results))
    (meets_last (pair_of q.1.det) body (body_counted s judged m below (pair false One) strict l q held others ys kn kr e k [] [] (suc k) c (λ n lt d i results. answered s n k d [] i)))
    (λ d n results. exited r k (trace s m (frame act (back between d e) goals pairs) js n) (goes m (omega arith) (back between d e) n refl (back_fits s judged.proper strict l q held others ys rest kn kr e d c fits results)))
    (λ n. tt)

whole_counted : (s : Hlds) (judged : Judged s) (m : ℕ) → TallyBelow s m → (r : Pair) (strict : Bool) (l : ℕ) (q : ℕ × Procedure) (held : Values) (others : List (HldsType × Mode)) (ys rest : List ℕ) (kn : InstMap) (kr : InstMap) (e : Env)
    (act : ℕ) (goals : List Numbered) (pairs : List (ℕ × ℕ)) (js : List Frame) (k : ℕ) → IsCall s strict l q held others ys kn kr e → Fits s (ys ++ rest) kn e
    → CountsOn s r (suc m) act goals pairs js rest (after kr true)
    → Meets (in_turn (pair_of q.1.det) r) (run_body (λ f js k. trace s m f js k) det.Multi (body_frame s k (entered q.1 (listed_values held) ys e) q (pairs_of (without (listed_values held) q.1.head) ys)) (frame act e goals pairs) js k)
whole_counted s judged m below r strict l q held others ys rest kn kr e act goals pairs js k c fits goes =
    let between = pairs_of (without (listed_values held) q.1.head) ys in
    meets_then (in_turn (pair_of q.1.det) r) (trace s m (frame k (entered q.1 (listed_values held) ys e) (numbered_goal (body_number s q.0) q.1.body ∷ []) between) (frame act e goals pairs ∷ js) (suc k)) (suc k) (λ n. Fail k ∷ [])
    (body_counted s judged m below r strict l q held others ys kn kr e k between (frame act e goals pairs ∷ js) (suc k) c
    (λ n lt d i results. exits_counted s r n k d between (frame act e goals pairs) js i
    (goes n (omega (arith, lt)) (back between d e) i refl (back_fits s judged.proper strict l q held others ys rest kn kr e d c fits results))))
    (λ n. record { within = tt; there = λ f. absurd (true≢false f) })

run_counted : (s : Hlds) (judged : Judged s) (m : ℕ) → TallyBelow s m → (r : Pair) (strict : Bool) (l : ℕ) (q : ℕ × Procedure) (held : Values) (others : List (HldsType × Mode)) (ys rest : List ℕ) (kn : InstMap) (kr : InstMap) (e : Env)
    (act : ℕ) (goals : List Numbered) (pairs : List (ℕ × ℕ)) (js : List Frame) (k : ℕ) (d : Det) → q.1.det ≡ d → IsCall s strict l q held others ys kn kr e → Fits s (ys ++ rest) kn e
    → CountsOn s r (suc m) act goals pairs js rest (after kr true)
    → Meets (in_turn (pair_of d) r) (run_body (λ f js k. trace s m f js k) d (body_frame s k (entered q.1 (listed_values held) ys e) q (pairs_of (without (listed_values held) q.1.head) ys)) (frame act e goals pairs) js k)
run_counted s judged m below r strict l q held others ys rest kn kr e act goals pairs js k det.Det is c fits goes =
    subst (λ (d : Det). Meets (in_turn (cut (pair_of d)) r) (run_body (λ f js k. trace s m f js k) det.Det (body_frame s k (entered q.1 (listed_values held) ys e) q (pairs_of (without (listed_values held) q.1.head) ys)) (frame act e goals pairs) js k)) is
    (cut_counted s judged m below r strict l q held others ys rest kn kr e act goals pairs js k c fits goes)
run_counted s judged m below r strict l q held others ys rest kn kr e act goals pairs js k det.Semidet is c fits goes =
    subst (λ (d : Det). Meets (in_turn (cut (pair_of d)) r) (run_body (λ f js k. trace s m f js k) det.Det (body_frame s k (entered q.1 (listed_values held) ys e) q (pairs_of (without (listed_values held) q.1.head) ys)) (frame act e goals pairs) js k)) is
    (cut_counted s judged m below r strict l q held others ys rest kn kr e act goals pairs js k c fits goes)
run_counted s judged m below r strict l q held others ys rest kn kr e act goals pairs js k det.Failure is c fits goes =
    subst (λ (d : Det). Meets (in_turn (cut (pair_of d)) r) (run_body (λ f js k. trace s m f js k) det.Det (body_frame s k (entered q.1 (listed_values held) ys e) q (pairs_of (without (listed_values held) q.1.head) ys)) (frame act e goals pairs) js k)) is
    (cut_counted s judged m below r strict l q held others ys rest kn kr e act goals pairs js k c fits goes)
run_counted s judged m below r strict l q held others ys rest kn kr e act goals pairs js k det.Multi is c fits goes =
    subst (λ (d : Det). Meets (in_turn (pair_of d) r) (run_body (λ f js k. trace s m f js k) det.Multi (body_frame s k (entered q.1 (listed_values held) ys e) q (pairs_of (without (listed_values held) q.1.head) ys)) (frame act e goals pairs) js k)) is
    (whole_counted s judged m below r strict l q held others ys rest kn kr e act goals pairs js k c fits goes)
run_counted s judged m below r strict l q held others ys rest kn kr e act goals pairs js k det.Nondet is c fits goes =
    subst (λ (d : Det). Meets (in_turn (pair_of d) r) (run_body (λ f js k. trace s m f js k) det.Multi (body_frame s k (entered q.1 (listed_values held) ys e) q (pairs_of (without (listed_values held) q.1.head) ys)) (frame act e goals pairs) js k)) is
    (whole_counted s judged m below r strict l q held others ys rest kn kr e act goals pairs js k c fits goes)

called_counted : (s : Hlds) (judged : Judged s) (m : ℕ) → TallyBelow s m → (r : Pair) (strict : Bool) (l : ℕ) (q : ℕ × Procedure) (held : Values) (others : List (HldsType × Mode)) (ys rest : List ℕ) (kn : InstMap) (kr : InstMap) (e : Env)
    (act : ℕ) (own : List Numbered) (number : ℕ) (goals : List Numbered) (pairs : List (ℕ × ℕ)) (js : List Frame) (k site : ℕ) → IsCall s strict l q held others ys kn kr e → Fits s (ys ++ rest) kn e
    → CountsOn s r (suc m) act goals pairs js rest (after kr true)
    → Meets (in_turn (pair_of q.1.det) r) (invoked s (λ f js k. trace s m f js k) (frame act e own pairs) number goals js k site (Some q) (listed_values held) ys)
called_counted s judged m below r strict l q held others ys rest kn kr e act own number goals pairs js k site c fits goes =
    let size = without_size s held q.1.args others q.1.head c.captured (judged.proper.heads q.0 q.1 c.at) in
    let long : length (listed_values held) + length ys ≡ length q.1.head = let a = size.1 in let b = c.size in omega (arith, a, b) in
    rw (eq-eqb (length (listed_values held) + length ys) (length q.1.head) long)
    (turned (in_turn (pair_of q.1.det) r) act (Some number) _ _ (called' (in_turn (pair_of q.1.det) r) k (Some act) (Some site) q.0 _
    (run_counted s judged m below r strict l q held others ys rest kn kr e act goals pairs js k q.1.det refl c fits goes)))

name_counted : (s : Hlds) (judged : Judged s) (m : ℕ) → TallyBelow s m → (r : Pair) (strict : Bool) (l : ℕ) (q : PredName) (o : Option Procedure) (ys rest : List ℕ) (kn : InstMap) (kr : InstMap) (e : Env)
    (act : ℕ) (own : List Numbered) (number : ℕ) (goals : List Numbered) (pairs : List (ℕ × ℕ)) (js : List Frame) (k site : ℕ) → predicate_called s q ≡ o → AreDistinct ys → call_checked strict l ys o kn ≡ Ok kr → Fits s (ys ++ rest) kn e
    → CountsOn s r (suc m) act goals pairs js rest (after kr true)
    → Meets (in_turn (call_pair (procedure_called s q)) r) (invoked s (λ f js k. trace s m f js k) (frame act e own pairs) number goals js k site (procedure_called s q) [] ys)
name_counted s judged m below r strict l q None ys rest kn kr e act own number goals pairs js k site is distinct ok fits goes = absurd (cc ok)
name_counted s judged m below r strict l q (Some p) ys rest kn kr e act own number goals pairs js k site is distinct ok fits goes =
    let n = predicate_number s q p is in
    let a = ok_where (nat_eq (length ys) (length p.args)) (Arity l) (arguments strict l p.args ys kn) kr ok in
    let size = eqb-true (length ys) (length p.args) a.0 in
    subst (λ (c : Option (ℕ × Procedure)). Meets (in_turn (call_pair c) r) (invoked s (λ f js k. trace s m f js k) (frame act e own pairs) number goals js k site c [] ys)) (sym n.1)
    (called_counted s judged m below r strict l (n.0, p) no_values p.args ys rest kn kr e act own number goals pairs js k site
    (record { at = called_at s q (n.0, p) n.1; captured = refl; args = handed s strict l p.args ys kn kr e (fits_left s ys rest kn e fits) distinct size a.1; size = size; accepted = a.1 })
    fits goes)

-- a closure's type has the determinism of its procedure
sort_pair_is : (strict : Bool) (l : ℕ) (ys : List ℕ) (t : HldsType) (kn kr : InstMap) → apply_sort strict l ys t kn ≡ Ok kr → sort_pair t ≡ pair_of (sort_det t)
sort_pair_is strict l ys (hlds.closure ts ms d) kn kr ok = refl
sort_pair_is strict l ys hlds.number kn kr ok = absurd (cc ok)
sort_pair_is strict l ys hlds.text kn kr ok = absurd (cc ok)
sort_pair_is strict l ys hlds.world kn kr ok = absurd (cc ok)
sort_pair_is strict l ys (hlds.named n) kn kr ok = absurd (cc ok)

apply_pair_is : (strict : Bool) (l : ℕ) (ys : List ℕ) (k : Instantiation) (kn kr : InstMap) → apply_known strict l ys k kn ≡ Ok kr → apply_pair k ≡ pair_of (sort_det (type_of k))
apply_pair_is strict l ys free kn kr ok = absurd (cc ok)
apply_pair_is strict l ys (has t used) kn kr ok = sort_pair_is strict l ys t kn kr (ok_unless (is_spent strict t used) (IoUsed l) (apply_sort strict l ys t kn) kr ok).1

closure_counted : (s : Hlds) (judged : Judged s) (m : ℕ) → TallyBelow s m → (r : Pair) (strict : Bool) (l : ℕ) (o : Option Value) (ys rest : List ℕ) (t : HldsType) (kn : InstMap) (kr : InstMap) (e : Env)
    (act : ℕ) (own : List Numbered) (number : ℕ) (goals : List Numbered) (pairs : List (ℕ × ℕ)) (js : List Frame) (k site : ℕ) → IsApplied s strict l ys o t kn kr → AreDistinct ys → Fits s (ys ++ rest) kn e
    → CountsOn s r (suc m) act goals pairs js rest (after kr true)
    → Meets (in_turn (pair_of (sort_det t)) r) (applied s (λ f js k. trace s m f js k) (frame act e own pairs) number goals js k site ys o)
closure_counted s judged m below r strict l o ys rest t kn kr e act own number goals pairs js k site c distinct fits goes =
    let there : nth_procedure s c.number ≡ Some (c.number, c.procedure) = ap (numbered c.number) c.at in
    subst (λ (v : Option Value). Meets (in_turn (pair_of (sort_det t)) r) (applied s (λ f js k. trace s m f js k) (frame act e own pairs) number goals js k site ys v)) (sym c.is)
    (subst (λ (q : Option (ℕ × Procedure)). Meets (in_turn (pair_of (sort_det t)) r) (invoked s (λ f js k. trace s m f js k) (frame act e own pairs) number goals js k site q (listed_values c.held) ys)) (sym there)
    (subst (λ (d : Det). Meets (in_turn (pair_of d) r) (invoked s (λ f js k. trace s m f js k) (frame act e own pairs) number goals js k site (Some (c.number, c.procedure)) (listed_values c.held) ys)) c.determinism
    (called_counted s judged m below r strict l (c.number, c.procedure) c.held c.others ys rest kn kr e act own number goals pairs js k site
    (record { at = c.at; captured = c.captured; args = handed s strict l c.others ys kn kr e (fits_left s ys rest kn e fits) distinct c.size c.accepted; size = c.size; accepted = c.accepted })
    fits goes)))

-- ---- conjunctions

known_is : (c : Scope) (p : HldsGoal) (kn : InstMap) (a : After) → goal c p kn ≡ Ok a → known_after kn (goal c p kn) ≡ a.known
known_is c p kn a ok = ap (known_after kn) ok

each_counted : (s : Hlds) (m : ℕ) → TallyBelow s m → (all : List ℕ) (strict : Bool) (at : Option ℕ) (ps : HldsGoals) (n : ℕ) (kn : InstMap) (rest : List ℕ) (r : Pair) (a : After)
    (number act : ℕ) (e : Env) (goals : List Numbered) (pairs : List (ℕ × ℕ)) (js : List Frame) (k : ℕ) → n ≤ m
    → AreTidy ps → each (scope s all strict) ps kn ≡ Ok a → HasRoom all (parts_variables ps) rest → Fits s (parts_variables ps ++ rest) kn e → IsFirstChosen s at ps e → CountsOn s r (suc m) act goals pairs js rest a
    → Meets (in_turn (each_pair (scope s all strict) at ps kn) r) (trace s n (frame act e (numbered_from number ps ++ goals) pairs) js k)
each_counted s m below all strict at nothing n kn rest r a number act e goals pairs js k le tidy ok room fits begins goes =
    let is : after kn true ≡ a = ok_is (Ok (after kn true)) (after kn true) a refl ok in
    meets_sure (pair false One) r (trace s n (frame act e goals pairs) js k) refl
    (goes n (omega (arith, le)) e k (sym (ap (λ (b : After). b.reach) is)) (subst (λ (b : After). Fits s rest b.known e) is fits))
each_counted s m below all strict at (also p ps) n kn rest r a number act e goals pairs js k le tidy ok room fits begins goes =
    let c = scope s all strict in
    let o = each_ok c p ps kn a ok in
    let later = each_pair c None ps (known_after kn (goal c p kn)) in
    meets_assoc (goal_pair c at p kn) later r (trace s n (frame act e (numbered_from number (also p ps) ++ goals) pairs) js k)
    (below n le all strict at p kn (parts_variables ps ++ rest) (in_turn later r) o.first number act e (numbered_from (number + goal_size p) ps ++ goals) pairs js k tidy.0 o.begins
    (λ x. let q = room x in let f = times-append x (variables p) (parts_variables ps) in let g = times-append x (parts_variables ps) rest in omega (arith, q, f, g))
    (fits_fewer s ((variables p ++ parts_variables ps) ++ rest) (variables p ++ (parts_variables ps ++ rest)) kn e
    (λ x there. let f = times-append x (variables p ++ parts_variables ps) rest in let g = times-append x (variables p) (parts_variables ps) in
    let h = times-append x (variables p) (parts_variables ps ++ rest) in let i = times-append x (parts_variables ps) rest in omega (arith, there, f, g, h, i)) fits)
    begins
    (λ i lt d j reach inner.
    subst (λ (q : InstMap). Meets (in_turn (each_pair c None ps q) r) (trace s i (frame act d (numbered_from (number + goal_size p) ps ++ goals) pairs) js j)) (sym (known_is c p kn o.first o.begins))
    (each_counted s m below all strict None ps i o.first.known rest r o.rest (number + goal_size p) act d goals pairs js j (omega (arith, lt, le)) tidy.1 o.goes_on
    (λ x. let q = room x in let f = times-append x (variables p) (parts_variables ps) in omega (arith, q, f)) inner (none_chosen s ps d)
    (λ i lt d j there last. goes i lt d j
    (sym (ap (λ (b : After). b.reach) o.is) ∙ both_reach o.first.reach o.rest.reach reach there)
    (subst (λ (b : After). Fits s rest b.known d) o.is last)))))

-- ---- branches

arm_counts : (s : Hlds) (r : Pair) (m act : ℕ) (goals : List Numbered) (pairs : List (ℕ × ℕ)) (js : List Frame) (all inner rest : List ℕ) (a b : After)
    → HasRoom all inner rest → (b.reach ≡ true → Joins (outside all inner) a b.known) → CountsOn s r (suc m) act goals pairs js rest a → CountsOn s r m act goals pairs js rest b
arm_counts s r m act goals pairs js all inner rest a b room joins goes n lt e k reach fits =
    let j = joins reach in
    goes n (omega (arith, lt)) e k j.reach (fits_joined s (outside all inner) rest a b.known e j (room_outside all inner rest room) fits)

-- each of these arms meets its pair, where it begins as the switch has it
abbrev ArmsCount : Hlds → Scope → Option ℕ → InstMap → Pair → Does → Frame → List Numbered → List Frame → HldsGoals → ℕ → Type 0
ArmsCount s c at kn r go f goals js nothing number = ⊤
ArmsCount s c at kn r go f goals js (also p ps) number =
    ((k : ℕ) → IsChosen s at p f.env → Meets (in_turn (goal_pair c at p kn) r) (go (doing f (numbered_goal number p ∷ goals)) js k)) × ArmsCount s c at kn r go f goals js ps (number + goal_size p)

arms_counted : (s : Hlds) (m : ℕ) → TallyBelow s m → (all : List ℕ) (strict : Bool) (at : Option ℕ) (ps : HldsGoals) (kn : InstMap) (inner rest : List ℕ) (r : Pair) (a : After) (ends : List After)
    (number : ℕ) (f : Frame) (goals : List Numbered) (js : List Frame)
    → AreTidy ps → arms (scope s all strict) ps kn ≡ Ok ends → HasRoom all inner rest → ((x : ℕ) → times x (parts_variables ps) ≤ times x inner) → Fits s (inner ++ rest) kn f.env
    → EndsJoin (outside all inner) a ends → CountsOn s r (suc m) f.act goals f.pairs js rest a
    → ArmsCount s (scope s all strict) at kn r (λ f js k. trace s m f js k) f goals js ps number
arms_counted s m below all strict at nothing kn inner rest r a ends number f goals js tidy ok room among fits joins goes = tt
arms_counted s m below all strict at (also p ps) kn inner rest r a ends number f goals js tidy ok room among fits joins goes =
    let o = arms_ok (scope s all strict) p ps kn ends ok in
    let parts : EndsJoin (outside all inner) a (o.first ∷ o.ends) = subst (λ (es : List After). EndsJoin (outside all inner) a es) (sym o.is) joins in (
      (λ k begins. below m (omega arith) all strict at p kn rest r o.first number f.act f.env goals f.pairs js k tidy.0 o.begins
          (λ x. let q = room x in let i = among x in let t = times-append x (variables p) (parts_variables ps) in omega (arith, q, i, t))
          (fits_fewer s (inner ++ rest) (variables p ++ rest) kn f.env
          (λ x there. let i = among x in let t = times-append x (variables p) (parts_variables ps) in let g = times-append x (variables p) rest in let h = times-append x inner rest in omega (arith, there, i, t, g, h)) fits)
          begins (arm_counts s r m f.act goals f.pairs js all inner rest a o.first room parts.0 goes)),
      arms_counted s m below all strict at ps kn inner rest r a o.ends (number + goal_size p) f goals js tidy.1 o.others room
          (λ x. let i = among x in let t = times-append x (variables p) (parts_variables ps) in omega (arith, i, t)) fits parts.1 goes,
    )

-- alternatives
all_counted : (s : Hlds) (c : Scope) (kn : InstMap) (r : Pair) (go : Does) (f : Frame) (goals : List Numbered) (js : List Frame) (ps : HldsGoals) (number k : ℕ) → ArmsCount s c None kn r go f goals js ps number
    → Meets (in_turn (all_alternatives (arm_pairs c None ps kn)) r) (item.arms go f goals js k (numbered_from number ps))
all_counted s c kn r go f goals js nothing number k h = meets_nothing (in_turn (pair true Zero) r) refl
all_counted s c kn r go f goals js (also p ps) number k h =
    meets_sum (goal_pair c None p kn) (all_alternatives (arm_pairs c None ps kn)) r (item.arms go f goals js k (numbered_from number (also p ps)))
    (meets_joined (in_turn (goal_pair c None p kn) r) (in_turn (all_alternatives (arm_pairs c None ps kn)) r) (go (doing f (numbered_goal number p ∷ goals)) js k) k (λ n. item.arms go f goals js n (numbered_from (number + goal_size p) ps))
    (h.0 k tt) (λ n. all_counted s c kn r go f goals js ps (number + goal_size p) n h.1))

missing_first : (p rest : Pair) (w : Bool) → ((p.may_fail || rest.may_fail) || not w) ≡ false → p.may_fail ≡ false
missing_first p rest w e = or_left p.may_fail rest.may_fail (or_left (p.may_fail || rest.may_fail) (not w) e)

missing_rest : (a b c : Bool) → ((a || b) || c) ≡ false → (b || c) ≡ false
missing_rest true b c e = absurd (true≢false e)
missing_rest false b c e = e

-- the arm for a value
arm_step : (c : Scope) (r : Pair) (go : Does) (f : Frame) (goals : List Numbered) (js : List Frame) (k : ℕ) (p rest : Pair) (whole found later : Bool) (np : Numbered) (o : Option Numbered)
    → (found ≡ true → Meets (in_turn p r) (go (doing f (np ∷ goals)) js k))
    → ((whole ≡ true → later ≡ true) → Meets (in_turn (with_missing whole rest) r) (one_arm go f goals js k o))
    → (whole ≡ true → (found || later) ≡ true)
    → Meets (in_turn (with_missing whole (one_of_two p rest)) r) (one_arm go f goals js k (cond found (Some np) o))
arm_step c r go f goals js k p rest whole true later np o here there any =
    meets_declared p (with_missing whole (one_of_two p rest)) r (go (doing f (np ∷ goals)) js k) (greatest_left p.bound rest.bound) (missing_first p rest whole) (here refl)
arm_step c r go f goals js k p rest whole false later np o here there any =
    meets_declared (with_missing whole rest) (with_missing whole (one_of_two p rest)) r (one_arm go f goals js k o) (greatest_right p.bound rest.bound) (missing_rest p.may_fail rest.may_fail (not whole)) (there any)

none_missing : (r : Pair) (w : Bool) (p : Pair) → (w ≡ true → false ≡ true) → Meets (in_turn (with_missing w p) r) []
none_missing r true p h = absurd (false≢true (h refl))
none_missing r false p h = meets_nothing (in_turn (with_missing false p) r) (or_true (p.may_fail || true) r.may_fail (last_true p.may_fail))
  where
    last_true : (b : Bool) → (b || true) ≡ true
    last_true true = refl
    last_true false = refl

keyed_at : (s : Hlds) (x : ℕ) (v : Value) (key first : Key) (e : Env) → value_at e x ≡ Some v → first ≡ key → has_the_key v key ≡ true → IsKeyed first (value_at e x)
keyed_at s x v key first e at is h = rw (at, is) h

keyed_arms : (s : Hlds) (c : Scope) (x : ℕ) (v : Value) (kn : InstMap) (r : Pair) (go : Does) (f : Frame) (goals : List Numbered) (js : List Frame) (k : ℕ) (whole : Bool) (ps : HldsGoals) (keys : List Key) (number : ℕ)
    → value_at f.env x ≡ Some v → keys_of s x ps ≡ Some keys → ArmsCount s c (Some x) kn r go f goals js ps number → (whole ≡ true → has_some_key v keys ≡ true)
    → Meets (in_turn (with_missing whole (one_of_all (arm_pairs c (Some x) ps kn))) r) (one_arm go f goals js k (arm_for v keys (numbered_from number ps)))
keyed_arms s c x v kn r go f goals js k whole nothing [] number at keys h any = none_missing r whole (one_of_all []) any
keyed_arms s c x v kn r go f goals js k whole nothing (key ∷ keys) number at is h any = absurd (cc is)
keyed_arms s c x v kn r go f goals js k whole (also p ps) [] number at is h any =
    let keys = first_keys s x p ps [] is in let no = keys.is in absurd (cc no)
keyed_arms s c x v kn r go f goals js k whole (also p ps) (key ∷ later) number at is h any =
    let keys = first_keys s x p ps (key ∷ later) is in
    let same = keys.is in
    let first : keys.first ≡ key = cc same in
    let rest : keys.rest ≡ later = cc same in
    arm_step c r go f goals js k (goal_pair c (Some x) p kn) (one_of_all (arm_pairs c (Some x) ps kn)) whole (has_the_key v key) (has_some_key v later) (numbered_goal number p) (arm_for v later (numbered_from (number + goal_size p) ps))
    (λ found. h.0 k (keys.first, keys.arm, keyed_at s x v key keys.first f.env at first found))
    (λ more. keyed_arms s c x v kn r go f goals js k whole ps later (number + goal_size p) at (keys.others ∙ ap Some rest) h.1 more)
    any

-- a disjunction that has the shape of a switch, by what is known of its variable and by its value
shaped_counted : (s : Hlds) (judged : Judged s) (c : Scope) (x : ℕ) (keys : List Key) (kn : InstMap) (i : Instantiation) (o : Option Value) (r : Pair) (go : Does) (f : Frame) (goals : List Numbered) (js : List Frame) (k : ℕ) (ps : HldsGoals) (number : ℕ) (ends : List After)
    → c.program ≡ s → switch_shape s ps ≡ Some (x, keys) → known_at kn x ≡ i → value_at f.env x ≡ o → Agrees s o i → arms c ps kn ≡ Ok ends
    → ((at : Option ℕ) → ArmsCount s c at kn r go f goals js ps number)
    → Meets (in_turn (disjunction_pair (switch_on_known s x keys i) (arm_pairs c (variable_of (switch_on_known s x keys i)) ps kn)) r) (switched go f goals js k (numbered_from number ps) keys o)
shaped_counted s judged c x keys kn free None r go f goals js k ps number ends program shape known at agrees ok counts = all_counted s c kn r go f goals js ps number k (counts None)
shaped_counted s judged c x keys kn (has t used) (Some v) r go f goals js k ps number ends program shape known at agrees ok counts =
    keyed_arms s c x v kn r go f goals js k (is_whole s keys) ps keys number at (shape_keys s ps x keys shape) (counts (Some x))
    (λ whole. whole_any s judged.differ c ps x keys v t used kn ends program shape known ok agrees whole)
shaped_counted s judged c x keys kn free (Some v) r go f goals js k ps number ends program shape known at agrees ok counts = elim agrees [ ]
shaped_counted s judged c x keys kn (has t used) None r go f goals js k ps number ends program shape known at agrees ok counts = elim agrees [ ]

any_shape : (s : Hlds) (judged : Judged s) (c : Scope) (vars : List ℕ) (kn : InstMap) (w : Option (ℕ × List Key)) (r : Pair) (go : Does) (f : Frame) (goals : List Numbered) (js : List Frame) (k : ℕ) (ps : HldsGoals) (number : ℕ) (ends : List After)
    → c.program ≡ s → switch_shape s ps ≡ w → Fits s vars kn f.env → In' (parts_variables ps) vars → arms c ps kn ≡ Ok ends
    → ((at : Option ℕ) → ArmsCount s c at kn r go f goals js ps number)
    → Meets (in_turn (disjunction_pair (switch_with s w kn) (arm_pairs c (variable_of (switch_with s w kn)) ps kn)) r) (disjunction go f goals js k (numbered_from number ps) w)
any_shape s judged c vars kn None r go f goals js k ps number ends program shape fits among ok counts = all_counted s c kn r go f goals js ps number k (counts None)
any_shape s judged c vars kn (Some w) r go f goals js k ps number ends program shape fits among ok counts =
    shaped_counted s judged c w.0 w.1 kn (known_at kn w.0) (value_at f.env w.0) r go f goals js k ps number ends program shape refl refl
    (fits.each w.0 (among w.0 (shape_occurs s ps w.0 w.1 shape))) ok counts

-- ---- conditions

-- a condition by itself
condition_counted : (s : Hlds) (m : ℕ) → TallyBelow s m → (all : List ℕ) (c : HldsGoal) (kn : InstMap) (rest : List ℕ) (a : After) (number act : ℕ) (e : Env) (k : ℕ)
    → IsTidy c → goal (scope s all true) c kn ≡ Ok a → HasRoom all (variables c) rest → Fits s (variables c ++ rest) kn e
    → Meets (goal_pair (scope s all true) None c kn) (trace s m (frame act e (numbered_goal number c ∷ []) []) [] k)
condition_counted s m below all c kn rest a number act e k tidy ok room fits =
    meets_last (goal_pair (scope s all true) None c kn) (trace s m (frame act e (numbered_goal number c ∷ []) []) [] k)
    (below m (omega arith) all true None c kn rest (pair false One) a number act e [] [] [] k tidy ok room fits tt (λ n lt d i reach inner. answered s n act d [] i))

if_counted : (s : Hlds) (judged : Judged s) (m : ℕ) → TallyBelow s m → (all : List ℕ) (strict : Bool) (l : ℕ) (c t e : HldsGoal) (kn : InstMap) (rest : List ℕ) (r : Pair) (a : After) (number : ℕ) (f : Frame) (goals : List Numbered) (js : List Frame) (k : ℕ)
    → IsTidyExpr (IfGoal c t e) → expr (scope s all strict) l (IfGoal c t e) kn ≡ Ok a → HasRoom all (expr_variables (IfGoal c t e)) rest → Fits s (expr_variables (IfGoal c t e) ++ rest) kn f.env
    → CountsOn s r (suc m) f.act goals f.pairs js rest a
    → Meets (in_turn (one_of_two (goal_pair (scope s all strict) None t (known_after kn (goal (scope s all true) c kn))) (goal_pair (scope s all strict) None e kn)) r)
    (unfold_expr s (λ f js k. trace s m f js k) f number goals js k (IfGoal c t e))
if_counted s judged m below all strict l c t e kn rest r a number f goals js k tidy ok room fits goes =
    let o = if_ok (scope s all strict) l c t e kn a ok in
    let inner = variables c ++ (variables t ++ variables e) in
    let later = later_then kn o.condition.known o.then.known (goal_later (scope s all true) c kn o.condition o.begins) (goal_later (scope s all strict) t o.condition.known o.then o.wins) in
    let joins = joined_join l (outside all inner) kn (o.then ∷ o.else ∷ []) a (later, (goal_later (scope s all strict) e kn o.else o.loses, tt)) o.joins in
    let win = goal_pair (scope s all strict) None t (known_after kn (goal (scope s all true) c kn)) in
    let lose = goal_pair (scope s all strict) None e kn in
    let cond' = trace s m (frame f.act f.env (numbered_goal (suc number) c ∷ []) []) [] k in
    let found = λ (d : Env) (n : ℕ). trace s m (frame f.act d (numbered_goal (suc number + goal_size c) t ∷ goals) f.pairs) js n in
    let missed = λ (n : ℕ). trace s m (frame f.act f.env (numbered_goal (suc number + goal_size c + goal_size t) e ∷ goals) f.pairs) js n in
    turned (in_turn (one_of_two win lose) r) f.act (Some number) 1 (first cond' k found missed (excps js))
    (meets_one win lose r (first cond' k found missed (excps js))
    (meets_first (one_of_two (in_turn win r) (in_turn lose r)) (λ d. Fits s (variables t ++ rest) o.condition.known d) cond' k found missed (excps js)
    (condition_fine s m (all_below s judged.proper m) all c kn (variables t ++ rest) o.condition (suc number) f.act f.env k tidy.0 o.begins
    (λ x. let q = room x in let i = times-append x (variables c) (variables t ++ variables e) in let j = times-append x (variables t) (variables e) in let h = times-append x (variables t) rest in omega (arith, q, i, j, h))
    (fits_fewer s (inner ++ rest) (variables c ++ (variables t ++ rest)) kn f.env
    (λ x there. let i = times-append x (variables c) (variables t ++ variables e) in let j = times-append x (variables t) (variables e) in let g = times-append x inner rest in
    let h = times-append x (variables t) rest in let q = times-append x (variables c) (variables t ++ rest) in omega (arith, there, i, j, g, h, q)) fits))
    (λ d n inside. meets_left (in_turn win r) (in_turn lose r) (found d n)
    (subst (λ (q : InstMap). Meets (in_turn (goal_pair (scope s all strict) None t q) r) (found d n)) (sym (known_is (scope s all true) c kn o.condition o.begins))
    (below m (omega arith) all strict None t o.condition.known rest r o.then (suc number + goal_size c) f.act d goals f.pairs js n tidy.1.0 o.wins
    (λ x. let q = room x in let i = times-append x (variables c) (variables t ++ variables e) in let j = times-append x (variables t) (variables e) in omega (arith, q, i, j))
    inside tt (arm_counts s r m f.act goals f.pairs js all inner rest a o.then room joins.0 goes))))
    (λ n. meets_right (in_turn win r) (in_turn lose r) (missed n)
    (below m (omega arith) all strict None e kn rest r o.else (suc number + goal_size c + goal_size t) f.act f.env goals f.pairs js n tidy.1.1 o.loses
    (λ x. let q = room x in let i = times-append x (variables c) (variables t ++ variables e) in let j = times-append x (variables t) (variables e) in omega (arith, q, i, j))
    (fits_fewer s (inner ++ rest) (variables e ++ rest) kn f.env
    (λ x there. let i = times-append x (variables c) (variables t ++ variables e) in let j = times-append x (variables t) (variables e) in let g = times-append x inner rest in
    let h = times-append x (variables e) rest in omega (arith, there, i, j, g, h)) fits)
    tt (arm_counts s r m f.act goals f.pairs js all inner rest a o.else room joins.1.0 goes)))))

not_counted : (s : Hlds) (judged : Judged s) (m : ℕ) → TallyBelow s m → (all : List ℕ) (strict : Bool) (l : ℕ) (c : HldsGoal) (kn : InstMap) (rest : List ℕ) (r : Pair) (a : After) (number : ℕ) (f : Frame) (goals : List Numbered) (js : List Frame) (k : ℕ)
    → IsTidy c → expr (scope s all strict) l (NotGoal c) kn ≡ Ok a → HasRoom all (variables c) rest → Fits s (variables c ++ rest) kn f.env
    → CountsOn s r (suc m) f.act goals f.pairs js rest a → Meets (in_turn unsure r) (unfold_expr s (λ f js k. trace s m f js k) f number goals js k (NotGoal c))
not_counted s judged m below all strict l c kn rest r a number f goals js k tidy ok room fits goes =
    let o = not_ok (scope s all strict) l c kn a ok in
    let there = only_goes s rest kn a f.env o.is (fits_right s (variables c) rest kn f.env fits) in
    let cond' = trace s m (frame f.act f.env (numbered_goal (suc number) c ∷ []) []) [] k in
    let missed = λ (n : ℕ). trace s m (frame f.act f.env goals f.pairs) js n in
    turned (in_turn unsure r) f.act (Some number) 1 (first cond' k (λ d n. []) missed (excps js))
    (meets_first (in_turn unsure r) (λ d. Fits s rest o.inner.known d) cond' k (λ d n. []) missed (excps js)
    (condition_fine s m (all_below s judged.proper m) all c kn rest o.inner (suc number) f.act f.env k tidy o.begins room fits)
    (λ d n inside. meets_nothing (in_turn unsure r) refl)
    (λ n. meets_sure unsure r (missed n) refl (goes m (omega arith) f.env n there.0 there.1)))

some_counted : (s : Hlds) (judged : Judged s) (m : ℕ) → TallyBelow s m → (all : List ℕ) (strict : Bool) (l : ℕ) (vs : List ℕ) (c : HldsGoal) (kn : InstMap) (rest : List ℕ) (r : Pair) (a : After) (number : ℕ) (f : Frame) (goals : List Numbered) (js : List Frame) (k : ℕ)
    → IsTidy c → expr (scope s all strict) l (SomeGoal vs c) kn ≡ Ok a → HasRoom all (vs ++ variables c) rest → Fits s ((vs ++ variables c) ++ rest) kn f.env
    → CountsOn s r (suc m) f.act goals f.pairs js rest a
    → Meets (in_turn (cut (goal_pair (scope s all true) None c kn)) r) (unfold_expr s (λ f js k. trace s m f js k) f number goals js k (SomeGoal vs c))
some_counted s judged m below all strict l vs c kn rest r a number f goals js k tidy ok room fits goes =
    let o = some_ok (scope s all strict) l vs c kn a ok in
    let there = only_goes s rest kn a f.env o.is (fits_right s (vs ++ variables c) rest kn f.env fits) in
    let p = goal_pair (scope s all true) None c kn in
    let cond' = trace s m (frame f.act f.env (numbered_goal (suc number) c ∷ []) []) [] k in
    let found = λ (d : Env) (n : ℕ). trace s m (frame f.act f.env goals f.pairs) js n in
    let room' : HasRoom all (variables c) rest = λ x. let q = room x in let i = times-append x vs (variables c) in omega (arith, q, i) in
    let fits' : Fits s (variables c ++ rest) kn f.env = fits_fewer s ((vs ++ variables c) ++ rest) (variables c ++ rest) kn f.env
    (λ x there. let i = times-append x vs (variables c) in let g = times-append x (vs ++ variables c) rest in let h = times-append x (variables c) rest in omega (arith, there, i, g, h)) fits in
    turned (in_turn (cut p) r) f.act (Some number) 1 (first cond' k found (λ n. []) (excps js))
    (meets_cut p r (λ d. Fits s rest o.inner.known d) cond' k found (λ n. []) (excps js)
    (condition_fine s m (all_below s judged.proper m) all c kn rest o.inner (suc number) f.act f.env k tidy o.begins room' fits')
    (condition_counted s m below all c kn rest o.inner (suc number) f.act f.env k tidy o.begins room' fits')
    (λ d n inside. goes m (omega arith) f.env n there.0 there.1) (λ n. tt))

-- ---- any goal

expr_counted : (s : Hlds) (judged : Judged s) (m : ℕ) → TallyBelow s m → (all : List ℕ) (strict : Bool) (at : Option ℕ) (l : ℕ) (t : GoalExpr) (kn : InstMap) (rest : List ℕ) (r : Pair) (a : After)
    (number act : ℕ) (e : Env) (goals : List Numbered) (pairs : List (ℕ × ℕ)) (js : List Frame) (k : ℕ)
    → IsTidyExpr t → expr (scope s all strict) l t kn ≡ Ok a → HasRoom all (expr_variables t) rest → Fits s (expr_variables t ++ rest) kn e → IsChosen s at (At l t) e → CountsOn s r (suc m) act goals pairs js rest a
    → Meets (in_turn (expr_pair (scope s all strict) at t kn) r) (unfold_expr s (λ f js k. trace s m f js k) (frame act e (numbered_goal number (At l t) ∷ goals) pairs) number goals js k t)
expr_counted s judged m below all strict at l (SimpleGoal g) kn rest r a number act e goals pairs js k tidy ok room fits begins goes =
    let o = ok_reached (goes_on g) (rules.simple s strict l g kn) a ok in
    let vars = simple_variables g ++ rest in
    simple_counted s r m number (frame act e (numbered_goal number (At l (SimpleGoal g)) ∷ goals) pairs) goals js k rest vars a (simple_pair s at g kn) (run.simple s e g)
    (subst (λ (b : Bool). LeadsTo s vars b a.known (run.simple s e g)) (sym o.1) (simple_leads s vars strict l g kn a.known e tidy fits (in_left (simple_variables g) rest) o.0))
    (simple_sure s judged.differ vars at strict l g kn a.known e fits (in_left (simple_variables g) rest) tidy o.0 begins)
    (in_right (simple_variables g) rest) goes
expr_counted s judged m below all strict at l (CallGoal site q ys) kn rest r a number act e goals pairs js k tidy ok room fits begins goes =
    let o = ok_reached true (atomic s strict l (CallGoal site q ys) kn) a ok in
    name_counted s judged m below r strict l q (predicate_called s q) ys rest kn a.known e act (numbered_goal number (At l (CallGoal site q ys)) ∷ goals) number goals pairs js k site refl tidy o.0 fits
    (λ n lt d i reach inner. goes n lt d i o.1 inner)
expr_counted s judged m below all strict at l (HoCallGoal site f ys) kn rest r a number act e goals pairs js k tidy ok room fits begins goes =
    let o = ok_reached true (atomic s strict l (HoCallGoal site f ys) kn) a ok in
    let fewer = fits_fewer s ((f ∷ ys) ++ rest) (ys ++ rest) kn e (λ x there. more_times x f (ys ++ rest) there) fits in
    let own = numbered_goal number (At l (HoCallGoal site f ys)) ∷ goals in
    subst (λ (p : Pair). Meets (in_turn p r) (applied s (λ f js k. trace s m f js k) (frame act e own pairs) number goals js k site ys (value_at e f))) (sym (apply_pair_is strict l ys (known_at kn f) kn a.known o.0))
    (closure_counted s judged m below r strict l (value_at e f) ys rest (type_of (known_at kn f)) kn a.known e act own number goals pairs js k site
    (known_applied s strict l ys (value_at e f) (known_at kn f) kn a.known (fits.each f (first_times f (ys ++ rest))) o.0)
    tidy fewer (λ n lt d i reach inner. goes n lt d i o.1 inner))
expr_counted s judged m below all strict at l (ConjGoal ps) kn rest r a number act e goals pairs js k tidy ok room fits begins goes =
    let p = each_pair (scope s all strict) at ps kn in
    turned (in_turn p r) act (Some number) 1 (trace s m (frame act e (numbered_from (suc number) ps ++ goals) pairs) js k)
    (each_counted s m below all strict at ps m kn rest r a (suc number) act e goals pairs js k (omega arith) tidy ok room fits (first_chosen s at l ps e begins) goes)
expr_counted s judged m below all strict at l (DisjGoal ps) kn rest r a number act e goals pairs js k tidy ok room fits begins goes =
    let b = ok_then (arms (scope s all strict) ps kn) (λ ends. branch.joined l (outside all (parts_variables ps)) kn ends) a ok in
    let f = frame act e (numbered_goal number (At l (DisjGoal ps)) ∷ goals) pairs in
    let go = λ (f : Frame) (js : List Frame) (k : ℕ). trace s m f js k in
    turned (in_turn (expr_pair (scope s all strict) at (DisjGoal ps) kn) r) act (Some number) 1 (disjunction go f goals js k (numbered_from (suc number) ps) (switch_shape s ps))
    (any_shape s judged (scope s all strict) (parts_variables ps ++ rest) kn (switch_shape s ps) r go f goals js k ps (suc number) b.0 refl refl fits (in_left (parts_variables ps) rest) b.1
    (λ at. arms_counted s m below all strict at ps kn (parts_variables ps) rest r a b.0 (suc number) f goals js tidy b.1 room (λ x. omega arith) fits
    (joined_join l (outside all (parts_variables ps)) kn b.0 a (arms_later (scope s all strict) ps kn b.0 b.1) b.2) goes))
expr_counted s judged m below all strict at l (IfGoal c t u) kn rest r a number act e goals pairs js k tidy ok room fits begins goes =
    if_counted s judged m below all strict l c t u kn rest r a number (frame act e (numbered_goal number (At l (IfGoal c t u)) ∷ goals) pairs) goals js k tidy ok room fits goes
expr_counted s judged m below all strict at l (NotGoal c) kn rest r a number act e goals pairs js k tidy ok room fits begins goes =
    not_counted s judged m below all strict l c kn rest r a number (frame act e (numbered_goal number (At l (NotGoal c)) ∷ goals) pairs) goals js k tidy ok room fits goes
expr_counted s judged m below all strict at l (SomeGoal vs c) kn rest r a number act e goals pairs js k tidy ok room fits begins goes =
    some_counted s judged m below all strict l vs c kn rest r a number (frame act e (numbered_goal number (At l (SomeGoal vs c)) ∷ goals) pairs) goals js k tidy ok room fits goes

deeper : (s : Hlds) (judged : Judged s) (m : ℕ) → TallyBelow s m → Tally s (suc m)
deeper s judged m below all strict at (At l t) kn rest r a number act e goals pairs js k tidy ok room fits begins goes =
    expr_counted s judged m below all strict at l t kn rest r a number act e goals pairs js k tidy ok room fits begins goes

flat : (s : Hlds) → Tally s zero
flat s all strict at p kn rest r a number act e goals pairs js k tidy ok room fits begins goes = record { within = tt; there = λ f. tt }

below_more : (s : Hlds) (m : ℕ) → TallyBelow s m → Tally s (suc m) → TallyBelow s (suc m)
below_more s m below next n le = elim (cases_lt n (suc m)) [
  | inl lt ↦ below n (omega (arith, lt))
  | inr ge ↦ let same : n ≡ suc m = omega (arith, le, ge) in subst (λ (i : ℕ). Tally s i) (sym same) next
]

below_none : (s : Hlds) → TallyBelow s zero
below_none s n le = let same : n ≡ zero = omega (arith, le) in subst (λ (i : ℕ). Tally s i) (sym same) (flat s)

tallies : (s : Hlds) → Judged s → (m : ℕ) → TallyBelow s m
tallies s judged zero = below_none s
tallies s judged (suc m) = let below = tallies s judged m in below_more s m below (deeper s judged m below)

-- an accepted goal has as many answers as its pair says
pub tally : (s : Hlds) → Judged s → (m : ℕ) → Tally s m
tally s judged m = tallies s judged m m (omega arith)

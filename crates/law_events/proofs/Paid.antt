-- Each call of a trace comes right after a turn that weighs something: so a run has no more calls than its budget.
use Rattle.std.proofs.Common.{◌≡◌, refl, sym, subst, arith, ℕ, zero, suc, ◌+◌, ◌-◌, ◌<◌, ◌≤◌, ◌^◌, Bool, true, false, nat_le, List, [], ◌∷◌, ◌++◌, length, Option, Some, None}
use Rattle.std.proofs.lemmas.Bool.{leb-true}
use Rattle.md_hlds.specs.declared.types.Det.{Det}
use Rattle.md_hlds.specs.declared.types.Det.TheVariants.{Semidet, Multi, Nondet, Failure}
use Rattle.md_hlds.specs.declared.types.Det.TheVariants.{Det as One}
use Rattle.md_hlds.specs.HldsGoal.{HldsGoal, At, GoalExpr, SimpleGoal, CallGoal, HoCallGoal, ConjGoal, DisjGoal, IfGoal, NotGoal, SomeGoal, goal_size, Numbered, numbered_goal, numbered_from, site_count}
use Rattle.md_hlds.specs.Hlds.{Hlds, Procedure, procedure_called, nth_procedure}
use Rattle.md_hlds.specs.Value.{Value, Number, Literal, Built, Closure, listed_values, Env, value_at}
use Rattle.md_hlds.specs.Simple.{Outcome, Go, No, Throws, Stop, simple}
use Rattle.md_hlds.specs.Switch.{Key, switch_shape, arm_for}
use Rattle.md_hlds.specs.Trace.{Turn, Call, Exit, Redo, Fail, Excp, Alloc, Out, Throw, Answer, Stuck, Deep, Items, Does, Frame, joined, first, excps, doing, knowing, alone, allocated, written, after_simple, arms, one_arm, switched, disjunction, body_frame, cut_off, run_body, back, call_if, invoked, applied, entered, call_weight, unfold_expr, unfold_goal, returns, trace, pairs_of, without}
use Rattle.md_hlds.specs.Run.{cut, cut_turn, main_name, main_frame, main_items, run_main, run}
use Rattle.md_hlds.proofs.BudgetLemmas.{won, lost}
use Rattle.law_events.specs.History.{call_count}
use Rattle.law_events.specs.Table.{HasMain}
use Rattle.law_events.specs.Laws.{CallsArePaid, CallsAreFew}

data Paid : Items → Type 0 where
  none : Paid []
  turn : (a : ℕ) (g : Option ℕ) (w : ℕ) (xs : Items) → Paid xs → Paid (Turn a g w ∷ xs)
  call : (a : ℕ) (g : Option ℕ) (w b : ℕ) (p s : Option ℕ) (q : ℕ) (xs : Items) → Paid xs → Paid (Turn a g (suc w) ∷ Call b p s q ∷ xs)
  exit : (a : ℕ) (xs : Items) → Paid xs → Paid (Exit a ∷ xs)
  redo : (a : ℕ) (xs : Items) → Paid xs → Paid (Redo a ∷ xs)
  fail : (a : ℕ) (xs : Items) → Paid xs → Paid (Fail a ∷ xs)
  excp : (a : ℕ) (xs : Items) → Paid xs → Paid (Excp a ∷ xs)
  alloc : (a w : ℕ) (xs : Items) → Paid xs → Paid (Alloc a w ∷ xs)
  out : (bytes : List ℕ) (xs : Items) → Paid xs → Paid (Out bytes ∷ xs)
  throw : (bytes : List ℕ) (xs : Items) → Paid xs → Paid (Throw bytes ∷ xs)
  answer : (e : Env) (xs : Items) → Paid xs → Paid (Answer e ∷ xs)
  stuck : (xs : Items) → Paid xs → Paid (Stuck ∷ xs)
  deep : (xs : Items) → Paid xs → Paid (Deep ∷ xs)

-- ---- one trace behind another

paid_append : (xs ys : Items) → Paid xs → Paid ys → Paid (xs ++ ys)
paid_append _ ys none m = m
paid_append _ ys (turn a g w xs h) m = turn a g w _ (paid_append xs ys h m)
paid_append _ ys (call a g w b p s q xs h) m = call a g w b p s q _ (paid_append xs ys h m)
paid_append _ ys (exit a xs h) m = exit a _ (paid_append xs ys h m)
paid_append _ ys (redo a xs h) m = redo a _ (paid_append xs ys h m)
paid_append _ ys (fail a xs h) m = fail a _ (paid_append xs ys h m)
paid_append _ ys (excp a xs h) m = excp a _ (paid_append xs ys h m)
paid_append _ ys (alloc a w xs h) m = alloc a w _ (paid_append xs ys h m)
paid_append _ ys (out bytes xs h) m = out bytes _ (paid_append xs ys h m)
paid_append _ ys (throw bytes xs h) m = throw bytes _ (paid_append xs ys h m)
paid_append _ ys (answer e xs h) m = answer e _ (paid_append xs ys h m)
paid_append _ ys (stuck xs h) m = stuck _ (paid_append xs ys h m)
paid_append _ ys (deep xs h) m = deep _ (paid_append xs ys h m)

paid_joined : (xs : Items) (k : ℕ) (rest : ℕ → Items) → Paid xs → ((k : ℕ) → Paid (rest k)) → Paid (joined xs k rest)
paid_joined _ k rest none m = m k
paid_joined _ k rest (turn a g w xs h) m = turn a g w _ (paid_joined xs k rest h m)
paid_joined _ k rest (call a g w b p s q xs h) m = call a g w b p s q _ (paid_joined xs (suc k) rest h m)
paid_joined _ k rest (exit a xs h) m = exit a _ (paid_joined xs k rest h m)
paid_joined _ k rest (redo a xs h) m = redo a _ (paid_joined xs k rest h m)
paid_joined _ k rest (fail a xs h) m = fail a _ (paid_joined xs k rest h m)
paid_joined _ k rest (excp a xs h) m = excp a _ (paid_joined xs k rest h m)
paid_joined _ k rest (alloc a w xs h) m = alloc a w _ (paid_joined xs k rest h m)
paid_joined _ k rest (out bytes xs h) m = out bytes _ (paid_joined xs k rest h m)
paid_joined _ k rest (throw bytes xs h) m = throw bytes xs h
paid_joined _ k rest (answer e xs h) m = answer e _ (paid_joined xs k rest h m)
paid_joined _ k rest (stuck xs h) m = stuck [] none
paid_joined _ k rest (deep xs h) m = deep [] none

paid_first : (xs : Items) (k : ℕ) (found : Env → ℕ → Items) (missed : ℕ → Items) (thrown : Items)
    → Paid xs → ((e : Env) (k : ℕ) → Paid (found e k)) → ((k : ℕ) → Paid (missed k)) → Paid thrown → Paid (first xs k found missed thrown)
paid_first _ k found missed thrown none f m t = m k
paid_first _ k found missed thrown (turn a g w xs h) f m t = turn a g w _ (paid_first xs k found missed thrown h f m t)
paid_first _ k found missed thrown (call a g w b p s q xs h) f m t = call a g w b p s q _ (paid_first xs (suc k) found missed thrown h f m t)
paid_first _ k found missed thrown (exit a xs h) f m t = exit a _ (paid_first xs k found missed thrown h f m t)
paid_first _ k found missed thrown (redo a xs h) f m t = redo a _ (paid_first xs k found missed thrown h f m t)
paid_first _ k found missed thrown (fail a xs h) f m t = fail a _ (paid_first xs k found missed thrown h f m t)
paid_first _ k found missed thrown (excp a xs h) f m t = excp a _ (paid_first xs k found missed thrown h f m t)
paid_first _ k found missed thrown (alloc a w xs h) f m t = alloc a w _ (paid_first xs k found missed thrown h f m t)
paid_first _ k found missed thrown (out bytes xs h) f m t = out bytes _ (paid_first xs k found missed thrown h f m t)
paid_first _ k found missed thrown (throw bytes xs h) f m t = throw bytes _ (paid_append xs thrown h t)
paid_first _ k found missed thrown (answer e xs h) f m t = f e k
paid_first _ k found missed thrown (stuck xs h) f m t = stuck [] none
paid_first _ k found missed thrown (deep xs h) f m t = deep [] none

paid_excps : (js : List Frame) → Paid (excps js)
paid_excps [] = none
paid_excps (f ∷ js) = excp f.act _ (paid_excps js)

-- ---- one goal

abbrev Pays : Does → Type 0
Pays go = (f : Frame) (js : List Frame) (k : ℕ) → Paid (go f js k)

paid_allocated : (a words : ℕ) (xs : Items) → Paid xs → Paid (allocated a words ++ xs)
paid_allocated a zero xs h = h
paid_allocated a (suc w) xs h = alloc a (suc w) xs h

paid_written : (bytes : Option (List ℕ)) (xs : Items) → Paid xs → Paid (written bytes ++ xs)
paid_written None xs h = h
paid_written (Some bytes) xs h = out bytes xs h

module _ (s : Hlds) (go : Does) (pays : Pays go) where
  paid_simple : (f : Frame) (n : ℕ) (goals : List Numbered) (js : List Frame) (k : ℕ) (o : Outcome) → Paid (after_simple go f n goals js k o)
  paid_simple f n goals js k (Go e extra words bytes) = turn _ _ _ _ (paid_allocated f.act words _ (paid_written bytes _ (pays (knowing f e goals) js k)))
  paid_simple f n goals js k (No extra) = turn _ _ _ _ none
  paid_simple f n goals js k (Throws bytes) = turn _ _ _ _ (throw bytes _ (paid_excps (f ∷ js)))
  paid_simple f n goals js k Stop = turn _ _ _ _ (stuck [] none)

  paid_arms : (f : Frame) (goals : List Numbered) (js : List Frame) (k : ℕ) (ps : List Numbered) → Paid (arms go f goals js k ps)
  paid_arms f goals js k [] = none
  paid_arms f goals js k (p ∷ ps) = paid_joined _ k _ (pays (doing f (p ∷ goals)) js k) (λ n. paid_arms f goals js n ps)

  paid_one_arm : (f : Frame) (goals : List Numbered) (js : List Frame) (k : ℕ) (o : Option Numbered) → Paid (one_arm go f goals js k o)
  paid_one_arm f goals js k None = none
  paid_one_arm f goals js k (Some p) = pays (doing f (p ∷ goals)) js k

  paid_switched : (f : Frame) (goals : List Numbered) (js : List Frame) (k : ℕ) (ps : List Numbered) (keys : List Key) (v : Option Value) → Paid (switched go f goals js k ps keys v)
  paid_switched f goals js k ps keys None = paid_arms f goals js k ps
  paid_switched f goals js k ps keys (Some v) = paid_one_arm f goals js k (arm_for v keys ps)

  paid_disjunction : (f : Frame) (goals : List Numbered) (js : List Frame) (k : ℕ) (ps : List Numbered) (shape : Option (ℕ × List Key)) → Paid (disjunction go f goals js k ps shape)
  paid_disjunction f goals js k ps None = paid_arms f goals js k ps
  paid_disjunction f goals js k ps (Some shape) = paid_switched f goals js k ps shape.1 (value_at f.env shape.0)

  paid_cut : (callee caller : Frame) (js : List Frame) (k : ℕ) → Paid (run_body go One callee caller js k)
  paid_cut callee caller js k =
      paid_first _ (suc k) _ _ (excps (caller ∷ js)) (pays (cut_off callee) [] (suc k)) (λ e n. exit k _ (pays (knowing caller (back callee.pairs e caller.env) caller.goals) js n))
      (λ n. fail k [] none) (paid_excps (caller ∷ js))

  paid_all : (callee caller : Frame) (js : List Frame) (k : ℕ) → Paid (run_body go Multi callee caller js k)
  paid_all callee caller js k = paid_joined _ (suc k) _ (pays callee (caller ∷ js) (suc k)) (λ n. fail k [] none)

  paid_body : (d : Det) (callee caller : Frame) (js : List Frame) (k : ℕ) → Paid (run_body go d callee caller js k)
  paid_body One = paid_cut
  paid_body Semidet = paid_cut
  paid_body Failure = paid_cut
  paid_body Multi = paid_all
  paid_body Nondet = paid_all

  paid_call : (f : Frame) (n : ℕ) (goals : List Numbered) (js : List Frame) (k site : ℕ) (q : ℕ × Procedure) (vs : List Value) (ys : List ℕ) (right : Bool) → Paid (call_if s go f n goals js k site q vs ys right)
  paid_call f n goals js k site q vs ys true =
      call f.act (Some n) (length q.1.vars + site_count q.1.body) k (Some f.act) (Some site) q.0 _
      (paid_body q.1.det (body_frame s k (entered q.1 vs ys f.env) q (pairs_of (without vs q.1.head) ys)) (doing f goals) js k)
  paid_call f n goals js k site q vs ys false = turn _ _ _ _ (stuck [] none)

  paid_invoked : (f : Frame) (n : ℕ) (goals : List Numbered) (js : List Frame) (k site : ℕ) (o : Option (ℕ × Procedure)) (vs : List Value) (ys : List ℕ) → Paid (invoked s go f n goals js k site o vs ys)
  paid_invoked f n goals js k site None vs ys = turn _ _ _ _ (stuck [] none)
  paid_invoked f n goals js k site (Some q) vs ys = paid_call f n goals js k site q vs ys _

  paid_applied : (f : Frame) (n : ℕ) (goals : List Numbered) (js : List Frame) (k site : ℕ) (ys : List ℕ) (v : Option Value) → Paid (applied s go f n goals js k site ys v)
  paid_applied f n goals js k site ys (Some (Closure q held)) = paid_invoked f n goals js k site (nth_procedure s q) (listed_values held) ys
  paid_applied f n goals js k site ys (Some (Number i)) = turn _ _ _ _ (stuck [] none)
  paid_applied f n goals js k site ys (Some (Literal bytes)) = turn _ _ _ _ (stuck [] none)
  paid_applied f n goals js k site ys (Some (Built name parts)) = turn _ _ _ _ (stuck [] none)
  paid_applied f n goals js k site ys None = turn _ _ _ _ (stuck [] none)

  paid_expr : (f : Frame) (n : ℕ) (goals : List Numbered) (js : List Frame) (k : ℕ) (x : GoalExpr) → Paid (unfold_expr s go f n goals js k x)
  paid_expr f n goals js k (SimpleGoal g) = paid_simple f n goals js k (simple s f.env g)
  paid_expr f n goals js k (ConjGoal ps) = turn _ _ _ _ (pays (doing f (numbered_from (suc n) ps ++ goals)) js k)
  paid_expr f n goals js k (DisjGoal ps) = turn _ _ _ _ (paid_disjunction f goals js k (numbered_from (suc n) ps) (switch_shape s ps))
  paid_expr f n goals js k (IfGoal c x y) =
      turn _ _ _ _ (paid_first _ k _ _ (excps js) (pays (alone f (numbered_goal (suc n) c)) [] k)
      (λ found m. pays (knowing f found (numbered_goal (suc n + goal_size c) x ∷ goals)) js m)
      (λ m. pays (doing f (numbered_goal (suc n + goal_size c + goal_size x) y ∷ goals)) js m)
      (paid_excps js))
  paid_expr f n goals js k (NotGoal c) =
      turn _ _ _ _ (paid_first _ k _ _ (excps js) (pays (alone f (numbered_goal (suc n) c)) [] k) (λ found m. none) (λ m. pays (doing f goals) js m) (paid_excps js))
  paid_expr f n goals js k (SomeGoal vs c) =
      turn _ _ _ _ (paid_first _ k _ _ (excps js) (pays (alone f (numbered_goal (suc n) c)) [] k) (λ found m. pays (doing f goals) js m) (λ m. none) (paid_excps js))
  paid_expr f n goals js k (CallGoal site q ys) = paid_invoked f n goals js k site (procedure_called s q) [] ys
  paid_expr f n goals js k (HoCallGoal site p ys) = paid_applied f n goals js k site ys (value_at f.env p)

  paid_goal : (f : Frame) (n : ℕ) (goals : List Numbered) (js : List Frame) (k : ℕ) (g : HldsGoal) → Paid (unfold_goal s go f n goals js k g)
  paid_goal f n goals js k (At line x) = paid_expr f n goals js k x

-- ---- a job, and the run

paid_returns : (next : Frame → Numbered → List Numbered → List Frame → ℕ → Items) → ((f : Frame) (g : Numbered) (goals : List Numbered) (js : List Frame) (k : ℕ) → Paid (next f g goals js k))
    → (js : List Frame) (f : Frame) (goals : List Numbered) (k : ℕ) → Paid (returns next js f goals k)
paid_returns next pays js f (g ∷ goals) k = pays f g goals js k
paid_returns next pays [] f [] k = answer f.env [] none
paid_returns next pays (c ∷ js) f [] k =
    exit f.act _ (paid_joined _ k _ (paid_returns next pays js (knowing c (back f.pairs f.env c.env) c.goals) c.goals k) (λ n. redo f.act [] none))

paid_trace : (s : Hlds) (depth : ℕ) (f : Frame) (js : List Frame) (k : ℕ) → Paid (trace s depth f js k)
paid_trace s zero f js k = paid_returns (λ f g goals js k. Deep ∷ []) (λ f g goals js k. deep [] none) js f f.goals k
paid_trace s (suc m) f js k =
    paid_returns _ (λ f g goals js k. paid_goal s (λ f js k. trace s m f js k) (paid_trace s m) f g.number goals js k g.goal) js f f.goals k

-- what the budget leaves has no more calls than it
few_turn : (left a : ℕ) (g : Option ℕ) (w : ℕ) (xs : Items) (fits : Bool) → nat_le w left ≡ fits → (w ≤ left → call_count xs ≤ left) → call_count (cut_turn a g w xs fits) ≤ left
few_turn left a g w xs false is h = omega arith
few_turn left a g w xs true is h = h (leb-true w left is)

few_calls : (left : ℕ) (xs : Items) → Paid xs → call_count (cut left xs) ≤ left
few_calls left _ none = omega arith
few_calls left _ (turn a g w xs h) = few_turn left a g w (cut (left - w) xs) (nat_le w left) refl (λ fits. omega (arith, fits, few_calls (left - w) xs h))
few_calls left _ (call a g w b p s q xs h) =
    few_turn left a g (suc w) (Call b p s q ∷ cut (left - suc w) xs) (nat_le (suc w) left) refl (λ fits. omega (arith, fits, few_calls (left - suc w) xs h))
few_calls left _ (exit a xs h) = few_calls left xs h
few_calls left _ (redo a xs h) = few_calls left xs h
few_calls left _ (fail a xs h) = few_calls left xs h
few_calls left _ (excp a xs h) = few_calls left xs h
few_calls left _ (alloc a w xs h) = few_calls left xs h
few_calls left _ (out bytes xs h) = few_calls left xs h
few_calls left _ (throw bytes xs h) = few_calls left xs h
few_calls left _ (answer e xs h) = few_calls left xs h
few_calls left _ (stuck xs h) = few_calls left xs h
few_calls left _ (deep xs h) = few_calls left xs h

-- what follows main's call
paid_after : (s : Hlds) (b : ℕ) (m : ℕ × Procedure) → Paid (first (trace s b (main_frame s m) [] 1) 1 won lost [])
paid_after s b m = paid_first _ 1 won lost [] (paid_trace s b (main_frame s m) [] 1) (λ e k. exit 0 _ (answer e [] none)) (λ k. fail 0 [] none) none

paid_run : (s : Hlds) (b : ℕ) (o : Option (ℕ × Procedure)) → call_count (run_main s b o) ≤ b
paid_run s b None = omega arith
paid_run s b (Some m) = few_calls b (main_items s b m) (call 0 None (length m.1.vars + site_count m.1.body) 0 None None m.0 _ (paid_after s b m))

pub calls_are_paid : CallsArePaid
unfolding run
calls_are_paid s b = paid_run s b (procedure_called s main_name)

-- main's turn weighs 2 at least
few_main : (s : Hlds) (b : ℕ) (m : ℕ × Procedure) → 0 < length m.1.vars → b < 2 ^ 32 → call_count (run_main s b (Some m)) < 4294967295
few_main s b m variable small =
    let w : ℕ = call_weight m.1 in
    let rest : Items = first (trace s b (main_frame s m) [] 1) 1 won lost [] in
    by w rest (nat_le w b) refl (few_calls (b - w) rest (paid_after s b m)) (omega (arith, variable))
  where
    by : (w : ℕ) (rest : Items) (fits : Bool) → nat_le w b ≡ fits → call_count (cut (b - w) rest) ≤ b - w → 2 ≤ w
        → call_count (cut_turn 0 None w (Call 0 None None m.0 ∷ cut (b - w) rest) fits) < 4294967295
    by w rest false is few heavy = omega arith
    by w rest true is few heavy = omega (arith, small, few, heavy, leb-true w b is)

few_run : (s : Hlds) (b : ℕ) (main : HasMain s) (o : Option (ℕ × Procedure)) → o ≡ Some (main.number, main.procedure) → b < 2 ^ 32 → call_count (run_main s b o) < 4294967295
few_run s b main o is small = subst (λ o. call_count (run_main s b o) < 4294967295) (sym is) (few_main s b (main.number, main.procedure) main.variable small)

pub calls_are_few : CallsAreFew
unfolding run
calls_are_few s b main small = few_run s b main (procedure_called s main_name) main.called small

-- No turn of a trace is left out: each is that of a job which the trace comes to.
use Rattle.std.proofs.Common.{◌≡◌, refl, ap, ◌∙◌, inl, inr, arith, ℕ, zero, suc, ◌+◌, ◌⊎◌, Bool, true, false, nat_eq, List, [], ◌∷◌, ◌++◌, length, Option, Some, None}
use Rattle.std.proofs.lemmas.Bool.{eqb-true}
use Rattle.md_hlds.specs.declared.types.Det.{Det}
use Rattle.md_hlds.specs.declared.types.Det.TheVariants as det
use Rattle.md_hlds.specs.HldsGoal.{HldsGoal, At, GoalExpr, SimpleGoal, CallGoal, HoCallGoal, ConjGoal, DisjGoal, IfGoal, NotGoal, SomeGoal, goal_size, Numbered, numbered_goal, numbered_from}
use Rattle.md_hlds.specs.Hlds.{Procedure, Hlds, procedure_called, nth_procedure}
use Rattle.md_hlds.specs.Value.{Value, Values, Number, Literal, Built, Closure, listed_values, Env, value_at}
use Rattle.md_hlds.specs.Simple.{Outcome, Go, No, Throws, Stop, simple}
use Rattle.md_hlds.specs.Switch.{Key, switch_shape, arm_for}
use Rattle.md_hlds.specs.Trace.{Turn, Call, Exit, Redo, Fail, Excp, Alloc, Out, Throw, Answer, Stuck, Deep, Items, Frame, Does, joined, first, excps, back, pairs_of, without, doing, knowing, alone, allocated, written, after_simple, one_arm, switched, disjunction, cut_off, run_body, call_weight, call_if, invoked, applied, unfold_expr, unfold_goal, returns, trace}
use Rattle.md_hlds.specs.Trace as item
use Rattle.md_hlds.proofs.DepthLemmas.{AreExcps, are_excps}
use Rattle.law_safety.specs.Unfolding.{Job, job, first_answer, failed, ended, switch_value, Tries, at_once, later, is_cut, callee, Calls, begins_cut, has_exited, begins_whole, Unfolds, goes, parts, tries, switches, asks, holds, fails, denies, is_denied, seeks, has_found, calls, applies, expr_in, Next, here, further, HasTurn, ComesToTurn}

-- ---- turns of traces that are put together

excps_have_none : (a n : ℕ) (xs : Items) → AreExcps xs → HasTurn a n xs → ⊥
excps_have_none a n [] h t = t
excps_have_none a n (Excp b ∷ xs) h t = excps_have_none a n xs h t
excps_have_none a n (Turn b (Some g) w ∷ xs) h t = h
excps_have_none a n (Turn b None w ∷ xs) h t = h
excps_have_none a n (Call b p c q ∷ xs) h t = h
excps_have_none a n (Exit b ∷ xs) h t = h
excps_have_none a n (Redo b ∷ xs) h t = h
excps_have_none a n (Fail b ∷ xs) h t = h
excps_have_none a n (Alloc b w ∷ xs) h t = h
excps_have_none a n (Out bytes ∷ xs) h t = h
excps_have_none a n (Throw bytes ∷ xs) h t = h
excps_have_none a n (Answer e ∷ xs) h t = h
excps_have_none a n (Stuck ∷ xs) h t = h
excps_have_none a n (Deep ∷ xs) h t = h

-- a turn of two traces, the one after the other
abbrev InOne : ℕ → ℕ → Items → ℕ → (ℕ → Items) → Type 0
InOne a n xs k rest = HasTurn a n xs ⊎ ((i : ℕ) × (ended xs k ≡ Some i) × HasTurn a n (rest i))

turn_joined : (a n : ℕ) (xs : Items) (k : ℕ) (rest : ℕ → Items) → HasTurn a n (joined xs k rest) → InOne a n xs k rest
turn_joined a n [] k rest t = inr (k, refl, t)
turn_joined a n (Turn b (Some g) w ∷ xs) k rest (inl is) = inl (inl is)
turn_joined a n (Turn b (Some g) w ∷ xs) k rest (inr t) = more_joined a n b g w xs k rest (turn_joined a n xs k rest t)
  where
    more_joined : (a n b g w : ℕ) (xs : Items) (k : ℕ) (rest : ℕ → Items) → InOne a n xs k rest → InOne a n (Turn b (Some g) w ∷ xs) k rest
    more_joined a n b g w xs k rest (inl t) = inl (inr t)
    more_joined a n b g w xs k rest (inr t) = inr t
turn_joined a n (Turn b None w ∷ xs) k rest t = turn_joined a n xs k rest t
turn_joined a n (Call b p c q ∷ xs) k rest t = turn_joined a n xs (suc k) rest t
turn_joined a n (Exit b ∷ xs) k rest t = turn_joined a n xs k rest t
turn_joined a n (Redo b ∷ xs) k rest t = turn_joined a n xs k rest t
turn_joined a n (Fail b ∷ xs) k rest t = turn_joined a n xs k rest t
turn_joined a n (Excp b ∷ xs) k rest t = turn_joined a n xs k rest t
turn_joined a n (Alloc b w ∷ xs) k rest t = turn_joined a n xs k rest t
turn_joined a n (Out bytes ∷ xs) k rest t = turn_joined a n xs k rest t
turn_joined a n (Throw bytes ∷ xs) k rest t = inl t
turn_joined a n (Answer e ∷ xs) k rest t = turn_joined a n xs k rest t
turn_joined a n (Stuck ∷ xs) k rest t = elim t [ ]
turn_joined a n (Deep ∷ xs) k rest t = elim t [ ]

-- a turn of a trace up to its first answer, and of what comes then
abbrev InFirst : ℕ → ℕ → Items → ℕ → (Env → ℕ → Items) → (ℕ → Items) → Type 0
InFirst a n xs k found missed = HasTurn a n xs ⊎ (((e : Env) × (i : ℕ) × (first_answer xs k ≡ Some (e, i)) × HasTurn a n (found e i)) ⊎ ((i : ℕ) × (failed xs k ≡ Some i) × HasTurn a n (missed i)))

turn_thrown : (a n : ℕ) (xs ys : Items) → AreExcps ys → HasTurn a n (xs ++ ys) → HasTurn a n xs
turn_thrown a n [] ys h t = excps_have_none a n ys h t
turn_thrown a n (Turn b (Some g) w ∷ xs) ys h (inl is) = inl is
turn_thrown a n (Turn b (Some g) w ∷ xs) ys h (inr t) = inr (turn_thrown a n xs ys h t)
turn_thrown a n (Turn b None w ∷ xs) ys h t = turn_thrown a n xs ys h t
turn_thrown a n (Call b p c q ∷ xs) ys h t = turn_thrown a n xs ys h t
turn_thrown a n (Exit b ∷ xs) ys h t = turn_thrown a n xs ys h t
turn_thrown a n (Redo b ∷ xs) ys h t = turn_thrown a n xs ys h t
turn_thrown a n (Fail b ∷ xs) ys h t = turn_thrown a n xs ys h t
turn_thrown a n (Excp b ∷ xs) ys h t = turn_thrown a n xs ys h t
turn_thrown a n (Alloc b w ∷ xs) ys h t = turn_thrown a n xs ys h t
turn_thrown a n (Out bytes ∷ xs) ys h t = turn_thrown a n xs ys h t
turn_thrown a n (Throw bytes ∷ xs) ys h t = turn_thrown a n xs ys h t
turn_thrown a n (Answer e ∷ xs) ys h t = turn_thrown a n xs ys h t
turn_thrown a n (Stuck ∷ xs) ys h t = turn_thrown a n xs ys h t
turn_thrown a n (Deep ∷ xs) ys h t = turn_thrown a n xs ys h t

pub turn_first : (a n : ℕ) (xs : Items) (k : ℕ) (found : Env → ℕ → Items) (missed : ℕ → Items) (thrown : Items) → AreExcps thrown → HasTurn a n (first xs k found missed thrown) → InFirst a n xs k found missed
turn_first a n [] k found missed thrown h t = inr (inr (k, refl, t))
turn_first a n (Turn b (Some g) w ∷ xs) k found missed thrown h (inl is) = inl (inl is)
turn_first a n (Turn b (Some g) w ∷ xs) k found missed thrown h (inr t) = more_first a n b g w xs k found missed (turn_first a n xs k found missed thrown h t)
  where
    more_first : (a n b g w : ℕ) (xs : Items) (k : ℕ) (found : Env → ℕ → Items) (missed : ℕ → Items) → InFirst a n xs k found missed → InFirst a n (Turn b (Some g) w ∷ xs) k found missed
    more_first a n b g w xs k found missed (inl t) = inl (inr t)
    more_first a n b g w xs k found missed (inr t) = inr t
turn_first a n (Turn b None w ∷ xs) k found missed thrown h t = turn_first a n xs k found missed thrown h t
turn_first a n (Call b p c q ∷ xs) k found missed thrown h t = turn_first a n xs (suc k) found missed thrown h t
turn_first a n (Exit b ∷ xs) k found missed thrown h t = turn_first a n xs k found missed thrown h t
turn_first a n (Redo b ∷ xs) k found missed thrown h t = turn_first a n xs k found missed thrown h t
turn_first a n (Fail b ∷ xs) k found missed thrown h t = turn_first a n xs k found missed thrown h t
turn_first a n (Excp b ∷ xs) k found missed thrown h t = turn_first a n xs k found missed thrown h t
turn_first a n (Alloc b w ∷ xs) k found missed thrown h t = turn_first a n xs k found missed thrown h t
turn_first a n (Out bytes ∷ xs) k found missed thrown h t = turn_first a n xs k found missed thrown h t
turn_first a n (Throw bytes ∷ xs) k found missed thrown h t = inl (turn_thrown a n xs thrown h t)
turn_first a n (Answer e ∷ xs) k found missed thrown h t = inr (inl (e, k, refl, t))
turn_first a n (Stuck ∷ xs) k found missed thrown h t = elim t [ ]
turn_first a n (Deep ∷ xs) k found missed thrown h t = elim t [ ]

turn_allocated : (a n b words : ℕ) (xs : Items) → HasTurn a n (allocated b words ++ xs) → HasTurn a n xs
turn_allocated a n b zero xs t = t
turn_allocated a n b (suc w) xs t = t

turn_written : (a n : ℕ) (out : Option (List ℕ)) (xs : Items) → HasTurn a n (written out ++ xs) → HasTurn a n xs
turn_written a n None xs t = t
turn_written a n (Some bytes) xs t = t

-- ---- what one goal comes to

-- every turn of each trace to this depth is that of a job which it comes to
abbrev AllMet : Hlds → ℕ → ℕ → ℕ → Type 0
AllMet s a n m = (f : Frame) (js : List Frame) (k : ℕ) → HasTurn a n (trace s m f js k) → ComesToTurn s (job m f js k) a n

-- some job that the goal comes to comes to the turn
abbrev GoalComes : Hlds → ℕ → ℕ → ℕ → Frame → ℕ → List Numbered → List Frame → ℕ → GoalExpr → Type 0
GoalComes s a n m f number goals js k t = (j : Job) × Unfolds s m f number goals js k t j × ComesToTurn s j a n

-- the turn is the goal's own, or a later one
abbrev Own : Hlds → ℕ → ℕ → ℕ → Frame → ℕ → List Numbered → List Frame → ℕ → GoalExpr → Type 0
Own s a n m f number goals js k t = ((f.act ≡ a) × (number ≡ n)) ⊎ GoalComes s a n m f number goals js k t

simple_met : (s : Hlds) (a n m : ℕ) → AllMet s a n m → (f : Frame) (number : ℕ) (goals : List Numbered) (js : List Frame) (k : ℕ) (g : _) (o : Outcome) → simple s f.env g ≡ o
    → HasTurn a n (after_simple (λ f js k. trace s m f js k) f number goals js k o) → Own s a n m f number goals js k (SimpleGoal g)
simple_met s a n m met f number goals js k g (Go e extra words out) is (inl t) = inl t
simple_met s a n m met f number goals js k g (Go e extra words out) is (inr t) =
    inr (
      job m (knowing f e goals) js k,
      goes g e extra words out is,
      met (knowing f e goals) js k (turn_written a n out (trace s m (knowing f e goals) js k) (turn_allocated a n f.act words (written out ++ trace s m (knowing f e goals) js k) t)),
    )
simple_met s a n m met f number goals js k g (No extra) is (inl t) = inl t
simple_met s a n m met f number goals js k g (No extra) is (inr t) = elim t [ ]
simple_met s a n m met f number goals js k g (Throws bytes) is (inl t) = inl t
simple_met s a n m met f number goals js k g (Throws bytes) is (inr t) = absurd (excps_have_none a n (excps (f ∷ js)) (are_excps (f ∷ js)) t)
simple_met s a n m met f number goals js k g Stop is (inl t) = inl t
simple_met s a n m met f number goals js k g Stop is (inr t) = elim t [ ]

-- ---- disjunctions

-- some arm is tried and comes to the turn
abbrev ArmComes : Hlds → ℕ → ℕ → ℕ → Frame → List Numbered → List Frame → ℕ → List Numbered → Type 0
ArmComes s a n m f goals js k qs = (p : Numbered) × (i : ℕ) × Tries s m f goals js qs k p i × ComesToTurn s (job m (doing f (p ∷ goals)) js i) a n

later_comes : (s : Hlds) (a n m : ℕ) (f : Frame) (goals : List Numbered) (js : List Frame) (k i : ℕ) (p : Numbered) (qs : List Numbered) → ended (trace s m (doing f (p ∷ goals)) js k) k ≡ Some i
    → ArmComes s a n m f goals js i qs → ArmComes s a n m f goals js k (p ∷ qs)
later_comes s a n m f goals js k i p qs is h = (h.0, h.1, later p qs k i h.0 h.1 is h.2, h.3)

arms_met : (s : Hlds) (a n m : ℕ) → AllMet s a n m → (f : Frame) (goals : List Numbered) (js : List Frame) (qs : List Numbered) (k : ℕ)
    → HasTurn a n (item.arms (λ f js k. trace s m f js k) f goals js k qs) → ArmComes s a n m f goals js k qs
arms_met s a n m met f goals js [] k t = elim t [ ]
arms_met s a n m met f goals js (p ∷ qs) k t =
    elim (turn_joined a n (trace s m (doing f (p ∷ goals)) js k) k (λ i. item.arms (λ f js k. trace s m f js k) f goals js i qs) t) [
      | inl t ↦ (p, k, at_once p qs k, met (doing f (p ∷ goals)) js k t)
      | inr r ↦ later_comes s a n m f goals js k r.0 p qs r.1 (arms_met s a n m met f goals js qs r.0 r.2)
    ]

one_arm_met : (s : Hlds) (a n m : ℕ) → AllMet s a n m → (f : Frame) (goals : List Numbered) (js : List Frame) (k : ℕ) (o : Option Numbered)
    → HasTurn a n (one_arm (λ f js k. trace s m f js k) f goals js k o) → (p : Numbered) × (o ≡ Some p) × ComesToTurn s (job m (doing f (p ∷ goals)) js k) a n
one_arm_met s a n m met f goals js k None t = elim t [ ]
one_arm_met s a n m met f goals js k (Some p) t = (p, refl, met (doing f (p ∷ goals)) js k t)

-- the disjunction, by its shape and by the value of the variable that it may switch on
in_turn_met : (s : Hlds) (a n m : ℕ) → AllMet s a n m → (f : Frame) (number : ℕ) (goals : List Numbered) (js : List Frame) (k : ℕ) (ps : _) → switch_value (switch_shape s ps) f.env ≡ None
    → HasTurn a n (item.arms (λ f js k. trace s m f js k) f goals js k (numbered_from (suc number) ps)) → GoalComes s a n m f number goals js k (DisjGoal ps)
in_turn_met s a n m met f number goals js k ps is t =
    let h = arms_met s a n m met f goals js (numbered_from (suc number) ps) k t in
    (job m (doing f (h.0 ∷ goals)) js h.1, tries ps h.0 h.1 is h.2, h.3)

switched_met : (s : Hlds) (a n m : ℕ) → AllMet s a n m → (f : Frame) (number : ℕ) (goals : List Numbered) (js : List Frame) (k : ℕ) (ps : _) (w : ℕ × List Key) (o : Option Value)
    → switch_shape s ps ≡ Some w → value_at f.env w.0 ≡ o
    → HasTurn a n (switched (λ f js k. trace s m f js k) f goals js k (numbered_from (suc number) ps) w.1 o) → GoalComes s a n m f number goals js k (DisjGoal ps)
switched_met s a n m met f number goals js k ps w None shape value t = in_turn_met s a n m met f number goals js k ps (ap (λ (c : Option (ℕ × List Key)). switch_value c f.env) shape ∙ value) t
switched_met s a n m met f number goals js k ps w (Some v) shape value t =
    let h = one_arm_met s a n m met f goals js k (arm_for v w.1 (numbered_from (suc number) ps)) t in
    (job m (doing f (h.0 ∷ goals)) js k, switches ps w v h.0 shape value h.1, h.2)

disjunction_met : (s : Hlds) (a n m : ℕ) → AllMet s a n m → (f : Frame) (number : ℕ) (goals : List Numbered) (js : List Frame) (k : ℕ) (ps : _) (o : Option (ℕ × List Key)) → switch_shape s ps ≡ o
    → HasTurn a n (disjunction (λ f js k. trace s m f js k) f goals js k (numbered_from (suc number) ps) o) → GoalComes s a n m f number goals js k (DisjGoal ps)
disjunction_met s a n m met f number goals js k ps None shape t = in_turn_met s a n m met f number goals js k ps (ap (λ (c : Option (ℕ × List Key)). switch_value c f.env) shape) t
disjunction_met s a n m met f number goals js k ps (Some w) shape t = switched_met s a n m met f number goals js k ps w (value_at f.env w.0) shape refl t

-- ---- calls

-- some job that the call comes to comes to the turn
abbrev CallComes : Hlds → ℕ → ℕ → ℕ → Frame → List Numbered → List Frame → ℕ → ℕ × Procedure → List Value → List ℕ → Type 0
CallComes s a n m f goals js k q vs ys = (j : Job) × Calls s m f goals js k q vs ys j × ComesToTurn s j a n

cut_met : (s : Hlds) (a n m : ℕ) → AllMet s a n m → (f : Frame) (goals : List Numbered) (js : List Frame) (k : ℕ) (q : ℕ × Procedure) (vs : List Value) (ys : List ℕ) → is_cut q.1.det ≡ true
    → HasTurn a n (run_body (λ f js k. trace s m f js k) det.Det (callee s f k q vs ys) (doing f goals) js k) → CallComes s a n m f goals js k q vs ys
cut_met s a n m met f goals js k q vs ys cut t =
    elim (turn_first a n (trace s m (cut_off (callee s f k q vs ys)) [] (suc k)) (suc k)
    (λ e i. Exit k ∷ trace s m (knowing f (back (pairs_of (without vs q.1.head) ys) e f.env) goals) js i) (λ i. Fail k ∷ []) (excps (doing f goals ∷ js)) (are_excps (doing f goals ∷ js)) t) [
      | inl t ↦ (job m (cut_off (callee s f k q vs ys)) [] (suc k), begins_cut cut, met (cut_off (callee s f k q vs ys)) [] (suc k) t)
      | inr r ↦ elim r [
        | inl h ↦ (job m (knowing f (back (pairs_of (without vs q.1.head) ys) h.0 f.env) goals) js h.1, has_exited h.0 h.1 cut h.2, met (knowing f (back (pairs_of (without vs q.1.head) ys) h.0 f.env) goals) js h.1 h.3)
        | inr h ↦ absurd (h.2)
      ]
    ]

whole_met : (s : Hlds) (a n m : ℕ) → AllMet s a n m → (f : Frame) (goals : List Numbered) (js : List Frame) (k : ℕ) (q : ℕ × Procedure) (vs : List Value) (ys : List ℕ) → is_cut q.1.det ≡ false
    → HasTurn a n (run_body (λ f js k. trace s m f js k) det.Multi (callee s f k q vs ys) (doing f goals) js k) → CallComes s a n m f goals js k q vs ys
whole_met s a n m met f goals js k q vs ys cut t =
    elim (turn_joined a n (trace s m (callee s f k q vs ys) (doing f goals ∷ js) (suc k)) (suc k) (λ i. Fail k ∷ []) t) [
      | inl t ↦ (job m (callee s f k q vs ys) (doing f goals ∷ js) (suc k), begins_whole cut, met (callee s f k q vs ys) (doing f goals ∷ js) (suc k) t)
      | inr r ↦ absurd (r.2)
    ]

call_met : (s : Hlds) (a n m : ℕ) → AllMet s a n m → (f : Frame) (goals : List Numbered) (js : List Frame) (k : ℕ) (q : ℕ × Procedure) (vs : List Value) (ys : List ℕ) (d : Det) → q.1.det ≡ d
    → HasTurn a n (run_body (λ f js k. trace s m f js k) d (callee s f k q vs ys) (doing f goals) js k) → CallComes s a n m f goals js k q vs ys
call_met s a n m met f goals js k q vs ys det.Det is t = cut_met s a n m met f goals js k q vs ys (ap is_cut is) t
call_met s a n m met f goals js k q vs ys det.Semidet is t = cut_met s a n m met f goals js k q vs ys (ap is_cut is) t
call_met s a n m met f goals js k q vs ys det.Failure is t = cut_met s a n m met f goals js k q vs ys (ap is_cut is) t
call_met s a n m met f goals js k q vs ys det.Multi is t = whole_met s a n m met f goals js k q vs ys (ap is_cut is) t
call_met s a n m met f goals js k q vs ys det.Nondet is t = whole_met s a n m met f goals js k q vs ys (ap is_cut is) t

-- the turn is the call's own, or the call comes to it, with as many variables as the head has
abbrev OwnCall : Hlds → ℕ → ℕ → ℕ → Frame → ℕ → List Numbered → List Frame → ℕ → Option (ℕ × Procedure) → List Value → List ℕ → Type 0
OwnCall s a n m f number goals js k o vs ys = ((f.act ≡ a) × (number ≡ n)) ⊎ ((q : ℕ × Procedure) × (o ≡ Some q) × (length vs + length ys ≡ length q.1.head) × CallComes s a n m f goals js k q vs ys)

call_if_met : (s : Hlds) (a n m : ℕ) → AllMet s a n m → (f : Frame) (number : ℕ) (goals : List Numbered) (js : List Frame) (k site : ℕ) (q : ℕ × Procedure) (vs : List Value) (ys : List ℕ) (b : Bool)
    → nat_eq (length vs + length ys) (length q.1.head) ≡ b → HasTurn a n (call_if s (λ f js k. trace s m f js k) f number goals js k site q vs ys b) → OwnCall s a n m f number goals js k (Some q) vs ys
call_if_met s a n m met f number goals js k site q vs ys true is (inl t) = inl t
call_if_met s a n m met f number goals js k site q vs ys true is (inr t) = inr (q, refl, eqb-true (length vs + length ys) (length q.1.head) is, call_met s a n m met f goals js k q vs ys q.1.det refl t)
call_if_met s a n m met f number goals js k site q vs ys false is (inl t) = inl t
call_if_met s a n m met f number goals js k site q vs ys false is (inr t) = elim t [ ]

invoked_met : (s : Hlds) (a n m : ℕ) → AllMet s a n m → (f : Frame) (number : ℕ) (goals : List Numbered) (js : List Frame) (k site : ℕ) (o : Option (ℕ × Procedure)) (vs : List Value) (ys : List ℕ)
    → HasTurn a n (invoked s (λ f js k. trace s m f js k) f number goals js k site o vs ys) → OwnCall s a n m f number goals js k o vs ys
invoked_met s a n m met f number goals js k site None vs ys (inl t) = inl t
invoked_met s a n m met f number goals js k site None vs ys (inr t) = elim t [ ]
invoked_met s a n m met f number goals js k site (Some q) vs ys t = call_if_met s a n m met f number goals js k site q vs ys (nat_eq (length vs + length ys) (length q.1.head)) refl t

name_met : (s : Hlds) (a n m : ℕ) (f : Frame) (number : ℕ) (goals : List Numbered) (js : List Frame) (k site : ℕ) (name : _) (ys : List ℕ)
    → OwnCall s a n m f number goals js k (procedure_called s name) [] ys → Own s a n m f number goals js k (CallGoal site name ys)
name_met s a n m f number goals js k site name ys (inl t) = inl t
name_met s a n m f number goals js k site name ys (inr h) = let c = h.3 in inr (c.0, calls site name ys h.0 c.0 h.1 (let size = h.2 in omega (arith, size)) c.1, c.2)

closure_met : (s : Hlds) (a n m : ℕ) (f : Frame) (number : ℕ) (goals : List Numbered) (js : List Frame) (k site x : ℕ) (ys : List ℕ) (c : ℕ) (held : Values) → value_at f.env x ≡ Some (Closure c held)
    → OwnCall s a n m f number goals js k (nth_procedure s c) (listed_values held) ys → Own s a n m f number goals js k (HoCallGoal site x ys)
closure_met s a n m f number goals js k site x ys c held is (inl t) = inl t
closure_met s a n m f number goals js k site x ys c held is (inr h) = let j = h.3 in inr (j.0, applies site x ys c held h.0 j.0 is h.1 h.2 j.1, j.2)

stuck_met : (s : Hlds) (a n m : ℕ) (f : Frame) (number : ℕ) (goals : List Numbered) (js : List Frame) (k : ℕ) (t : GoalExpr) → HasTurn a n (Turn f.act (Some number) 1 ∷ Stuck ∷ []) → Own s a n m f number goals js k t
stuck_met s a n m f number goals js k t (inl h) = inl h
stuck_met s a n m f number goals js k t (inr h) = elim h [ ]

applied_met : (s : Hlds) (a n m : ℕ) → AllMet s a n m → (f : Frame) (number : ℕ) (goals : List Numbered) (js : List Frame) (k site x : ℕ) (ys : List ℕ) (o : Option Value) → value_at f.env x ≡ o
    → HasTurn a n (applied s (λ f js k. trace s m f js k) f number goals js k site ys o) → Own s a n m f number goals js k (HoCallGoal site x ys)
applied_met s a n m met f number goals js k site x ys None is t = stuck_met s a n m f number goals js k (HoCallGoal site x ys) t
applied_met s a n m met f number goals js k site x ys (Some (Number v)) is t = stuck_met s a n m f number goals js k (HoCallGoal site x ys) t
applied_met s a n m met f number goals js k site x ys (Some (Literal v)) is t = stuck_met s a n m f number goals js k (HoCallGoal site x ys) t
applied_met s a n m met f number goals js k site x ys (Some (Built v vs)) is t = stuck_met s a n m f number goals js k (HoCallGoal site x ys) t
applied_met s a n m met f number goals js k site x ys (Some (Closure c held)) is t =
    closure_met s a n m f number goals js k site x ys c held is (invoked_met s a n m met f number goals js k site (nth_procedure s c) (listed_values held) ys t)

-- ---- conditions

if_met : (s : Hlds) (a n m : ℕ) → AllMet s a n m → (f : Frame) (number : ℕ) (goals : List Numbered) (js : List Frame) (k : ℕ) (c t e : HldsGoal)
    → HasTurn a n (unfold_expr s (λ f js k. trace s m f js k) f number goals js k (IfGoal c t e)) → Own s a n m f number goals js k (IfGoal c t e)
if_met s a n m met f number goals js k c t e (inl h) = inl h
if_met s a n m met f number goals js k c t e (inr h) =
    elim (turn_first a n (trace s m (alone f (numbered_goal (suc number) c)) [] k) k
    (λ d i. trace s m (knowing f d (numbered_goal (suc number + goal_size c) t ∷ goals)) js i)
    (λ i. trace s m (doing f (numbered_goal (suc number + goal_size c + goal_size t) e ∷ goals)) js i) (excps js) (are_excps js) h) [
      | inl w ↦ inr (job m (alone f (numbered_goal (suc number) c)) [] k, asks c t e, met (alone f (numbered_goal (suc number) c)) [] k w)
      | inr r ↦ elim r [
        | inl w ↦ inr (job m (knowing f w.0 (numbered_goal (suc number + goal_size c) t ∷ goals)) js w.1, holds c t e w.0 w.1 w.2, met (knowing f w.0 (numbered_goal (suc number + goal_size c) t ∷ goals)) js w.1 w.3)
        | inr w ↦ inr (job m (doing f (numbered_goal (suc number + goal_size c + goal_size t) e ∷ goals)) js w.0, fails c t e w.0 w.1, met (doing f (numbered_goal (suc number + goal_size c + goal_size t) e ∷ goals)) js w.0 w.2)
      ]
    ]

not_met : (s : Hlds) (a n m : ℕ) → AllMet s a n m → (f : Frame) (number : ℕ) (goals : List Numbered) (js : List Frame) (k : ℕ) (c : HldsGoal)
    → HasTurn a n (unfold_expr s (λ f js k. trace s m f js k) f number goals js k (NotGoal c)) → Own s a n m f number goals js k (NotGoal c)
not_met s a n m met f number goals js k c (inl h) = inl h
not_met s a n m met f number goals js k c (inr h) =
    elim (turn_first a n (trace s m (alone f (numbered_goal (suc number) c)) [] k) k (λ d i. []) (λ i. trace s m (doing f goals) js i) (excps js) (are_excps js) h) [
      | inl w ↦ inr (job m (alone f (numbered_goal (suc number) c)) [] k, denies c, met (alone f (numbered_goal (suc number) c)) [] k w)
      | inr r ↦ elim r [
        | inl w ↦ absurd (w.3)
        | inr w ↦ inr (job m (doing f goals) js w.0, is_denied c w.0 w.1, met (doing f goals) js w.0 w.2)
      ]
    ]

some_met : (s : Hlds) (a n m : ℕ) → AllMet s a n m → (f : Frame) (number : ℕ) (goals : List Numbered) (js : List Frame) (k : ℕ) (vs : List ℕ) (c : HldsGoal)
    → HasTurn a n (unfold_expr s (λ f js k. trace s m f js k) f number goals js k (SomeGoal vs c)) → Own s a n m f number goals js k (SomeGoal vs c)
some_met s a n m met f number goals js k vs c (inl h) = inl h
some_met s a n m met f number goals js k vs c (inr h) =
    elim (turn_first a n (trace s m (alone f (numbered_goal (suc number) c)) [] k) k (λ d i. trace s m (doing f goals) js i) (λ i. []) (excps js) (are_excps js) h) [
      | inl w ↦ inr (job m (alone f (numbered_goal (suc number) c)) [] k, seeks vs c, met (alone f (numbered_goal (suc number) c)) [] k w)
      | inr r ↦ elim r [
        | inl w ↦ inr (job m (doing f goals) js w.1, has_found vs c w.0 w.1 w.2, met (doing f goals) js w.1 w.3)
        | inr w ↦ absurd (w.2)
      ]
    ]

-- ---- any goal

conjunction_met : (s : Hlds) (a n m : ℕ) → AllMet s a n m → (f : Frame) (number : ℕ) (goals : List Numbered) (js : List Frame) (k : ℕ) (ps : _)
    → HasTurn a n (unfold_expr s (λ f js k. trace s m f js k) f number goals js k (ConjGoal ps)) → Own s a n m f number goals js k (ConjGoal ps)
conjunction_met s a n m met f number goals js k ps (inl h) = inl h
conjunction_met s a n m met f number goals js k ps (inr h) = inr (job m (doing f (numbered_from (suc number) ps ++ goals)) js k, parts ps, met (doing f (numbered_from (suc number) ps ++ goals)) js k h)

branch_met : (s : Hlds) (a n m : ℕ) → AllMet s a n m → (f : Frame) (number : ℕ) (goals : List Numbered) (js : List Frame) (k : ℕ) (ps : _)
    → HasTurn a n (unfold_expr s (λ f js k. trace s m f js k) f number goals js k (DisjGoal ps)) → Own s a n m f number goals js k (DisjGoal ps)
branch_met s a n m met f number goals js k ps (inl h) = inl h
branch_met s a n m met f number goals js k ps (inr h) = inr (disjunction_met s a n m met f number goals js k ps (switch_shape s ps) refl h)

expr_met : (s : Hlds) (a n m : ℕ) → AllMet s a n m → (f : Frame) (number : ℕ) (goals : List Numbered) (js : List Frame) (k : ℕ) (t : GoalExpr)
    → HasTurn a n (unfold_expr s (λ f js k. trace s m f js k) f number goals js k t) → Own s a n m f number goals js k t
expr_met s a n m met f number goals js k (SimpleGoal g) h = simple_met s a n m met f number goals js k g (simple s f.env g) refl h
expr_met s a n m met f number goals js k (CallGoal site name ys) h = name_met s a n m f number goals js k site name ys (invoked_met s a n m met f number goals js k site (procedure_called s name) [] ys h)
expr_met s a n m met f number goals js k (HoCallGoal site x ys) h = applied_met s a n m met f number goals js k site x ys (value_at f.env x) refl h
expr_met s a n m met f number goals js k (ConjGoal ps) h = conjunction_met s a n m met f number goals js k ps h
expr_met s a n m met f number goals js k (DisjGoal ps) h = branch_met s a n m met f number goals js k ps h
expr_met s a n m met f number goals js k (IfGoal c t e) h = if_met s a n m met f number goals js k c t e h
expr_met s a n m met f number goals js k (NotGoal c) h = not_met s a n m met f number goals js k c h
expr_met s a n m met f number goals js k (SomeGoal vs c) h = some_met s a n m met f number goals js k vs c h

-- ---- a job

comes_next : (s : Hlds) (i j : Job) (a n : ℕ) → Next s i j → ComesToTurn s j a n → ComesToTurn s i a n
comes_next s i j a n step h = record { to = h.to; comes = further i j h.to step h.comes; deep = h.deep; act = h.act; goal = h.goal }

abbrev with : ℕ → Env → List Numbered → List (ℕ × ℕ) → Frame
with act e goals pairs = record { act = act; env = e; goals = goals; pairs = pairs }

own_met : (s : Hlds) (a n m act : ℕ) (e : Env) (g : Numbered) (goals : List Numbered) (pairs : List (ℕ × ℕ)) (js : List Frame) (k : ℕ)
    → Own s a n m (with act e (g ∷ goals) pairs) g.number goals js k (expr_in g.goal) → ComesToTurn s (job (suc m) (with act e (g ∷ goals) pairs) js k) a n
own_met s a n m act e g goals pairs js k (inl h) =
    record { to = job (suc m) (with act e (g ∷ goals) pairs) js k; comes = here (job (suc m) (with act e (g ∷ goals) pairs) js k); deep = omega arith; act = h.0; goal = h.1 }
own_met s a n m act e g goals pairs js k (inr h) = comes_next s (job (suc m) (with act e (g ∷ goals) pairs) js k) h.0 a n h.1 h.2

goal_met : (s : Hlds) (a n m : ℕ) → AllMet s a n m → (f : Frame) (number : ℕ) (goals : List Numbered) (js : List Frame) (k : ℕ) (p : HldsGoal)
    → HasTurn a n (unfold_goal s (λ f js k. trace s m f js k) f number goals js k p) → Own s a n m f number goals js k (expr_in p)
goal_met s a n m met f number goals js k (At l t) h = expr_met s a n m met f number goals js k t h

abbrev Rule : Type 0
Rule = Frame → Numbered → List Numbered → List Frame → ℕ → Items

-- a job by its first frame that has a goal to do
returns_met : (s : Hlds) (a n m : ℕ) (rule : Rule)
    → ((act : ℕ) (e : Env) (g : Numbered) (goals : List Numbered) (pairs : List (ℕ × ℕ)) (js : List Frame) (k : ℕ) → HasTurn a n (rule (with act e (g ∷ goals) pairs) g goals js k) → ComesToTurn s (job m (with act e (g ∷ goals) pairs) js k) a n)
    → (js : List Frame) (act : ℕ) (e : Env) (goals : List Numbered) (pairs : List (ℕ × ℕ)) (k : ℕ)
    → HasTurn a n (returns rule js (with act e goals pairs) goals k) → ComesToTurn s (job m (with act e goals pairs) js k) a n
returns_met s a n m rule inner js act e (g ∷ goals) pairs k h = inner act e g goals pairs js k h
returns_met s a n m rule inner [] act e [] pairs k h = elim h [ ]
returns_met s a n m rule inner (caller ∷ js) act e [] pairs k h =
    elim (turn_joined a n (returns rule js (knowing caller (back pairs e caller.env) caller.goals) caller.goals k) k (λ i. Redo act ∷ []) h) [
      | inl t ↦ comes_next s (job m (with act e [] pairs) (caller ∷ js) k) (job m (knowing caller (back pairs e caller.env) caller.goals) js k) a n refl
          (returns_met s a n m rule inner js caller.act (back pairs e caller.env) caller.goals caller.pairs k t)
      | inr r ↦ absurd (r.2)
    ]

-- no turn of a job's trace is left out
pub no_turn_is_left_out : (s : Hlds) (m : ℕ) (f : Frame) (js : List Frame) (k a n : ℕ) → HasTurn a n (trace s m f js k) → ComesToTurn s (job m f js k) a n
no_turn_is_left_out s zero f js k a n h =
    returns_met s a n zero (λ f g goals js k. Deep ∷ []) (λ act e g goals pairs js k t. elim t [ ]) js f.act f.env f.goals f.pairs k h
no_turn_is_left_out s (suc m) f js k a n h =
    returns_met s a n (suc m) (λ f g goals js k. unfold_goal s (λ f js k. trace s m f js k) f g.number goals js k g.goal)
    (λ act e g goals pairs js k t. own_met s a n m act e g goals pairs js k
    (goal_met s a n m (λ f js k h. no_turn_is_left_out s m f js k a n h) (with act e (g ∷ goals) pairs) g.number goals js k g.goal t))
    js f.act f.env f.goals f.pairs k h

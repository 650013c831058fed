-- Traces to different depths are the same as far as turns are allowed: so a depth as great as the budget suffices, and
-- a run within a budget is a front of the run within a greater one.
use Rattle.std.proofs.Common.{◌≡◌, refl, arith, ℕ, zero, suc, ◌+◌, ◌≤◌, Bool, true, false, List, [], ◌∷◌, ◌++◌, Option, Some, None}
use Rattle.md_hlds.specs.declared.types.Det.{Det}
use Rattle.md_hlds.specs.declared.types.Det.TheVariants.{Semidet, Multi, Nondet, Failure}
use Rattle.md_hlds.specs.declared.types.Det.TheVariants.{Det as One}
use Rattle.md_hlds.specs.HldsGoal.{HldsGoal, At, GoalExpr, SimpleGoal, CallGoal, HoCallGoal, ConjGoal, DisjGoal, IfGoal, NotGoal, SomeGoal, goal_size, Numbered, numbered_goal, numbered_from}
use Rattle.md_hlds.specs.Hlds.{Hlds, Procedure, procedure_called, nth_procedure}
use Rattle.md_hlds.specs.Value.{Value, Number, Literal, Built, Closure, listed_values, Env, value_at}
use Rattle.md_hlds.specs.Simple.{Outcome, Go, No, Throws, Stop, simple}
use Rattle.md_hlds.specs.Switch.{Key, switch_shape, arm_for}
use Rattle.md_hlds.specs.Trace.{Turn, Call, Exit, Redo, Fail, Excp, Alloc, Out, Throw, Answer, Stuck, Deep, Items, Does, Frame, joined, first, excps, doing, knowing, alone, allocated, written, after_simple, arms, one_arm, switched, disjunction, body_frame, cut_off, run_body, back, call_if, invoked, applied, entered, unfold_expr, unfold_goal, returns, trace, pairs_of, without}

-- only exceptions
abbrev pub AreExcps : Items → Type 0
AreExcps [] = Unit {0}
AreExcps (Excp a ∷ xs) = AreExcps xs
AreExcps (x ∷ xs) = ⊥

pub are_excps : (js : List Frame) → AreExcps (excps js)
are_excps [] = tt
are_excps (f ∷ js) = are_excps js

pub both_excps : (xs ys : Items) → AreExcps xs → AreExcps ys → AreExcps (xs ++ ys)
both_excps [] ys p q = q
both_excps (Excp a ∷ xs) ys p q = both_excps xs ys p q
both_excps (Turn a goal weight ∷ xs) ys p q = elim p [ ]
both_excps (Call a parent site procedure ∷ xs) ys p q = elim p [ ]
both_excps (Exit a ∷ xs) ys p q = elim p [ ]
both_excps (Redo a ∷ xs) ys p q = elim p [ ]
both_excps (Fail a ∷ xs) ys p q = elim p [ ]
both_excps (Alloc a words ∷ xs) ys p q = elim p [ ]
both_excps (Out bytes ∷ xs) ys p q = elim p [ ]
both_excps (Throw bytes ∷ xs) ys p q = elim p [ ]
both_excps (Answer e ∷ xs) ys p q = elim p [ ]
both_excps (Stuck ∷ xs) ys p q = elim p [ ]
both_excps (Deep ∷ xs) ys p q = elim p [ ]

-- Two traces are the same up to the turn after n turns, each of which weighs something; none comes to a Deep before,
-- and after a Throw come only exceptions.
pub data Agree : ℕ → Items → Items → Type 0 where
  ends : (n : ℕ) → Agree n [] []
  last_turn : (a : ℕ) (g : Option ℕ) (w : ℕ) (xs ys : Items) → Agree zero (Turn a g (suc w) ∷ xs) (Turn a g (suc w) ∷ ys)
  turn : (n a : ℕ) (g : Option ℕ) (w : ℕ) (xs ys : Items) → Agree n xs ys → Agree (suc n) (Turn a g (suc w) ∷ xs) (Turn a g (suc w) ∷ ys)
  calls : (n a : ℕ) (p s : Option ℕ) (q : ℕ) (xs ys : Items) → Agree n xs ys → Agree n (Call a p s q ∷ xs) (Call a p s q ∷ ys)
  exits : (n a : ℕ) (xs ys : Items) → Agree n xs ys → Agree n (Exit a ∷ xs) (Exit a ∷ ys)
  redoes : (n a : ℕ) (xs ys : Items) → Agree n xs ys → Agree n (Redo a ∷ xs) (Redo a ∷ ys)
  fails : (n a : ℕ) (xs ys : Items) → Agree n xs ys → Agree n (Fail a ∷ xs) (Fail a ∷ ys)
  allocates : (n a w : ℕ) (xs ys : Items) → Agree n xs ys → Agree n (Alloc a w ∷ xs) (Alloc a w ∷ ys)
  writes : (n : ℕ) (bytes : List ℕ) (xs ys : Items) → Agree n xs ys → Agree n (Out bytes ∷ xs) (Out bytes ∷ ys)
  answers : (n : ℕ) (e : Env) (xs ys : Items) → Agree n xs ys → Agree n (Answer e ∷ xs) (Answer e ∷ ys)
  throws : (n : ℕ) (bytes : List ℕ) (xs : Items) → AreExcps xs → Agree n (Throw bytes ∷ xs) (Throw bytes ∷ xs)
  sticks : (n : ℕ) → Agree n (Stuck ∷ []) (Stuck ∷ [])

pub fewer : (n : ℕ) (xs ys : Items) → Agree (suc n) xs ys → Agree n xs ys
fewer n [] [] (ends _) = ends n
fewer zero _ _ (turn _ a g w xs ys h) = last_turn a g w xs ys
fewer (suc n) _ _ (turn _ a g w xs ys h) = turn n a g w xs ys (fewer n xs ys h)
fewer n _ _ (calls _ a p s q xs ys h) = calls n a p s q xs ys (fewer n xs ys h)
fewer n _ _ (exits _ a xs ys h) = exits n a xs ys (fewer n xs ys h)
fewer n _ _ (redoes _ a xs ys h) = redoes n a xs ys (fewer n xs ys h)
fewer n _ _ (fails _ a xs ys h) = fails n a xs ys (fewer n xs ys h)
fewer n _ _ (allocates _ a w xs ys h) = allocates n a w xs ys (fewer n xs ys h)
fewer n _ _ (writes _ bytes xs ys h) = writes n bytes xs ys (fewer n xs ys h)
fewer n _ _ (answers _ e xs ys h) = answers n e xs ys (fewer n xs ys h)
fewer n _ _ (throws _ bytes xs q) = throws n bytes xs q
fewer n _ _ (sticks _) = sticks n

-- a turn, and what follows it if it is allowed
pub begins : (n a : ℕ) (g : Option ℕ) (w : ℕ) (xs ys : Items) → ((m : ℕ) → n ≡ suc m → Agree m xs ys) → Agree n (Turn a g (suc w) ∷ xs) (Turn a g (suc w) ∷ ys)
begins zero a g w xs ys h = last_turn a g w xs ys
begins (suc n) a g w xs ys h = turn n a g w xs ys (h n refl)

-- ---- what `first` and `joined` make of two traces that agree

pub first_agree : (n : ℕ) (xs ys : Items) (k : ℕ) (found other : Env → ℕ → Items) (missed rest : ℕ → Items) (thrown : Items)
    → Agree n xs ys → ((e : Env) (k : ℕ) → Agree n (found e k) (other e k)) → ((k : ℕ) → Agree n (missed k) (rest k)) → AreExcps thrown
    → Agree n (first xs k found missed thrown) (first ys k other rest thrown)
first_agree n _ _ k found other missed rest thrown (ends _) f m q = m k
first_agree n _ _ k found other missed rest thrown (last_turn a g w xs ys) f m q = last_turn a g w _ _
first_agree (suc n) _ _ k found other missed rest thrown (turn _ a g w xs ys h) f m q =
    turn n a g w _ _ (first_agree n xs ys k found other missed rest thrown h (λ e k. fewer n _ _ (f e k)) (λ k. fewer n _ _ (m k)) q)
first_agree n _ _ k found other missed rest thrown (calls _ a p s c xs ys h) f m q =
    calls n a p s c _ _ (first_agree n xs ys (suc k) found other missed rest thrown h f m q)
first_agree n _ _ k found other missed rest thrown (exits _ a xs ys h) f m q = exits n a _ _ (first_agree n xs ys k found other missed rest thrown h f m q)
first_agree n _ _ k found other missed rest thrown (redoes _ a xs ys h) f m q = redoes n a _ _ (first_agree n xs ys k found other missed rest thrown h f m q)
first_agree n _ _ k found other missed rest thrown (fails _ a xs ys h) f m q = fails n a _ _ (first_agree n xs ys k found other missed rest thrown h f m q)
first_agree n _ _ k found other missed rest thrown (allocates _ a w xs ys h) f m q =
    allocates n a w _ _ (first_agree n xs ys k found other missed rest thrown h f m q)
first_agree n _ _ k found other missed rest thrown (writes _ bytes xs ys h) f m q =
    writes n bytes _ _ (first_agree n xs ys k found other missed rest thrown h f m q)
first_agree n _ _ k found other missed rest thrown (answers _ e xs ys h) f m q = f e k
first_agree n _ _ k found other missed rest thrown (throws _ bytes xs p) f m q = throws n bytes (xs ++ thrown) (both_excps xs thrown p q)
first_agree n _ _ k found other missed rest thrown (sticks _) f m q = sticks n

pub joined_agree : (n : ℕ) (xs ys : Items) (k : ℕ) (rest other : ℕ → Items)
    → Agree n xs ys → ((k : ℕ) → Agree n (rest k) (other k)) → Agree n (joined xs k rest) (joined ys k other)
joined_agree n _ _ k rest other (ends _) m = m k
joined_agree n _ _ k rest other (last_turn a g w xs ys) m = last_turn a g w _ _
joined_agree (suc n) _ _ k rest other (turn _ a g w xs ys h) m = turn n a g w _ _ (joined_agree n xs ys k rest other h (λ k. fewer n _ _ (m k)))
joined_agree n _ _ k rest other (calls _ a p s c xs ys h) m = calls n a p s c _ _ (joined_agree n xs ys (suc k) rest other h m)
joined_agree n _ _ k rest other (exits _ a xs ys h) m = exits n a _ _ (joined_agree n xs ys k rest other h m)
joined_agree n _ _ k rest other (redoes _ a xs ys h) m = redoes n a _ _ (joined_agree n xs ys k rest other h m)
joined_agree n _ _ k rest other (fails _ a xs ys h) m = fails n a _ _ (joined_agree n xs ys k rest other h m)
joined_agree n _ _ k rest other (allocates _ a w xs ys h) m = allocates n a w _ _ (joined_agree n xs ys k rest other h m)
joined_agree n _ _ k rest other (writes _ bytes xs ys h) m = writes n bytes _ _ (joined_agree n xs ys k rest other h m)
joined_agree n _ _ k rest other (answers _ e xs ys h) m = answers n e _ _ (joined_agree n xs ys k rest other h m)
joined_agree n _ _ k rest other (throws _ bytes xs p) m = throws n bytes xs p
joined_agree n _ _ k rest other (sticks _) m = sticks n

-- ---- one goal

-- what follows agrees for one turn less
abbrev pub Follows : ℕ → Does → Does → Type 0
Follows n go other = (m : ℕ) → n ≡ suc m → (f : Frame) (js : List Frame) (k : ℕ) → Agree m (go f js k) (other f js k)

allocated_agree : (n a words : ℕ) (xs ys : Items) → Agree n xs ys → Agree n (allocated a words ++ xs) (allocated a words ++ ys)
allocated_agree n a zero xs ys h = h
allocated_agree n a (suc w) xs ys h = allocates n a (suc w) xs ys h

written_agree : (n : ℕ) (out : Option (List ℕ)) (xs ys : Items) → Agree n xs ys → Agree n (written out ++ xs) (written out ++ ys)
written_agree n None xs ys h = h
written_agree n (Some bytes) xs ys h = writes n bytes xs ys h

stuck_agree : (n a : ℕ) (g : Option ℕ) → Agree n (Turn a g 1 ∷ Stuck ∷ []) (Turn a g 1 ∷ Stuck ∷ [])
stuck_agree n a g = begins n a g 0 _ _ (λ m is. sticks m)

simple_agree : (n : ℕ) (go other : Does) (f : Frame) (g : ℕ) (goals : List Numbered) (js : List Frame) (k : ℕ) (o : Outcome) → Follows n go other
    → Agree n (after_simple go f g goals js k o) (after_simple other f g goals js k o)
simple_agree n go other f g goals js k (Go e extra words out) h =
    begins n f.act (Some g) extra _ _ (λ m is. allocated_agree m f.act words _ _ (written_agree m out _ _ (h m is (knowing f e goals) js k)))
simple_agree n go other f g goals js k (No extra) h = begins n f.act (Some g) extra _ _ (λ m is. ends m)
simple_agree n go other f g goals js k (Throws bytes) h = begins n f.act (Some g) 0 _ _ (λ m is. throws m bytes (excps (f ∷ js)) (are_excps (f ∷ js)))
simple_agree n go other f g goals js k Stop h = stuck_agree n f.act (Some g)

arms_agree : (m : ℕ) (go other : Does) (f : Frame) (goals : List Numbered) (js : List Frame) (k : ℕ) (ps : List Numbered)
    → ((f : Frame) (js : List Frame) (k : ℕ) → Agree m (go f js k) (other f js k)) → Agree m (arms go f goals js k ps) (arms other f goals js k ps)
arms_agree m go other f goals js k [] h = ends m
arms_agree m go other f goals js k (p ∷ ps) h =
    joined_agree m _ _ k _ _ (h (doing f (p ∷ goals)) js k) (λ n. arms_agree m go other f goals js n ps h)

one_arm_agree : (m : ℕ) (go other : Does) (f : Frame) (goals : List Numbered) (js : List Frame) (k : ℕ) (p : Option Numbered)
    → ((f : Frame) (js : List Frame) (k : ℕ) → Agree m (go f js k) (other f js k)) → Agree m (one_arm go f goals js k p) (one_arm other f goals js k p)
one_arm_agree m go other f goals js k None h = ends m
one_arm_agree m go other f goals js k (Some p) h = h (doing f (p ∷ goals)) js k

switched_agree : (m : ℕ) (go other : Does) (f : Frame) (goals : List Numbered) (js : List Frame) (k : ℕ) (ps : List Numbered) (keys : List Key) (v : Option Value)
    → ((f : Frame) (js : List Frame) (k : ℕ) → Agree m (go f js k) (other f js k)) → Agree m (switched go f goals js k ps keys v) (switched other f goals js k ps keys v)
switched_agree m go other f goals js k ps keys None h = arms_agree m go other f goals js k ps h
switched_agree m go other f goals js k ps keys (Some v) h = one_arm_agree m go other f goals js k (arm_for v keys ps) h

disjunction_agree : (m : ℕ) (go other : Does) (f : Frame) (goals : List Numbered) (js : List Frame) (k : ℕ) (ps : List Numbered) (s : Option (ℕ × List Key))
    → ((f : Frame) (js : List Frame) (k : ℕ) → Agree m (go f js k) (other f js k)) → Agree m (disjunction go f goals js k ps s) (disjunction other f goals js k ps s)
disjunction_agree m go other f goals js k ps None h = arms_agree m go other f goals js k ps h
disjunction_agree m go other f goals js k ps (Some s) h = switched_agree m go other f goals js k ps s.1 (value_at f.env s.0) h

cut_body_agree : (m : ℕ) (go other : Does) (callee caller : Frame) (js : List Frame) (k : ℕ)
    → ((f : Frame) (js : List Frame) (k : ℕ) → Agree m (go f js k) (other f js k))
    → Agree m (run_body go One callee caller js k) (run_body other One callee caller js k)
cut_body_agree m go other callee caller js k h =
    first_agree m _ _ (suc k) _ _ _ _ (excps (caller ∷ js)) (h (cut_off callee) [] (suc k))
    (λ e n. exits m k _ _ (h (knowing caller (back callee.pairs e caller.env) caller.goals) js n))
    (λ n. fails m k [] [] (ends m))
    (are_excps (caller ∷ js))

whole_body_agree : (m : ℕ) (go other : Does) (callee caller : Frame) (js : List Frame) (k : ℕ)
    → ((f : Frame) (js : List Frame) (k : ℕ) → Agree m (go f js k) (other f js k))
    → Agree m (run_body go Multi callee caller js k) (run_body other Multi callee caller js k)
whole_body_agree m go other callee caller js k h =
    joined_agree m _ _ (suc k) _ _ (h callee (caller ∷ js) (suc k)) (λ n. fails m k [] [] (ends m))

body_agree : (m : ℕ) (go other : Does) (d : Det) (callee caller : Frame) (js : List Frame) (k : ℕ)
    → ((f : Frame) (js : List Frame) (k : ℕ) → Agree m (go f js k) (other f js k))
    → Agree m (run_body go d callee caller js k) (run_body other d callee caller js k)
body_agree m go other One callee caller js k h = cut_body_agree m go other callee caller js k h
body_agree m go other Semidet callee caller js k h = cut_body_agree m go other callee caller js k h
body_agree m go other Failure callee caller js k h = cut_body_agree m go other callee caller js k h
body_agree m go other Multi callee caller js k h = whole_body_agree m go other callee caller js k h
body_agree m go other Nondet callee caller js k h = whole_body_agree m go other callee caller js k h

call_agree : (n : ℕ) (s : Hlds) (go other : Does) (f : Frame) (g : ℕ) (goals : List Numbered) (js : List Frame) (k site : ℕ) (q : ℕ × Procedure) (vs : List Value) (ys : List ℕ) (right : Bool)
    → Follows n go other → Agree n (call_if s go f g goals js k site q vs ys right) (call_if s other f g goals js k site q vs ys right)
call_agree n s go other f g goals js k site q vs ys false h = stuck_agree n f.act (Some g)
call_agree n s go other f g goals js k site q vs ys true h =
    begins n f.act (Some g) _ _ _ (λ m is. calls m k (Some f.act) (Some site) q.0 _ _
    (body_agree m go other q.1.det (body_frame s k (entered q.1 vs ys f.env) q (pairs_of (without vs q.1.head) ys)) (doing f goals) js k (h m is)))

invoked_agree : (n : ℕ) (s : Hlds) (go other : Does) (f : Frame) (g : ℕ) (goals : List Numbered) (js : List Frame) (k site : ℕ) (q : Option (ℕ × Procedure)) (vs : List Value) (ys : List ℕ)
    → Follows n go other → Agree n (invoked s go f g goals js k site q vs ys) (invoked s other f g goals js k site q vs ys)
invoked_agree n s go other f g goals js k site None vs ys h = stuck_agree n f.act (Some g)
invoked_agree n s go other f g goals js k site (Some q) vs ys h = call_agree n s go other f g goals js k site q vs ys _ h

applied_agree : (n : ℕ) (s : Hlds) (go other : Does) (f : Frame) (g : ℕ) (goals : List Numbered) (js : List Frame) (k site : ℕ) (ys : List ℕ) (v : Option Value)
    → Follows n go other → Agree n (applied s go f g goals js k site ys v) (applied s other f g goals js k site ys v)
applied_agree n s go other f g goals js k site ys (Some (Closure q held)) h = invoked_agree n s go other f g goals js k site (nth_procedure s q) (listed_values held) ys h
applied_agree n s go other f g goals js k site ys (Some (Number i)) h = stuck_agree n f.act (Some g)
applied_agree n s go other f g goals js k site ys (Some (Literal bytes)) h = stuck_agree n f.act (Some g)
applied_agree n s go other f g goals js k site ys (Some (Built name parts)) h = stuck_agree n f.act (Some g)
applied_agree n s go other f g goals js k site ys None h = stuck_agree n f.act (Some g)

expr_agree : (n : ℕ) (s : Hlds) (go other : Does) (f : Frame) (g : ℕ) (goals : List Numbered) (js : List Frame) (k : ℕ) (t : GoalExpr)
    → Follows n go other → Agree n (unfold_expr s go f g goals js k t) (unfold_expr s other f g goals js k t)
expr_agree n s go other f g goals js k (SimpleGoal i) h = simple_agree n go other f g goals js k (simple s f.env i) h
expr_agree n s go other f g goals js k (ConjGoal ps) h =
    begins n f.act (Some g) 0 _ _ (λ m is. h m is (doing f (numbered_from (suc g) ps ++ goals)) js k)
expr_agree n s go other f g goals js k (DisjGoal ps) h =
    begins n f.act (Some g) 0 _ _ (λ m is. disjunction_agree m go other f goals js k (numbered_from (suc g) ps) (switch_shape s ps) (h m is))
expr_agree n s go other f g goals js k (IfGoal c t e) h =
    begins n f.act (Some g) 0 _ _ (λ m is. first_agree m _ _ k _ _ _ _ (excps js) (h m is (alone f (numbered_goal (suc g) c)) [] k)
    (λ found i. h m is (knowing f found (numbered_goal (suc g + goal_size c) t ∷ goals)) js i)
    (λ i. h m is (doing f (numbered_goal (suc g + goal_size c + goal_size t) e ∷ goals)) js i)
    (are_excps js))
expr_agree n s go other f g goals js k (NotGoal c) h =
    begins n f.act (Some g) 0 _ _ (λ m is. first_agree m _ _ k _ _ _ _ (excps js) (h m is (alone f (numbered_goal (suc g) c)) [] k)
    (λ found i. ends m) (λ i. h m is (doing f goals) js i) (are_excps js))
expr_agree n s go other f g goals js k (SomeGoal vs c) h =
    begins n f.act (Some g) 0 _ _ (λ m is. first_agree m _ _ k _ _ _ _ (excps js) (h m is (alone f (numbered_goal (suc g) c)) [] k)
    (λ found i. h m is (doing f goals) js i) (λ i. ends m) (are_excps js))
expr_agree n s go other f g goals js k (CallGoal site q ys) h = invoked_agree n s go other f g goals js k site (procedure_called s q) [] ys h
expr_agree n s go other f g goals js k (HoCallGoal site p ys) h = applied_agree n s go other f g goals js k site ys (value_at f.env p) h

goal_agree : (n : ℕ) (s : Hlds) (go other : Does) (f : Frame) (g : ℕ) (goals : List Numbered) (js : List Frame) (k : ℕ) (p : HldsGoal)
    → Follows n go other → Agree n (unfold_goal s go f g goals js k p) (unfold_goal s other f g goals js k p)
goal_agree n s go other f g goals js k (At l t) h = expr_agree n s go other f g goals js k t h

-- ---- a job

abbrev Next : Type 0
Next = Frame → Numbered → List Numbered → List Frame → ℕ → Items

returns_agree : (n : ℕ) (next other : Next) (js : List Frame) (f : Frame) (goals : List Numbered) (k : ℕ)
    → ((f : Frame) (g : Numbered) (goals : List Numbered) (js : List Frame) (k : ℕ) → Agree n (next f g goals js k) (other f g goals js k))
    → Agree n (returns next js f goals k) (returns other js f goals k)
returns_agree n next other js f (g ∷ goals) k h = h f g goals js k
returns_agree n next other [] f [] k h = answers n f.env [] [] (ends n)
returns_agree n next other (c ∷ js) f [] k h =
    exits n f.act _ _ (joined_agree n _ _ k _ _
    (returns_agree n next other js (knowing c (back f.pairs f.env c.env) c.goals) c.goals k h)
    (λ i. redoes n f.act [] [] (ends n)))

-- one turn more than n is within both depths
pub trace_agree : (s : Hlds) (n a b : ℕ) → n ≤ a → n ≤ b → (f : Frame) (js : List Frame) (k : ℕ) → Agree n (trace s (suc a) f js k) (trace s (suc b) f js k)
trace_agree s zero a b p q f js k =
    returns_agree zero _ _ js f f.goals k (λ f g goals js k. goal_agree zero s (trace s a) (trace s b) f g.number goals js k g.goal (λ m is. absurd (omega (arith, is))))
trace_agree s (suc n) zero b p q f js k = absurd (omega (arith, p))
trace_agree s (suc n) (suc a) zero p q f js k = absurd (omega (arith, q))
trace_agree s (suc n) (suc a) (suc b) p q f js k =
    returns_agree (suc n) _ _ js f f.goals k (λ f g goals js k. goal_agree (suc n) s (trace s (suc a)) (trace s (suc b)) f g.number goals js k g.goal
    (λ m is f js k. let same : m ≡ n = omega (arith, is) in rw same (trace_agree s n a b (omega (arith, p)) (omega (arith, q)) f js k)))

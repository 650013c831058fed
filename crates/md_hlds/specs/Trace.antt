-- The unfolded trace of a job: every goal that is unfolded, every port of every activation, every allocation and all
-- that is written, in order. This is the four-port view of a nondeterministic call (Byrd's box) read as lists: it has
-- no stack of choices and no resume address.
use Rattle.std.specs.Prelude.{ℕ, suc, zero, ◌+◌, Bool, true, false, List, [], ◌∷◌, ◌++◌, length, Option, Some, None, nat_eq}
use Rattle.md_hlds.specs.declared.types.Det.{Det}
use Rattle.md_hlds.specs.declared.types.Det.TheVariants.{Multi, Nondet}
use Rattle.md_hlds.specs.HldsGoal.{HldsGoal, At, GoalExpr, SimpleGoal, CallGoal, HoCallGoal, ConjGoal, DisjGoal, IfGoal, NotGoal, SomeGoal, goal_size, Numbered, numbered_goal, numbered_from, site_count}
use Rattle.md_hlds.specs.Hlds.{Hlds, Procedure, procedure_called, nth_procedure, body_number}
use Rattle.md_hlds.specs.Value.{Value, Closure, listed_values, Env, value_at, bound, blank}
use Rattle.md_hlds.specs.Simple.{Outcome, Go, No, Throws, Stop, simple}
use Rattle.md_hlds.specs.Switch.{Key, switch_shape, arm_for}

-- An item of a trace.
pub data Item : Type 0 where
  -- the goal of that number is unfolded by the activation a; main's call is no goal of the program
  Turn : (a : ℕ) (goal : Option ℕ) (weight : ℕ) → Item
  -- the ports of activation a
  Call : (a : ℕ) (parent site : Option ℕ) (procedure : ℕ) → Item
  Exit : (a : ℕ) → Item
  Redo : (a : ℕ) → Item
  Fail : (a : ℕ) → Item
  Excp : (a : ℕ) → Item
  -- an allocation by the activation a
  Alloc : (a words : ℕ) → Item
  -- bytes are written
  Out : (bytes : List ℕ) → Item
  -- an exception is thrown
  Throw : (bytes : List ℕ) → Item
  -- a solution of the whole job
  Answer : (e : Env) → Item
  -- no rule applies
  Stuck : Item
  -- the depth didn't suffice
  Deep : Item

abbrev pub Items : Type 0
Items = List Item

-- an activation with its environment, the goals that it still has to do, and the pairs of a variable of its head and
-- a variable of its caller, for its return
pub record Frame : Type 0 where
  pub act : ℕ
  pub env : Env
  pub goals : List Numbered
  pub pairs : List (ℕ × ℕ)

-- the innermost frame, its callers, and the number of the next activation
abbrev pub Does : Type 0
Does = Frame → List Frame → ℕ → Items

-- One trace and then, with the number that is next after it, another. Nothing follows a Stuck, a Deep or a trace that
-- is thrown.
abbrev pub joined : Items → ℕ → (ℕ → Items) → Items
joined [] k rest = rest k
joined (Call a p s q ∷ xs) k rest = Call a p s q ∷ joined xs (suc k) rest
joined (Throw bytes ∷ xs) k rest = Throw bytes ∷ xs
joined (Stuck ∷ xs) k rest = Stuck ∷ []
joined (Deep ∷ xs) k rest = Deep ∷ []
joined (x ∷ xs) k rest = x ∷ joined xs k rest

-- A trace up to its first answer, and then `found` with it; or all of it, where it has none, and then `missed`; or all
-- of it, where it is thrown, and then `thrown`. Nothing follows a Stuck or a Deep.
abbrev pub first : Items → ℕ → (Env → ℕ → Items) → (ℕ → Items) → Items → Items
first [] k found missed thrown = missed k
first (Answer e ∷ xs) k found missed thrown = found e k
first (Call a p s q ∷ xs) k found missed thrown = Call a p s q ∷ first xs (suc k) found missed thrown
first (Throw bytes ∷ xs) k found missed thrown = Throw bytes ∷ (xs ++ thrown)
first (Stuck ∷ xs) k found missed thrown = Stuck ∷ []
first (Deep ∷ xs) k found missed thrown = Deep ∷ []
first (x ∷ xs) k found missed thrown = x ∷ first xs k found missed thrown

-- an exception leaves each frame of a job, innermost first
abbrev pub excps : List Frame → Items
excps [] = []
excps (f ∷ js) = Excp f.act ∷ excps js

-- a variable of the caller that has no value gets the value of its variable of the head
abbrev pub back_value : ℕ → Option Value → Option Value → Env → Env
back_value y None (Some v) caller = bound caller y v
back_value y had v caller = caller

abbrev pub back : List (ℕ × ℕ) → Env → Env → Env
back [] callee caller = caller
back (p ∷ ps) callee caller = back ps callee (back_value p.1 (value_at caller p.1) (value_at callee p.0) caller)

-- a variable of the callee's head gets the value of its argument, if that has one
abbrev pub passed : List (ℕ × ℕ) → Env → Env → Env
passed [] caller callee = callee
passed (p ∷ ps) caller callee = passed ps caller (back_value p.0 None (value_at caller p.1) callee)

-- the first variables of the head get the captured values
abbrev pub given : List Value → List ℕ → Env → Env
given [] hs callee = callee
given (v ∷ vs) [] callee = callee
given (v ∷ vs) (h ∷ hs) callee = given vs hs (bound callee h v)

-- variables of the head beside the variables of the caller in their places
abbrev pub pairs_of : List ℕ → List ℕ → List (ℕ × ℕ)
pairs_of (h ∷ hs) (y ∷ ys) = (h, y) ∷ pairs_of hs ys
pairs_of hs ys = []

-- the variables of the head that no captured value is for
abbrev pub without : List Value → List ℕ → List ℕ
without [] hs = hs
without (v ∷ vs) [] = []
without (v ∷ vs) (h ∷ hs) = without vs hs

-- the innermost frame with other goals, and with another environment
abbrev pub doing : Frame → List Numbered → Frame
doing f goals = record { act = f.act; env = f.env; goals = goals; pairs = f.pairs }

abbrev pub knowing : Frame → Env → List Numbered → Frame
knowing f e goals = record { act = f.act; env = e; goals = goals; pairs = f.pairs }

-- one goal by itself, as a condition is run
abbrev pub alone : Frame → Numbered → Frame
alone f c = record { act = f.act; env = f.env; goals = c ∷ []; pairs = [] }

-- an allocation, where there are words, and an output, where there is one
abbrev pub allocated : ℕ → ℕ → Items
allocated a zero = []
allocated a (suc n) = Alloc a (suc n) ∷ []

abbrev pub written : Option (List ℕ) → Items
written None = []
written (Some bytes) = Out bytes ∷ []

-- what the simple goal of number n leads to
abbrev pub after_simple : Does → Frame → ℕ → List Numbered → List Frame → ℕ → Outcome → Items
after_simple go f n goals js k (Go e extra words out) =
    Turn f.act (Some n) (suc extra) ∷ (allocated f.act words ++ (written out ++ go (knowing f e goals) js k))
after_simple go f n goals js k (No extra) = Turn f.act (Some n) (suc extra) ∷ []
after_simple go f n goals js k (Throws bytes) = Turn f.act (Some n) 1 ∷ Throw bytes ∷ excps (f ∷ js)
after_simple go f n goals js k Stop = Turn f.act (Some n) 1 ∷ Stuck ∷ []

-- the arms one after the other, as alternatives
abbrev pub arms : Does → Frame → List Numbered → List Frame → ℕ → List Numbered → Items
arms go f goals js k [] = []
arms go f goals js k (p ∷ ps) = joined (go (doing f (p ∷ goals)) js k) k (λ n. arms go f goals js n ps)

-- the arm of a switch, if there is one
abbrev pub one_arm : Does → Frame → List Numbered → List Frame → ℕ → Option Numbered → Items
one_arm go f goals js k None = []
one_arm go f goals js k (Some p) = go (doing f (p ∷ goals)) js k

-- a disjunction of these arms by the value of the variable that it may be a switch on
abbrev pub switched : Does → Frame → List Numbered → List Frame → ℕ → List Numbered → List Key → Option Value → Items
switched go f goals js k ps keys None = arms go f goals js k ps
switched go f goals js k ps keys (Some v) = one_arm go f goals js k (arm_for v keys ps)

abbrev pub disjunction : Does → Frame → List Numbered → List Frame → ℕ → List Numbered → Option (ℕ × List Key) → Items
disjunction go f goals js k ps None = arms go f goals js k ps
disjunction go f goals js k ps (Some s) = switched go f goals js k ps s.1 (value_at f.env s.0)

-- the body of a procedure, with its number, in an environment, as activation k
abbrev pub body_frame : Hlds → ℕ → Env → ℕ × Procedure → List (ℕ × ℕ) → Frame
body_frame s k e q pairs = record { act = k; env = e; goals = numbered_goal (body_number s q.0) q.1.body ∷ []; pairs = pairs }

-- a frame by itself
abbrev pub cut_off : Frame → Frame
cut_off f = record { act = f.act; env = f.env; goals = f.goals; pairs = [] }

-- the body of a call, cut at its first solution or with all its solutions, as the procedure's determinism says
abbrev pub run_body : Does → Det → Frame → Frame → List Frame → ℕ → Items
run_body go Multi callee caller js k = joined (go callee (caller ∷ js) (suc k)) (suc k) (λ n. Fail k ∷ [])
run_body go Nondet callee caller js k = joined (go callee (caller ∷ js) (suc k)) (suc k) (λ n. Fail k ∷ [])
run_body go det callee caller js k =
    first (go (cut_off callee) [] (suc k)) (suc k)
    (λ e n. Exit k ∷ go (knowing caller (back callee.pairs e caller.env) caller.goals) js n)
    (λ n. Fail k ∷ [])
    (excps (caller ∷ js))

-- a call's weight
abbrev pub call_weight : Procedure → ℕ
call_weight p = suc (length p.vars + site_count p.body)

-- the environment in which a body begins, by its procedure, its captured values and the variables of the caller
abbrev pub entered : Procedure → List Value → List ℕ → Env → Env
entered p vs ys e = passed (pairs_of (without vs p.head) ys) e (given vs p.head (blank (length p.vars)))

-- a call at the goal of number n with these captured values and these variables of the caller
abbrev pub called : Hlds → Does → Frame → ℕ → List Numbered → List Frame → ℕ → ℕ → ℕ × Procedure → List Value → List ℕ → Items
called s go f n goals js k site q vs ys =
    Turn f.act (Some n) (call_weight q.1) ∷ Call k (Some f.act) (Some site) q.0
    ∷ run_body go q.1.det
    (body_frame s k (entered q.1 vs ys f.env) q (pairs_of (without vs q.1.head) ys))
    (doing f goals) js k

-- a call whose number of arguments is right or not
abbrev pub call_if : Hlds → Does → Frame → ℕ → List Numbered → List Frame → ℕ → ℕ → ℕ × Procedure → List Value → List ℕ → Bool → Items
call_if s go f n goals js k site q vs ys true = called s go f n goals js k site q vs ys
call_if s go f n goals js k site q vs ys false = Turn f.act (Some n) 1 ∷ Stuck ∷ []

abbrev pub invoked : Hlds → Does → Frame → ℕ → List Numbered → List Frame → ℕ → ℕ → Option (ℕ × Procedure) → List Value → List ℕ → Items
invoked s go f n goals js k site None vs ys = Turn f.act (Some n) 1 ∷ Stuck ∷ []
invoked s go f n goals js k site (Some q) vs ys = call_if s go f n goals js k site q vs ys (nat_eq (length vs + length ys) (length q.1.head))

-- a call by a closure
abbrev pub applied : Hlds → Does → Frame → ℕ → List Numbered → List Frame → ℕ → ℕ → List ℕ → Option Value → Items
applied s go f n goals js k site ys (Some (Closure q held)) = invoked s go f n goals js k site (nth_procedure s q) (listed_values held) ys
applied s go f n goals js k site ys v = Turn f.act (Some n) 1 ∷ Stuck ∷ []

-- the goal of number n, with `go` for the traces one deeper; its first part has the next number
abbrev pub unfold_expr : Hlds → Does → Frame → ℕ → List Numbered → List Frame → ℕ → GoalExpr → Items
unfold_expr s go f n goals js k (SimpleGoal g) = after_simple go f n goals js k (simple s f.env g)
unfold_expr s go f n goals js k (ConjGoal ps) = Turn f.act (Some n) 1 ∷ go (doing f (numbered_from (suc n) ps ++ goals)) js k
unfold_expr s go f n goals js k (DisjGoal ps) = Turn f.act (Some n) 1 ∷ disjunction go f goals js k (numbered_from (suc n) ps) (switch_shape s ps)
unfold_expr s go f n goals js k (IfGoal c t e) =
    Turn f.act (Some n) 1
    ∷ first (go (alone f (numbered_goal (suc n) c)) [] k) k
    (λ found m. go (knowing f found (numbered_goal (suc n + goal_size c) t ∷ goals)) js m)
    (λ m. go (doing f (numbered_goal (suc n + goal_size c + goal_size t) e ∷ goals)) js m)
    (excps js)
unfold_expr s go f n goals js k (NotGoal c) =
    Turn f.act (Some n) 1 ∷ first (go (alone f (numbered_goal (suc n) c)) [] k) k (λ found m. []) (λ m. go (doing f goals) js m) (excps js)
unfold_expr s go f n goals js k (SomeGoal vs c) =
    Turn f.act (Some n) 1 ∷ first (go (alone f (numbered_goal (suc n) c)) [] k) k (λ found m. go (doing f goals) js m) (λ m. []) (excps js)
unfold_expr s go f n goals js k (CallGoal site q ys) = invoked s go f n goals js k site (procedure_called s q) [] ys
unfold_expr s go f n goals js k (HoCallGoal site p ys) = applied s go f n goals js k site ys (value_at f.env p)

abbrev pub unfold_goal : Hlds → Does → Frame → ℕ → List Numbered → List Frame → ℕ → HldsGoal → Items
unfold_goal s go f n goals js k (At l t) = unfold_expr s go f n goals js k t

-- A job, with `next` for a first frame that has a goal to do. A frame with none left exits, its caller goes on with
-- what it was given back, and then comes its redo; with no caller it is an answer.
abbrev pub returns : (Frame → Numbered → List Numbered → List Frame → ℕ → Items) → List Frame → Frame → List Numbered → ℕ → Items
returns next js f (g ∷ goals) k = next f g goals js k
returns next [] f [] k = Answer f.env ∷ []
returns next (caller ∷ js) f [] k =
    Exit f.act ∷ joined (returns next js (knowing caller (back f.pairs f.env caller.env) caller.goals) caller.goals k) k (λ n. Redo f.act ∷ [])

-- the trace of a job to this depth
abbrev pub trace : Hlds → ℕ → Frame → List Frame → ℕ → Items
trace s zero f js k = returns (λ f g goals js k. Deep ∷ []) js f f.goals k
trace s (suc m) f js k = returns (λ f g goals js k. unfold_goal s (λ f js k. trace s m f js k) f g.number goals js k g.goal) js f f.goals k

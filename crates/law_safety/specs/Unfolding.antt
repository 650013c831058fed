-- Which jobs, and so which turns, the trace of a job comes to: one constructor for each way on.
use Rattle.std.specs.Prelude.{◌≡◌, ◌<◌, ◌⊎◌, ℕ, suc, zero, ◌+◌, Bool, true, false, List, [], ◌∷◌, ◌++◌, length, Option, Some, None}
use Rattle.md_hlds.specs.declared.types.Det.{Det}
use Rattle.md_hlds.specs.declared.types.Det.TheVariants.{Multi, Nondet}
use Rattle.md_hlds.specs.declared.goal.PredName.{PredName}
use Rattle.md_hlds.specs.HldsGoal.{Simple, HldsGoal, At, GoalExpr, SimpleGoal, CallGoal, HoCallGoal, ConjGoal, DisjGoal, IfGoal, NotGoal, SomeGoal, HldsGoals, goal_size, Numbered, numbered_goal, numbered_from}
use Rattle.md_hlds.specs.Hlds.{Hlds, Procedure, procedure_called, nth_procedure}
use Rattle.md_hlds.specs.Value.{Value, Values, Closure, listed_values, Env, value_at}
use Rattle.md_hlds.specs.Simple.{Go, simple}
use Rattle.md_hlds.specs.Switch.{Key, switch_shape, arm_for}
use Rattle.md_hlds.specs.Trace.{Turn, Call, Throw, Answer, Stuck, Deep, Items, Frame, doing, knowing, alone, back, pairs_of, without, body_frame, cut_off, entered, trace}
use Rattle.md_hlds.specs.Run.{main_frame}

-- A job and how deep it is traced: its innermost frame, that frame's callers, and the number of the next activation.
pub record Job : Type 0 where
  pub depth : ℕ
  pub frame : Frame
  pub callers : List Frame
  pub next : ℕ

abbrev pub job : ℕ → Frame → List Frame → ℕ → Job
job m f js k = record { depth = m; frame = f; callers = js; next = k }

-- main's body
abbrev pub main_job : Hlds → ℕ → ℕ × Procedure → Job
main_job s depth m = job depth (main_frame s m) [] 1

-- ---- how a part's trace ends

-- the first answer of a trace, and the number that is next after it
abbrev pub first_answer : Items → ℕ → Option (Env × ℕ)
first_answer [] k = None
first_answer (Answer e ∷ xs) k = Some (e, k)
first_answer (Call a p s q ∷ xs) k = first_answer xs (suc k)
first_answer (Throw bytes ∷ xs) k = None
first_answer (Stuck ∷ xs) k = None
first_answer (Deep ∷ xs) k = None
first_answer (x ∷ xs) k = first_answer xs k

-- the number that is next after a trace without an answer, where that comes to its end
abbrev pub failed : Items → ℕ → Option ℕ
failed [] k = Some k
failed (Answer e ∷ xs) k = None
failed (Call a p s q ∷ xs) k = failed xs (suc k)
failed (Throw bytes ∷ xs) k = None
failed (Stuck ∷ xs) k = None
failed (Deep ∷ xs) k = None
failed (x ∷ xs) k = failed xs k

-- the number that is next after a trace that comes to its end
abbrev pub ended : Items → ℕ → Option ℕ
ended [] k = Some k
ended (Call a p s q ∷ xs) k = ended xs (suc k)
ended (Throw bytes ∷ xs) k = None
ended (Stuck ∷ xs) k = None
ended (Deep ∷ xs) k = None
ended (x ∷ xs) k = ended xs k

-- ---- one goal

-- the value that a disjunction switches on, if it has the shape of a switch and its variable has a value
abbrev pub switch_value : Option (ℕ × List Key) → Env → Option Value
switch_value None e = None
switch_value (Some w) e = value_at e w.0

-- Of these arms, begun with the number k, one is tried with the number i: the first at once, and each other one after the
-- arms before it have come to their ends.
pub data Tries (s : Hlds) (m : ℕ) (f : Frame) (goals : List Numbered) (js : List Frame) : List Numbered → ℕ → Numbered → ℕ → Type 0 where
  at_once : (p : Numbered) (ps : List Numbered) (k : ℕ) → Tries s m f goals js (p ∷ ps) k p k
  later : (p : Numbered) (ps : List Numbered) (k n : ℕ) (q : Numbered) (i : ℕ) → ended (trace s m (doing f (p ∷ goals)) js k) k ≡ Some n → Tries s m f goals js ps n q i → Tries s m f goals js (p ∷ ps) k q i

-- a call of a procedure of this determinism is cut at its first answer
abbrev pub is_cut : Det → Bool
is_cut Multi = false
is_cut Nondet = false
is_cut d = true

-- the frame of a call's body: of a procedure, with these captured values and these variables of the caller, as activation k
abbrev pub callee : Hlds → Frame → ℕ → ℕ × Procedure → List Value → List ℕ → Frame
callee s f k q vs ys = body_frame s k (entered q.1 vs ys f.env) q (pairs_of (without vs q.1.head) ys)

-- What a call comes to: a body that is cut by itself, and after its first answer what the caller still has to do; a body
-- that isn't cut with its caller waiting.
pub data Calls (s : Hlds) (m : ℕ) (f : Frame) (goals : List Numbered) (js : List Frame) (k : ℕ) (q : ℕ × Procedure) (vs : List Value) (ys : List ℕ) : Job → Type 0 where
  begins_cut : is_cut q.1.det ≡ true → Calls s m f goals js k q vs ys (job m (cut_off (callee s f k q vs ys)) [] (suc k))
  has_exited : (e : Env) (i : ℕ) → is_cut q.1.det ≡ true → first_answer (trace s m (cut_off (callee s f k q vs ys)) [] (suc k)) (suc k) ≡ Some (e, i)
      → Calls s m f goals js k q vs ys (job m (knowing f (back (pairs_of (without vs q.1.head) ys) e f.env) goals) js i)
  begins_whole : is_cut q.1.det ≡ false → Calls s m f goals js k q vs ys (job m (callee s f k q vs ys) (doing f goals ∷ js) (suc k))

-- What the goal of number n comes to, in this frame, with these goals after it: each way on.
pub data Unfolds (s : Hlds) (m : ℕ) (f : Frame) (n : ℕ) (goals : List Numbered) (js : List Frame) (k : ℕ) : GoalExpr → Job → Type 0 where
  -- after a simple goal that goes
  goes : (g : Simple) (e : Env) (extra words : ℕ) (out : Option (List ℕ)) → simple s f.env g ≡ Go e extra words out → Unfolds s m f n goals js k (SimpleGoal g) (job m (knowing f e goals) js k)
  -- the parts of a conjunction
  parts : (ps : HldsGoals) → Unfolds s m f n goals js k (ConjGoal ps) (job m (doing f (numbered_from (suc n) ps ++ goals)) js k)
  -- each arm of a disjunction, where it doesn't switch
  tries : (ps : HldsGoals) (p : Numbered) (i : ℕ) → switch_value (switch_shape s ps) f.env ≡ None → Tries s m f goals js (numbered_from (suc n) ps) k p i
      → Unfolds s m f n goals js k (DisjGoal ps) (job m (doing f (p ∷ goals)) js i)
  -- the one arm of a switch
  switches : (ps : HldsGoals) (w : ℕ × List Key) (v : Value) (p : Numbered) → switch_shape s ps ≡ Some w → value_at f.env w.0 ≡ Some v → arm_for v w.1 (numbered_from (suc n) ps) ≡ Some p
      → Unfolds s m f n goals js k (DisjGoal ps) (job m (doing f (p ∷ goals)) js k)
  -- the condition of an if-then-else
  asks : (c t e : HldsGoal) → Unfolds s m f n goals js k (IfGoal c t e) (job m (alone f (numbered_goal (suc n) c)) [] k)
  -- the then part, after the condition's first answer
  holds : (c t e : HldsGoal) (d : Env) (i : ℕ) → first_answer (trace s m (alone f (numbered_goal (suc n) c)) [] k) k ≡ Some (d, i)
      → Unfolds s m f n goals js k (IfGoal c t e) (job m (knowing f d (numbered_goal (suc n + goal_size c) t ∷ goals)) js i)
  -- the else part, where the condition has none
  fails : (c t e : HldsGoal) (i : ℕ) → failed (trace s m (alone f (numbered_goal (suc n) c)) [] k) k ≡ Some i
      → Unfolds s m f n goals js k (IfGoal c t e) (job m (doing f (numbered_goal (suc n + goal_size c + goal_size t) e ∷ goals)) js i)
  -- a negated goal, and what comes after it where it has no answer
  denies : (c : HldsGoal) → Unfolds s m f n goals js k (NotGoal c) (job m (alone f (numbered_goal (suc n) c)) [] k)
  is_denied : (c : HldsGoal) (i : ℕ) → failed (trace s m (alone f (numbered_goal (suc n) c)) [] k) k ≡ Some i → Unfolds s m f n goals js k (NotGoal c) (job m (doing f goals) js i)
  -- a quantified goal, and what comes after its first answer
  seeks : (vs : List ℕ) (c : HldsGoal) → Unfolds s m f n goals js k (SomeGoal vs c) (job m (alone f (numbered_goal (suc n) c)) [] k)
  has_found : (vs : List ℕ) (c : HldsGoal) (d : Env) (i : ℕ) → first_answer (trace s m (alone f (numbered_goal (suc n) c)) [] k) k ≡ Some (d, i)
      → Unfolds s m f n goals js k (SomeGoal vs c) (job m (doing f goals) js i)
  -- a call of a predicate, and one of a closure
  calls : (site : ℕ) (name : PredName) (ys : List ℕ) (q : ℕ × Procedure) (j : Job) → procedure_called s name ≡ Some q → length ys ≡ length q.1.head → Calls s m f goals js k q [] ys j
      → Unfolds s m f n goals js k (CallGoal site name ys) j
  applies : (site x : ℕ) (ys : List ℕ) (c : ℕ) (held : Values) (q : ℕ × Procedure) (j : Job) → value_at f.env x ≡ Some (Closure c held) → nth_procedure s c ≡ Some q
      → length (listed_values held) + length ys ≡ length q.1.head → Calls s m f goals js k q (listed_values held) ys j
      → Unfolds s m f n goals js k (HoCallGoal site x ys) j

abbrev pub expr_in : HldsGoal → GoalExpr
expr_in (At l t) = t

-- ---- a job

-- What a job comes to next: where its frame has a goal to do, and depth is left, what that goal comes to; where it has none
-- left, its caller goes on with what it is given back.
abbrev pub NextOf : Hlds → ℕ → Frame → List Frame → ℕ → List Numbered → Job → Type 0
NextOf s zero f js k (g ∷ goals) j = ⊥
NextOf s (suc m) f js k (g ∷ goals) j = Unfolds s m f g.number goals js k (expr_in g.goal) j
NextOf s m f [] k [] j = ⊥
NextOf s m f (caller ∷ js) k [] j = j ≡ job m (knowing caller (back f.pairs f.env caller.env) caller.goals) js k

abbrev pub Next : Hlds → Job → Job → Type 0
Next s i j = NextOf s i.depth i.frame i.callers i.next i.frame.goals j

-- The trace of the one job comes to the other. (Where a part is cut at its first answer, what would come after that is among
-- these too.)
pub data Comes (s : Hlds) : Job → Job → Type 0 where
  here : (i : Job) → Comes s i i
  further : (i j l : Job) → Next s i j → Comes s j l → Comes s i l

-- ---- turns

-- a trace has a turn of the activation a at the goal of number n
abbrev pub HasTurn : ℕ → ℕ → Items → Type 0
HasTurn a n [] = ⊥
HasTurn a n (Turn b (Some g) w ∷ xs) = ((b ≡ a) × (g ≡ n)) ⊎ HasTurn a n xs
HasTurn a n (x ∷ xs) = HasTurn a n xs

abbrev pub IsFirst : ℕ → List Numbered → Type 0
IsFirst n [] = ⊥
IsFirst n (g ∷ goals) = g.number ≡ n

-- the job comes to one whose next turn is that of the activation a at the goal of number n
pub record ComesToTurn (s : Hlds) (i : Job) (a n : ℕ) : Type 0 where
  pub to : Job
  pub comes : Comes s i to
  pub deep : 0 < to.depth
  pub act : to.frame.act ≡ a
  pub goal : IsFirst n to.frame.goals

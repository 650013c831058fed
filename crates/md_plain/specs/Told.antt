-- A trace told item by item, up to its first answer and within a budget.
use Rattle.std.specs.Prelude.{ℕ, zero, suc, ◌-◌, List, [], ◌∷◌, ◌++◌, Option, Some, None, cond, nat_le}
use Rattle.md_hlds.specs.declared.types.Det.{Det}
use Rattle.md_hlds.specs.HldsGoal.{HldsGoal, GoalExpr, Numbered, numbered_goal}
use Rattle.md_hlds.specs.Hlds.{Hlds}
use Rattle.md_hlds.specs.Simple.{Outcome}
use Rattle.md_plain.specs.Calls.{Meant}
use Rattle.md_hlds.specs.Value.{Env}
use Rattle.md_hlds.specs.Trace.{Item, Turn, Call, Exit, Fail, Alloc, Out, Throw, Answer, Stuck, Deep, Items, Does, Frame, trace, alone, after_simple, run_body, invoked, arms, unfold_expr}

-- What has been told: the items, what is left of the budget, and the number of the next activation.
pub record Run : Type 0 where
  pub items : Items
  pub left : ℕ
  pub next : ℕ

-- How the telling of a trace ends: at its first answer; at its end, without one; after an exception has left all its frames;
-- or where nothing more may be told, since the budget is spent, no rule applies or the depth didn't suffice.
pub data End : Type 0 where
  Answered : (e : Env) → End
  Missed : End
  Thrown : End
  Over : End

pub record Told : Type 0 where
  pub run : Run
  pub end : End

-- nothing has been told
abbrev pub start : ℕ → Run
start budget = record { items = []; left = budget; next = 0 }

abbrev pub ended : Run → End → Told
ended r e = record { run = r; end = e }

-- one item more
abbrev pub put : Run → Item → Run
put r x = record { items = r.items ++ (x ∷ []); left = r.left; next = r.next }

abbrev pub called : Run → ℕ → Option ℕ → Option ℕ → ℕ → Run
called r a p s q = record { items = r.items ++ (Call a p s q ∷ []); left = r.left; next = suc r.next }

abbrev pub turned : Run → ℕ → Option ℕ → ℕ → Run
turned r a g w = record { items = r.items ++ (Turn a g w ∷ []); left = r.left - w; next = r.next }

-- a turn, where the budget allows it
abbrev pub turn : Run → ℕ → Option ℕ → ℕ → Option Run
turn r a g w = cond (nat_le w r.left) (Some (turned r a g w)) None

-- an allocation, where there are words, and an output, where there is one
abbrev pub allocating : Run → (a words : ℕ) → Run
allocating r a zero = r
allocating r a (suc n) = put r (Alloc a (suc n))

abbrev pub writing : Run → Option (List ℕ) → Run
writing r None = r
writing r (Some bytes) = put r (Out bytes)

-- what follows what is thrown
abbrev pub leaves : Items → Run → Told
leaves [] r = ended r Thrown
leaves (Turn a g w ∷ xs) r = cond (nat_le w r.left) (leaves xs (turned r a g w)) (ended r Over)
leaves (x ∷ xs) r = leaves xs (put r x)

abbrev pub tells : Items → Run → Told
tells [] r = ended r Missed
tells (Turn a g w ∷ xs) r = cond (nat_le w r.left) (tells xs (turned r a g w)) (ended r Over)
tells (Call a p s q ∷ xs) r = tells xs (called r a p s q)
tells (Throw bytes ∷ xs) r = leaves xs (put r (Throw bytes))
tells (Answer e ∷ xs) r = ended r (Answered e)
tells (Stuck ∷ xs) r = ended (put r Stuck) Over
tells (Deep ∷ xs) r = ended (put r Deep) Over
tells (x ∷ xs) r = tells xs (put r x)

-- what follows a first answer, the end or an exception
abbrev pub follows : (Env → ℕ → Items) → (ℕ → Items) → Items → Run → End → Told
follows found missed thrown r (Answered e) = tells (found e r.next) r
follows found missed thrown r Missed = tells (missed r.next) r
follows found missed thrown r Thrown = leaves thrown r
follows found missed thrown r Over = ended r Over

abbrev pub goes_on : (Env → ℕ → Items) → (ℕ → Items) → Items → Told → Told
goes_on found missed thrown t = follows found missed thrown t.run t.end

-- the first of two traces, and where it misses the other
abbrev pub then_misses : (ℕ → Items) → Told → Told
then_misses rest t = goes_on (λ e k. Answer e ∷ []) rest [] t

-- a job: a frame with its callers
pub record Job : Type 0 where
  pub frame : Frame
  pub callers : List Frame

-- a goal that is unfolded: the frame that it is the first goal of, its number, the goals after it, and the callers
pub record Place : Type 0 where
  pub frame : Frame
  pub number : ℕ
  pub goals : List Numbered
  pub callers : List Frame

abbrev pub in_job : Frame → List Frame → Job
in_job f js = record { frame = f; callers = js }

-- the innermost of these frames
abbrev pub innermost : List Frame → Option Job
innermost [] = None
innermost (f ∷ js) = Some (in_job f js)

-- a job's first goal, with its place
abbrev pub front_of : Frame → List Frame → List Numbered → Option (Place × HldsGoal)
front_of f js [] = None
front_of f js (g ∷ gs) = Some (record { frame = f; number = g.number; goals = gs; callers = js }, g.goal)

abbrev pub front : Job → Option (Place × HldsGoal)
front j = front_of j.frame j.callers j.frame.goals

abbrev pub deeper : Hlds → ℕ → Does
deeper s m = λ f js k. trace s m f js k

abbrev pub traces : Hlds → ℕ → Job → Run → Told
traces s n j r = tells (trace s n j.frame j.callers r.next) r

abbrev pub unfolds : Hlds → ℕ → Place → GoalExpr → Run → Told
unfolds s m p t r = tells (unfold_expr s (deeper s m) p.frame p.number p.goals p.callers r.next t) r

abbrev pub tries : Hlds → ℕ → Place → List Numbered → Run → Told
tries s m p ps r = tells (arms (deeper s m) p.frame p.goals p.callers r.next ps) r

abbrev pub asks : Hlds → ℕ → Place → HldsGoal → Run → Told
asks s m p c r = tells (Turn p.frame.act (Some p.number) 1 ∷ trace s m (alone p.frame (numbered_goal (suc p.number) c)) [] r.next) r

abbrev pub simply_goes : Hlds → ℕ → Place → Outcome → Run → Told
simply_goes s m p o r = tells (after_simple (deeper s m) p.frame p.number p.goals p.callers r.next o) r

abbrev pub invokes : Hlds → ℕ → Place → Meant → Run → Told
invokes s m p c r = tells (invoked s (deeper s m) p.frame p.number p.goals p.callers r.next c.site c.procedure c.held c.arguments) r

-- a body's number is that of the call that has been told last
abbrev pub with_body : Hlds → ℕ → Det → Frame → Job → Run → Told
with_body s m d callee j r = tells (run_body (deeper s m) d callee j.frame j.callers callee.act) r

-- all items in the end, where this has been told of main's body
abbrev pub closing : Run → End → Items
closing r (Answered e) = (r.items ++ (Exit 0 ∷ [])) ++ (Answer e ∷ [])
closing r Missed = r.items ++ (Fail 0 ∷ [])
closing r e = r.items

abbrev pub closed : Told → Items
closed t = closing t.run t.end

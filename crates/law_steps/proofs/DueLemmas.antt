-- What each step makes of what is due: an equation a step.
use Rattle.std.proofs.Common.{◌≡◌, refl, ap, sym, ◌∙◌, subst, arith, ℕ, zero, suc, ◌+◌, ◌<◌, ◌≤◌, Bool, true, false, List, [], ◌∷◌, ◌++◌, length, Option, Some, None, nat_eq, append_assoc}
use Rattle.md_hlds.specs.declared.types.Det.{Det}
use Rattle.md_hlds.specs.declared.types.Det.TheVariants.{Semidet, Multi, Nondet, Failure}
use Rattle.md_hlds.specs.declared.types.Det.TheVariants.{Det as One}
use Rattle.md_hlds.specs.HldsGoal.{HldsGoal, At, GoalExpr, SimpleGoal, CallGoal, HoCallGoal, ConjGoal, DisjGoal, IfGoal, NotGoal, SomeGoal, goal_size, Numbered, numbered_goal, numbered_from}
use Rattle.md_hlds.specs.Hlds.{Hlds, Procedure, procedure_called, nth_procedure}
use Rattle.md_hlds.specs.Value.{Value, Number, Literal, Built, Closure, listed_values, Env, value_at}
use Rattle.md_hlds.specs.Simple.{Outcome, Go, No, Stop, simple}
use Rattle.md_hlds.specs.Simple.{Throws as Raised}
use Rattle.md_hlds.specs.Switch.{Key, switch_shape, arm_for}
use Rattle.md_hlds.specs.Trace.{Item, Turn, Call, Exit, Redo, Fail, Excp, Throw, Answer, Stuck, Deep, Items, Does, Frame, joined, first, excps, doing, knowing, alone, allocated, written, after_simple, arms, one_arm, switched, disjunction, back, body_frame, cut_off, run_body, entered, call_if, invoked, applied, unfold_expr, unfold_goal, returns, trace, pairs_of, without}
use Rattle.md_hlds.proofs.TraceLemmas.{first-first, first-joined}
use Rattle.law_steps.specs.State.{Wait, Others, Again, Over, Condition, Negation, Single, Returning, Waits, thrown, found, missed, found_in, missed_in, thrown_in, Goes, Fails, Throws, State, state, due_doing}
use Rattle.law_steps.specs.Steps.{Step, On, Ends, answered, returned, retried, thrown_on, unwound, Unfolded, Turns, Sticks, goes_simply, tries, takes_arm, switches, chooses, enters, calls_if, calls, applies, unfolds_expr, unfolds}
use Rattle.law_steps.specs.Standing.{AreDeep}

-- ---- items that no budget cuts

-- no turn among them
abbrev pub IsQuiet : Item → Type 0
IsQuiet (Turn a g w) = ⊥
IsQuiet x = Unit {0}

abbrev pub AreQuiet : Items → Type 0
AreQuiet [] = Unit {0}
AreQuiet (x ∷ xs) = IsQuiet x × AreQuiet xs

-- ---- steps that unfold no goal

-- what is due leads to these items and this state, or these items are all
pub record Leads (s : Hlds) (left : ℕ) (due items : Items) (st : State) : Type 0 where
  pub depth : ℕ
  pub waiting : List Waits
  pub deep : AreDeep left st.waits waiting
  pub enough : left < depth
  pub quiet : AreQuiet items
  pub is : due ≡ items ++ due_doing s depth st.now waiting st.next

abbrev pub AfterStep : Hlds → ℕ → Items → Step → Type 0
AfterStep s left due (On items st) = Leads s left due items st
AfterStep s left due (Ends items) = AreQuiet items × (due ≡ items)

-- on with a frame at the depth of an entry
goes_at : (s : Hlds) (left n k : ℕ) (f : Frame) (js : List Frame) (ws : List Wait) (ds : List Waits) (items : Items) → AreDeep left ws ds → left < n → AreQuiet items
    → Leads s left (items ++ due_doing s n (Goes f js) ds k) items (state (Goes f js) ws k)
goes_at s left n k f js ws ds items deep le q = record { depth = n; waiting = ds; deep = deep; enough = le; quiet = q; is = refl }

-- on without a frame: any depth will do
fails_at : (s : Hlds) (left k : ℕ) (ws : List Wait) (ds : List Waits) (items : Items) → AreDeep left ws ds → AreQuiet items
    → Leads s left (items ++ missed s ds k) items (state Fails ws k)
fails_at s left k ws ds items deep q = record { depth = suc left; waiting = ds; deep = deep; enough = omega arith; quiet = q; is = refl }

throws_at : (s : Hlds) (left k : ℕ) (js : List Frame) (ws : List Wait) (ds : List Waits) (items : Items) → AreDeep left ws ds → AreQuiet items
    → Leads s left (items ++ (excps js ++ thrown ds)) items (state (Throws js) ws k)
throws_at s left k js ws ds items deep q = record { depth = suc left; waiting = ds; deep = deep; enough = omega arith; quiet = q; is = refl }

-- an answer
answered_in : (s : Hlds) (left n k : ℕ) (e : Env) (w : Wait) (ws : List Wait) (ds : List Waits) → AreDeep left ws ds → left < n
    → AfterStep s left (found s ds e k) (answered e ws k)
    → AfterStep s left (found_in s n w (λ e k. found s ds e k) (λ k. missed s ds k) (thrown ds) e k) (answered e (w ∷ ws) k)
answered_in s left n k e (Others f js ps) ws ds deep le h = h
answered_in s left n k e (Again a) ws ds deep le h = h
answered_in s left n k e (Over a) ws ds deep le h = h
answered_in s left n k e (Condition f js t el) ws ds deep le h = goes_at s left n k (knowing f e (t ∷ f.goals)) js ws ds [] deep le tt
answered_in s left n k e (Negation f js) ws ds deep le h = fails_at s left k ws ds [] deep tt
answered_in s left n k e (Single f js) ws ds deep le h = goes_at s left n k f js ws ds [] deep le tt
answered_in s left n k e (Returning a pairs f js) ws ds deep le h = goes_at s left n k (knowing f (back pairs e f.env) f.goals) js ws ds (Exit a ∷ []) deep le (tt, tt)

pub answers : (s : Hlds) (left k : ℕ) (e : Env) (ws : List Wait) (ds : List Waits) → AreDeep left ws ds → AfterStep s left (found s ds e k) (answered e ws k)
answers s left k e [] [] deep = ((tt, (tt, tt)), refl)
answers s left k e [] (d ∷ ds) deep = absurd deep
answers s left k e (w ∷ ws) [] deep = absurd deep
answers s left k e (w ∷ ws) (d ∷ ds) deep =
    subst (λ (v : Wait). AfterStep s left (found_in s d.depth v (λ e k. found s ds e k) (λ k. missed s ds k) (thrown ds) e k) (answered e (w ∷ ws) k)) (sym deep.0)
    (answered_in s left d.depth k e w ws ds deep.2 deep.1 (answers s left k e ws ds deep.2))

-- the end of the answers
retried_in : (s : Hlds) (left n k : ℕ) (w : Wait) (ws : List Wait) (ds : List Waits) → AreDeep left ws ds → left < n
    → AfterStep s left (missed_in s n w (λ e k. found s ds e k) (λ k. missed s ds k) (thrown ds) k) (retried (w ∷ ws) k)
retried_in s left n k (Others f js []) ws ds deep le = fails_at s left k ws ds [] deep tt
retried_in s left n k (Others f js (p ∷ ps)) ws ds deep le = record {
  depth = n;
  waiting = record { depth = n; what = Others f js ps } ∷ ds;
  deep = (refl, le, deep);
  enough = le;
  quiet = tt;
  is = first-joined (trace s n (doing f (p ∷ f.goals)) js k) k (λ i. arms (λ f js k. trace s n f js k) f f.goals js i ps) (λ e k. found s ds e k) (λ k. missed s ds k) (thrown ds);
}
retried_in s left n k (Again a) ws ds deep le = fails_at s left k ws ds (Redo a ∷ []) deep (tt, tt)
retried_in s left n k (Over a) ws ds deep le = fails_at s left k ws ds (Fail a ∷ []) deep (tt, tt)
retried_in s left n k (Condition f js t el) ws ds deep le = goes_at s left n k (doing f (el ∷ f.goals)) js ws ds [] deep le tt
retried_in s left n k (Negation f js) ws ds deep le = goes_at s left n k f js ws ds [] deep le tt
retried_in s left n k (Single f js) ws ds deep le = fails_at s left k ws ds [] deep tt
retried_in s left n k (Returning a pairs f js) ws ds deep le = fails_at s left k ws ds (Fail a ∷ []) deep (tt, tt)

pub retries : (s : Hlds) (left k : ℕ) (ws : List Wait) (ds : List Waits) → AreDeep left ws ds → AfterStep s left (missed s ds k) (retried ws k)
retries s left k [] [] deep = ((tt, tt), refl)
retries s left k [] (d ∷ ds) deep = absurd deep
retries s left k (w ∷ ws) [] deep = absurd deep
retries s left k (w ∷ ws) (d ∷ ds) deep =
    subst (λ (v : Wait). AfterStep s left (missed_in s d.depth v (λ e k. found s ds e k) (λ k. missed s ds k) (thrown ds) k) (retried (w ∷ ws) k)) (sym deep.0)
    (retried_in s left d.depth k w ws ds deep.2 deep.1)

-- an exception
thrown_at : (s : Hlds) (left k : ℕ) (w : Wait) (ws : List Wait) (ds : List Waits) → AreDeep left ws ds → AfterStep s left (thrown_in w (thrown ds)) (thrown_on (w ∷ ws) k)
thrown_at s left k (Others f js ps) ws ds deep = throws_at s left k [] ws ds [] deep tt
thrown_at s left k (Again a) ws ds deep = throws_at s left k [] ws ds [] deep tt
thrown_at s left k (Over a) ws ds deep = throws_at s left k [] ws ds [] deep tt
thrown_at s left k (Condition f js t el) ws ds deep = throws_at s left k js ws ds [] deep tt
thrown_at s left k (Negation f js) ws ds deep = throws_at s left k js ws ds [] deep tt
thrown_at s left k (Single f js) ws ds deep = throws_at s left k js ws ds [] deep tt
thrown_at s left k (Returning a pairs f js) ws ds deep = throws_at s left k (f ∷ js) ws ds [] deep tt

pub unwinds : (s : Hlds) (left k : ℕ) (js : List Frame) (ws : List Wait) (ds : List Waits) → AreDeep left ws ds → AfterStep s left (excps js ++ thrown ds) (unwound js ws k)
unwinds s left k (j ∷ js) ws ds deep = throws_at s left k js ws ds (Excp j.act ∷ []) deep (tt, tt)
unwinds s left k [] [] [] deep = (tt, refl)
unwinds s left k [] [] (d ∷ ds) deep = absurd deep
unwinds s left k [] (w ∷ ws) [] deep = absurd deep
unwinds s left k [] (w ∷ ws) (d ∷ ds) deep =
    subst (λ (v : Wait). AfterStep s left (thrown_in v (thrown ds)) (thrown_on (w ∷ ws) k)) (sym deep.0) (thrown_at s left k w ws ds deep.2)

-- a frame without goals
abbrev Next : Type 0
Next = Frame → Numbered → List Numbered → List Frame → ℕ → Items

-- what a trace does with a goal, by its depth
abbrev next_at : Hlds → ℕ → Next
next_at s zero = λ f g goals js k. Deep ∷ []
next_at s (suc m) = λ f g goals js k. unfold_goal s (λ f js k. trace s m f js k) f g.number goals js k g.goal

trace_returns : (s : Hlds) (n : ℕ) (f : Frame) (js : List Frame) (k : ℕ) → trace s n f js k ≡ returns (next_at s n) js f f.goals k
trace_returns s zero f js k = refl
trace_returns s (suc n) f js k = refl

pub returns_from : (s : Hlds) (left n k : ℕ) (f : Frame) (js : List Frame) (ws : List Wait) (ds : List Waits) → f.goals ≡ [] → AreDeep left ws ds → left < n
    → AfterStep s left (due_doing s n (Goes f js) ds k) (returned f js ws k)
returns_from s left n k f [] ws ds none deep le =
    let done : trace s n f [] k ≡ Answer f.env ∷ [] = trace_returns s n f [] k ∙ ap (λ goals. returns (next_at s n) [] f goals k) none in
    subst (λ (xs : Items). AfterStep s left xs (answered f.env ws k))
    (sym (ap (λ xs. first xs k (λ e k. found s ds e k) (λ k. missed s ds k) (thrown ds)) done))
    (answers s left k f.env ws ds deep)
returns_from s left n k f (c ∷ js) ws ds none deep le =
    let g : Frame = knowing c (back f.pairs f.env c.env) c.goals in
    let redo : ℕ → Items = λ i. Redo f.act ∷ [] in
    let done : trace s n f (c ∷ js) k ≡ Exit f.act ∷ joined (trace s n g js k) k redo
    = trace_returns s n f (c ∷ js) k ∙ (ap (λ goals. returns (next_at s n) (c ∷ js) f goals k) none
    ∙ ap (λ xs. Exit f.act ∷ joined xs k redo) (sym (trace_returns s n g js k))) in
    record {
      depth = n;
      waiting = record { depth = n; what = Again f.act } ∷ ds;
      deep = (refl, le, deep);
      enough = le;
      quiet = (tt, tt);
      is = ap (λ xs. first xs k (λ e k. found s ds e k) (λ k. missed s ds k) (thrown ds)) done
          ∙ ap (λ xs. Exit f.act ∷ xs) (first-joined (trace s n g js k) k redo (λ e k. found s ds e k) (λ k. missed s ds k) (thrown ds));
    }

-- ---- turns

-- what follows a turn at the depth n
pub record LeadsAt (s : Hlds) (n : ℕ) (ws : List Wait) (ds : List Waits) (due items : Items) (st : State) : Type 0 where
  pub waiting : List Waits
  -- where the depths suffice before the turn they suffice after it
  pub deep : (left : ℕ) → AreDeep left ws ds → left < n → AreDeep left st.waits waiting
  pub quiet : AreQuiet items
  pub is : due ≡ items ++ due_doing s n st.now waiting st.next

-- a goal of number g that is unfolded by the activation a, its traces having the depth n, while these entries wait
abbrev pub AfterTurn : Hlds → ℕ → List Wait → List Waits → ℕ → ℕ → Items → Unfolded → Type 0
AfterTurn s n ws ds a g due (Turns w items st) = (rest : Items) × (due ≡ Turn a (Some g) w ∷ rest) × LeadsAt s n ws ds rest items st
AfterTurn s n ws ds a g due (Sticks w) = due ≡ Turn a (Some g) w ∷ Stuck ∷ []

first_allocated : (a words : ℕ) (xs : Items) (k : ℕ) (f : Env → ℕ → Items) (m : ℕ → Items) (t : Items) → first (allocated a words ++ xs) k f m t ≡ allocated a words ++ first xs k f m t
first_allocated a zero xs k f m t = refl
first_allocated a (suc w) xs k f m t = refl

first_written : (out : Option (List ℕ)) (xs : Items) (k : ℕ) (f : Env → ℕ → Items) (m : ℕ → Items) (t : Items) → first (written out ++ xs) k f m t ≡ written out ++ first xs k f m t
first_written None xs k f m t = refl
first_written (Some bytes) xs k f m t = refl

quiet_simple : (a words : ℕ) (out : Option (List ℕ)) → AreQuiet (allocated a words ++ written out)
quiet_simple a zero None = tt
quiet_simple a zero (Some bytes) = (tt, tt)
quiet_simple a (suc w) None = (tt, tt)
quiet_simple a (suc w) (Some bytes) = (tt, (tt, tt))

-- the answers, the end and the exceptions of what waits
abbrev Found : Hlds → List Waits → Env → ℕ → Items
Found s ds = λ e k. found s ds e k

abbrev Missed : Hlds → List Waits → ℕ → Items
Missed s ds = λ k. missed s ds k

abbrev Go_at : Hlds → ℕ → Does
Go_at s n = λ f js k. trace s n f js k

abbrev Rest : Hlds → List Waits → ℕ → Items → Items
Rest s ds k xs = first xs k (λ e k. found s ds e k) (λ k. missed s ds k) (thrown ds)

simple_turn : (s : Hlds) (n k : ℕ) (f : Frame) (g : ℕ) (goals : List Numbered) (js : List Frame) (ws : List Wait) (ds : List Waits) (o : Outcome)
    → AfterTurn s n ws ds f.act g (Rest s ds k (after_simple (λ f js k. trace s n f js k) f g goals js k o)) (goes_simply f goals js ws k o)
simple_turn s n k f g goals js ws ds (Go e extra words out) =
    let xs : Items = trace s n (knowing f e goals) js k in (
      Rest s ds k (allocated f.act words ++ (written out ++ xs)),
      refl,
      record {
        waiting = ds;
        deep = λ left deep le. deep;
        quiet = quiet_simple f.act words out;
        is = first_allocated f.act words (written out ++ xs) k (λ e k. found s ds e k) (λ k. missed s ds k) (thrown ds)
            ∙ (ap (λ ys. allocated f.act words ++ ys) (first_written out xs k (λ e k. found s ds e k) (λ k. missed s ds k) (thrown ds))
            ∙ sym (append_assoc (allocated f.act words) (written out) (Rest s ds k xs)));
      },
    )
simple_turn s n k f g goals js ws ds (No extra) = (missed s ds k, refl, record { waiting = ds; deep = λ left deep le. deep; quiet = tt; is = refl })
simple_turn s n k f g goals js ws ds (Raised bytes) =
    (Throw bytes ∷ (excps (f ∷ js) ++ thrown ds), refl, record { waiting = ds; deep = λ left deep le. deep; quiet = (tt, tt); is = refl })
simple_turn s n k f g goals js ws ds Stop = refl

-- the arms with a frame that has the goals after the disjunction
arms_doing : (go : Does) (f : Frame) (goals : List Numbered) (js : List Frame) (k : ℕ) (ps : List Numbered) → arms go f goals js k ps ≡ arms go (doing f goals) goals js k ps
arms_doing go f goals js k [] = refl
arms_doing go f goals js k (p ∷ ps) = ap (λ rest. joined (go (doing f (p ∷ goals)) js k) k rest) (λ i. λ n. arms_doing go f goals js n ps i)

tries_turn : (s : Hlds) (n k : ℕ) (f : Frame) (g : ℕ) (goals : List Numbered) (js : List Frame) (ws : List Wait) (ds : List Waits) (ps : List Numbered)
    → AfterTurn s n ws ds f.act g (Rest s ds k (Turn f.act (Some g) 1 ∷ arms (λ f js k. trace s n f js k) f goals js k ps)) (tries f goals js ws k ps)
tries_turn s n k f g goals js ws ds ps = (
  Rest s ds k (arms (λ f js k. trace s n f js k) f goals js k ps),
  refl,
  record {
    waiting = record { depth = n; what = Others (doing f goals) js ps } ∷ ds;
    deep = λ left deep le. (refl, le, deep);
    quiet = tt;
    is = ap (λ xs. Rest s ds k xs) (arms_doing (λ f js k. trace s n f js k) f goals js k ps);
  },
)

arm_turn : (s : Hlds) (n k : ℕ) (f : Frame) (g : ℕ) (goals : List Numbered) (js : List Frame) (ws : List Wait) (ds : List Waits) (p : Option Numbered)
    → AfterTurn s n ws ds f.act g (Rest s ds k (Turn f.act (Some g) 1 ∷ one_arm (λ f js k. trace s n f js k) f goals js k p)) (takes_arm f goals js ws k p)
arm_turn s n k f g goals js ws ds None = (missed s ds k, refl, record { waiting = ds; deep = λ left deep le. deep; quiet = tt; is = refl })
arm_turn s n k f g goals js ws ds (Some p) =
    (Rest s ds k (trace s n (doing f (p ∷ goals)) js k), refl, record { waiting = ds; deep = λ left deep le. deep; quiet = tt; is = refl })

switch_turn : (s : Hlds) (n k : ℕ) (f : Frame) (g : ℕ) (goals : List Numbered) (js : List Frame) (ws : List Wait) (ds : List Waits) (ps : List Numbered) (keys : List Key) (v : Option Value)
    → AfterTurn s n ws ds f.act g (Rest s ds k (Turn f.act (Some g) 1 ∷ switched (λ f js k. trace s n f js k) f goals js k ps keys v)) (switches f goals js ws k ps keys v)
switch_turn s n k f g goals js ws ds ps keys None = tries_turn s n k f g goals js ws ds ps
switch_turn s n k f g goals js ws ds ps keys (Some v) = arm_turn s n k f g goals js ws ds (arm_for v keys ps)

disjunction_turn : (s : Hlds) (n k : ℕ) (f : Frame) (g : ℕ) (goals : List Numbered) (js : List Frame) (ws : List Wait) (ds : List Waits) (ps : List Numbered) (shape : Option (ℕ × List Key))
    → AfterTurn s n ws ds f.act g (Rest s ds k (Turn f.act (Some g) 1 ∷ disjunction (λ f js k. trace s n f js k) f goals js k ps shape)) (chooses f goals js ws k ps shape)
disjunction_turn s n k f g goals js ws ds ps None = tries_turn s n k f g goals js ws ds ps
disjunction_turn s n k f g goals js ws ds ps (Some shape) = switch_turn s n k f g goals js ws ds ps shape.1 (value_at f.env shape.0)

-- a call of a procedure whose body is cut, and of one whose body isn't
cut_turn : (s : Hlds) (n k : ℕ) (callee caller : Frame) (js : List Frame) (ws : List Wait) (ds : List Waits) (c : Item) → IsQuiet c
    → LeadsAt s n ws ds (c ∷ Rest s ds (suc k) (run_body (λ f js k. trace s n f js k) One callee caller js k)) (c ∷ []) (enters One callee caller js ws k)
cut_turn s n k callee caller js ws ds c q = record {
  waiting = record { depth = n; what = Returning k callee.pairs caller js } ∷ ds;
  deep = λ left deep le. (refl, le, deep);
  quiet = (q, tt);
  is = ap (λ xs. c ∷ xs) (first-first (trace s n (cut_off callee) [] (suc k)) (suc k)
      (λ e i. Exit k ∷ trace s n (knowing caller (back callee.pairs e caller.env) caller.goals) js i) (λ i. Fail k ∷ []) (excps (caller ∷ js))
      (λ e k. found s ds e k) (λ k. missed s ds k) (thrown ds));
}

whole_turn : (s : Hlds) (n k : ℕ) (callee caller : Frame) (js : List Frame) (ws : List Wait) (ds : List Waits) (c : Item) → IsQuiet c
    → LeadsAt s n ws ds (c ∷ Rest s ds (suc k) (run_body (λ f js k. trace s n f js k) Multi callee caller js k)) (c ∷ []) (enters Multi callee caller js ws k)
whole_turn s n k callee caller js ws ds c q = record {
  waiting = record { depth = n; what = Over k } ∷ ds;
  deep = λ left deep le. (refl, le, deep);
  quiet = (q, tt);
  is = ap (λ xs. c ∷ xs) (first-joined (trace s n callee (caller ∷ js) (suc k)) (suc k) (λ i. Fail k ∷ []) (λ e k. found s ds e k) (λ k. missed s ds k) (thrown ds));
}

body_turn : (s : Hlds) (n k : ℕ) (d : Det) (callee caller : Frame) (js : List Frame) (ws : List Wait) (ds : List Waits) (c : Item) → IsQuiet c
    → LeadsAt s n ws ds (c ∷ Rest s ds (suc k) (run_body (λ f js k. trace s n f js k) d callee caller js k)) (c ∷ []) (enters d callee caller js ws k)
body_turn s n k One callee caller js ws ds c q = cut_turn s n k callee caller js ws ds c q
body_turn s n k Semidet callee caller js ws ds c q = cut_turn s n k callee caller js ws ds c q
body_turn s n k Failure callee caller js ws ds c q = cut_turn s n k callee caller js ws ds c q
body_turn s n k Multi callee caller js ws ds c q = whole_turn s n k callee caller js ws ds c q
body_turn s n k Nondet callee caller js ws ds c q = whole_turn s n k callee caller js ws ds c q

call_turn : (s : Hlds) (n k : ℕ) (f : Frame) (g : ℕ) (goals : List Numbered) (js : List Frame) (ws : List Wait) (ds : List Waits) (site : ℕ) (q : ℕ × Procedure) (vs : List Value) (ys : List ℕ) (right : Bool)
    → AfterTurn s n ws ds f.act g (Rest s ds k (call_if s (λ f js k. trace s n f js k) f g goals js k site q vs ys right)) (calls_if s f goals js ws k site q vs ys right)
call_turn s n k f g goals js ws ds site q vs ys false = refl
call_turn s n k f g goals js ws ds site q vs ys true =
    let callee : Frame = body_frame s k (entered q.1 vs ys f.env) q (pairs_of (without vs q.1.head) ys) in (
      Call k (Some f.act) (Some site) q.0 ∷ Rest s ds (suc k) (run_body (λ f js k. trace s n f js k) q.1.det callee (doing f goals) js k),
      refl,
      body_turn s n k q.1.det callee (doing f goals) js ws ds (Call k (Some f.act) (Some site) q.0) tt,
    )

invoked_turn : (s : Hlds) (n k : ℕ) (f : Frame) (g : ℕ) (goals : List Numbered) (js : List Frame) (ws : List Wait) (ds : List Waits) (site : ℕ) (q : Option (ℕ × Procedure)) (vs : List Value) (ys : List ℕ)
    → AfterTurn s n ws ds f.act g (Rest s ds k (invoked s (λ f js k. trace s n f js k) f g goals js k site q vs ys)) (calls s f goals js ws k site q vs ys)
invoked_turn s n k f g goals js ws ds site None vs ys = refl
invoked_turn s n k f g goals js ws ds site (Some q) vs ys = call_turn s n k f g goals js ws ds site q vs ys (nat_eq (length vs + length ys) (length q.1.head))

applied_turn : (s : Hlds) (n k : ℕ) (f : Frame) (g : ℕ) (goals : List Numbered) (js : List Frame) (ws : List Wait) (ds : List Waits) (site : ℕ) (ys : List ℕ) (v : Option Value)
    → AfterTurn s n ws ds f.act g (Rest s ds k (applied s (λ f js k. trace s n f js k) f g goals js k site ys v)) (applies s f goals js ws k site ys v)
applied_turn s n k f g goals js ws ds site ys (Some (Closure q held)) = invoked_turn s n k f g goals js ws ds site (nth_procedure s q) (listed_values held) ys
applied_turn s n k f g goals js ws ds site ys (Some (Number i)) = refl
applied_turn s n k f g goals js ws ds site ys (Some (Literal bytes)) = refl
applied_turn s n k f g goals js ws ds site ys (Some (Built name parts)) = refl
applied_turn s n k f g goals js ws ds site ys None = refl

expr_turn : (s : Hlds) (n k : ℕ) (f : Frame) (g : ℕ) (goals : List Numbered) (js : List Frame) (ws : List Wait) (ds : List Waits) (t : GoalExpr)
    → AfterTurn s n ws ds f.act g (Rest s ds k (unfold_expr s (λ f js k. trace s n f js k) f g goals js k t)) (unfolds_expr s f g goals js ws k t)
expr_turn s n k f g goals js ws ds (SimpleGoal i) = simple_turn s n k f g goals js ws ds (simple s f.env i)
expr_turn s n k f g goals js ws ds (ConjGoal ps) =
    (Rest s ds k (trace s n (doing f (numbered_from (suc g) ps ++ goals)) js k), refl, record { waiting = ds; deep = λ left deep le. deep; quiet = tt; is = refl })
expr_turn s n k f g goals js ws ds (DisjGoal ps) = disjunction_turn s n k f g goals js ws ds (numbered_from (suc g) ps) (switch_shape s ps)
expr_turn s n k f g goals js ws ds (IfGoal c t e) =
    let then' : Numbered = numbered_goal (suc g + goal_size c) t in
    let else' : Numbered = numbered_goal (suc g + goal_size c + goal_size t) e in
    let here : Items = trace s n (alone f (numbered_goal (suc g) c)) [] k in
    let won : Env → ℕ → Items = λ v m. trace s n (knowing f v (then' ∷ goals)) js m in
    let lost : ℕ → Items = λ m. trace s n (doing f (else' ∷ goals)) js m in (
      Rest s ds k (first here k won lost (excps js)),
      refl,
      record {
        waiting = record { depth = n; what = Condition (doing f goals) js then' else' } ∷ ds;
        deep = λ left deep le. (refl, le, deep);
        quiet = tt;
        is = first-first here k won lost (excps js) (λ e k. found s ds e k) (λ k. missed s ds k) (thrown ds);
      },
    )
expr_turn s n k f g goals js ws ds (NotGoal c) =
    let here : Items = trace s n (alone f (numbered_goal (suc g) c)) [] k in
    let won : Env → ℕ → Items = λ v m. [] in
    let lost : ℕ → Items = λ m. trace s n (doing f goals) js m in (
      Rest s ds k (first here k won lost (excps js)),
      refl,
      record {
        waiting = record { depth = n; what = Negation (doing f goals) js } ∷ ds;
        deep = λ left deep le. (refl, le, deep);
        quiet = tt;
        is = first-first here k won lost (excps js) (λ e k. found s ds e k) (λ k. missed s ds k) (thrown ds);
      },
    )
expr_turn s n k f g goals js ws ds (SomeGoal vs c) =
    let here : Items = trace s n (alone f (numbered_goal (suc g) c)) [] k in
    let won : Env → ℕ → Items = λ v m. trace s n (doing f goals) js m in
    let lost : ℕ → Items = λ m. [] in (
      Rest s ds k (first here k won lost (excps js)),
      refl,
      record {
        waiting = record { depth = n; what = Single (doing f goals) js } ∷ ds;
        deep = λ left deep le. (refl, le, deep);
        quiet = tt;
        is = first-first here k won lost (excps js) (λ e k. found s ds e k) (λ k. missed s ds k) (thrown ds);
      },
    )
expr_turn s n k f g goals js ws ds (CallGoal site q ys) = invoked_turn s n k f g goals js ws ds site (procedure_called s q) [] ys
expr_turn s n k f g goals js ws ds (HoCallGoal site p ys) = applied_turn s n k f g goals js ws ds site ys (value_at f.env p)

goal_turn : (s : Hlds) (n k : ℕ) (f : Frame) (g : ℕ) (goals : List Numbered) (js : List Frame) (ws : List Wait) (ds : List Waits) (p : HldsGoal)
    → AfterTurn s n ws ds f.act g (Rest s ds k (unfold_goal s (λ f js k. trace s n f js k) f g goals js k p)) (unfolds s f g goals js ws k p)
goal_turn s n k f g goals js ws ds (At l t) = expr_turn s n k f g goals js ws ds t

-- a frame with a goal to do, at a depth that allows a turn
pub unfolds_from : (s : Hlds) (n k : ℕ) (f : Frame) (p : Numbered) (goals : List Numbered) (js : List Frame) (ws : List Wait) (ds : List Waits)
    → f.goals ≡ p ∷ goals
    → AfterTurn s n ws ds f.act p.number (due_doing s (suc n) (Goes f js) ds k) (unfolds s f p.number goals js ws k p.goal)
unfolds_from s n k f p goals js ws ds is =
    subst (λ (xs : Items). AfterTurn s n ws ds f.act p.number (Rest s ds k xs) (unfolds s f p.number goals js ws k p.goal))
    (sym (trace_returns s (suc n) f js k ∙ ap (λ gs. returns (next_at s (suc n)) js f gs k) is))
    (goal_turn s n k f p.number goals js ws ds p.goal)

-- ---- each turn weighs something

abbrev pub Weighs : Unfolded → Type 0
Weighs (Turns w items st) = 1 ≤ w
Weighs (Sticks w) = 1 ≤ w

simple_weighs : (f : Frame) (goals : List Numbered) (js : List Frame) (ws : List Wait) (k : ℕ) (o : Outcome) → Weighs (goes_simply f goals js ws k o)
simple_weighs f goals js ws k (Go e extra words out) = omega arith
simple_weighs f goals js ws k (No extra) = omega arith
simple_weighs f goals js ws k (Raised bytes) = omega arith
simple_weighs f goals js ws k Stop = omega arith

arm_weighs : (f : Frame) (goals : List Numbered) (js : List Frame) (ws : List Wait) (k : ℕ) (p : Option Numbered) → Weighs (takes_arm f goals js ws k p)
arm_weighs f goals js ws k None = omega arith
arm_weighs f goals js ws k (Some p) = omega arith

switch_weighs : (f : Frame) (goals : List Numbered) (js : List Frame) (ws : List Wait) (k : ℕ) (ps : List Numbered) (keys : List Key) (v : Option Value) → Weighs (switches f goals js ws k ps keys v)
switch_weighs f goals js ws k ps keys None = omega arith
switch_weighs f goals js ws k ps keys (Some v) = arm_weighs f goals js ws k (arm_for v keys ps)

disjunction_weighs : (f : Frame) (goals : List Numbered) (js : List Frame) (ws : List Wait) (k : ℕ) (ps : List Numbered) (shape : Option (ℕ × List Key)) → Weighs (chooses f goals js ws k ps shape)
disjunction_weighs f goals js ws k ps None = omega arith
disjunction_weighs f goals js ws k ps (Some shape) = switch_weighs f goals js ws k ps shape.1 (value_at f.env shape.0)

call_weighs : (s : Hlds) (f : Frame) (goals : List Numbered) (js : List Frame) (ws : List Wait) (k site : ℕ) (q : ℕ × Procedure) (vs : List Value) (ys : List ℕ) (right : Bool) → Weighs (calls_if s f goals js ws k site q vs ys right)
call_weighs s f goals js ws k site q vs ys true = omega arith
call_weighs s f goals js ws k site q vs ys false = omega arith

invoked_weighs : (s : Hlds) (f : Frame) (goals : List Numbered) (js : List Frame) (ws : List Wait) (k site : ℕ) (q : Option (ℕ × Procedure)) (vs : List Value) (ys : List ℕ) → Weighs (calls s f goals js ws k site q vs ys)
invoked_weighs s f goals js ws k site None vs ys = omega arith
invoked_weighs s f goals js ws k site (Some q) vs ys = call_weighs s f goals js ws k site q vs ys (nat_eq (length vs + length ys) (length q.1.head))

applied_weighs : (s : Hlds) (f : Frame) (goals : List Numbered) (js : List Frame) (ws : List Wait) (k site : ℕ) (ys : List ℕ) (v : Option Value) → Weighs (applies s f goals js ws k site ys v)
applied_weighs s f goals js ws k site ys (Some (Closure q held)) = invoked_weighs s f goals js ws k site (nth_procedure s q) (listed_values held) ys
applied_weighs s f goals js ws k site ys (Some (Number i)) = omega arith
applied_weighs s f goals js ws k site ys (Some (Literal bytes)) = omega arith
applied_weighs s f goals js ws k site ys (Some (Built name parts)) = omega arith
applied_weighs s f goals js ws k site ys None = omega arith

expr_weighs : (s : Hlds) (f : Frame) (g : ℕ) (goals : List Numbered) (js : List Frame) (ws : List Wait) (k : ℕ) (t : GoalExpr) → Weighs (unfolds_expr s f g goals js ws k t)
expr_weighs s f g goals js ws k (SimpleGoal i) = simple_weighs f goals js ws k (simple s f.env i)
expr_weighs s f g goals js ws k (ConjGoal ps) = omega arith
expr_weighs s f g goals js ws k (DisjGoal ps) = disjunction_weighs f goals js ws k (numbered_from (suc g) ps) (switch_shape s ps)
expr_weighs s f g goals js ws k (IfGoal c t e) = omega arith
expr_weighs s f g goals js ws k (NotGoal c) = omega arith
expr_weighs s f g goals js ws k (SomeGoal vs c) = omega arith
expr_weighs s f g goals js ws k (CallGoal site q ys) = invoked_weighs s f goals js ws k site (procedure_called s q) [] ys
expr_weighs s f g goals js ws k (HoCallGoal site p ys) = applied_weighs s f goals js ws k site ys (value_at f.env p)

pub weighs : (s : Hlds) (f : Frame) (g : ℕ) (goals : List Numbered) (js : List Frame) (ws : List Wait) (k : ℕ) (p : HldsGoal) → Weighs (unfolds s f g goals js ws k p)
weighs s f g goals js ws k (At l t) = expr_weighs s f g goals js ws k t

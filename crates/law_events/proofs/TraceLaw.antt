-- The trace of a job leads lawfully on: by induction on the depth, and there on the callers.
use Rattle.std.proofs.Common.{◌≡◌, refl, sym, ◌∙◌, subst, ℕ, zero, suc, ◌+◌, ◌-◌, ◌<◌, ◌≤◌, Bool, true, false, cond, List, [], ◌∷◌, ◌++◌, length, Option, Some, None, IsSomeAnd, slice_get, nat_eq, arith}
use Rattle.std.proofs.lemmas.Bool.{eq-eqb}
use Rattle.md_hlds.specs.declared.types.Det.{Det}
use Rattle.md_hlds.specs.declared.types.Det.TheVariants.{Semidet, Multi, Nondet, Failure}
use Rattle.md_hlds.specs.declared.types.Det.TheVariants.{Det as One}
use Rattle.md_hlds.specs.HldsGoal.{HldsGoal, At, GoalExpr, SimpleGoal, CallGoal, HoCallGoal, ConjGoal, DisjGoal, IfGoal, NotGoal, SomeGoal, goal_size, Numbered, numbered_goal, numbered_from, site_count}
use Rattle.md_hlds.specs.Hlds.{Hlds, Procedure, procedure_called, nth_procedure}
use Rattle.md_hlds.specs.Value.{Value, Number, Literal, Built, Closure, listed_values, Env, value_at}
use Rattle.md_hlds.specs.Simple.{Outcome, Go, No, Throws, Stop, simple}
use Rattle.md_hlds.specs.Switch.{Key, switch_shape, has_the_key, arm_for}
use Rattle.md_hlds.specs.Trace.{Exit, Redo, Fail, Deep, Items, Does, Frame, first, excps, doing, knowing, alone, allocated, written, after_simple, arms, one_arm, switched, disjunction, cut_off, run_body, back, call_if, invoked, applied, entered, unfold_expr, unfold_goal, returns, trace, pairs_of, without}
use Rattle.md_trace.specs.declared.event.Event.{Event}
use Rattle.md_trace.specs.declared.event.Event.TheVariants.{Call as CallOf, Exit as ExitOf, Redo as RedoOf, Fail as FailOf, Excp as ExcpOf, Alloc as AllocOf}
use Rattle.md_trace.specs.Activation.{activations, parent_of, procedure_of}
use Rattle.md_trace.specs.PortHistory.{SiteTable, MayCallAt}
use Rattle.law_events.specs.Table.{goal_sites, expr_sites}
use Rattle.law_events.proofs.Goes.{count, Then, AtAnswer, Goes, goes_joined, goes_first}
use Rattle.law_events.proofs.Later.{Outside, Later, Inside, same_parent, same_procedure, later_now, later_then, later_among, later_as, later_exit, later_redo, later_fail, later_excp, later_alloc, later_call}
use Rattle.law_events.proofs.Callers.{ArePlaced, placed_first, placed_second, AreSited, sited_before, sited_alone, acts, AreCallers, callers_later, outside_callers, Job, job_below, job_later, leaves_excps}

-- the procedures of the program stand in the table with their sites
pub record IsTableOf (s : Hlds) (t : SiteTable) : Type 0 where
  pub clauses : (n : ℕ) (p : Procedure) → slice_get s.procedures n ≡ Some p → ArePlaced t (goal_sites s n p.body)
  pub below : (n : ℕ) (p : Procedure) → slice_get s.procedures n ≡ Some p → n < t.procedures
  pub found : (name : _) (q : ℕ × Procedure) → procedure_called s name ≡ Some q → slice_get s.procedures q.0 ≡ Some q.1
  pub nth : (n : ℕ) (q : ℕ × Procedure) → nth_procedure s n ≡ Some q → slice_get s.procedures q.0 ≡ Some q.1

-- whatever follows it, a job's trace leads lawfully on
abbrev pub Claim : Hlds → SiteTable → Does → Type 1
Claim s t go =
    (q : ℕ) (f : Frame) (js : List Frame) (outer : Option ℕ) (good : AtAnswer) (over out : Then) (left : ℕ) (h : List Event)
    → Job s t q f.act f.goals js outer good over out left h → Goes t good over out left h (go f js (count h))

-- a turn is paid for
paid : {s : Hlds} {t : SiteTable} {q a : ℕ} {goals : List Numbered} {js : List Frame} {outer : Option ℕ} {good : AtAnswer} {over out : Then} {left : ℕ} {h : List Event} (w : ℕ)
    → Job s t q a goals js outer good over out left h → Job s t q a goals js outer good over out (left - w) h
paid {goals = goals} {left = left} {h = h} w j = job_later j goals (left - w) h j.sited (later_now _ _ left (left - w) h j.now (omega arith))

-- other goals of the same procedure
with : {s : Hlds} {t : SiteTable} {q a : ℕ} {goals : List Numbered} {js : List Frame} {outer : Option ℕ} {good : AtAnswer} {over out : Then} {left : ℕ} {h : List Event} (others : List Numbered)
    → Job s t q a goals js outer good over out left h → AreSited s t q others → Job s t q a others js outer good over out left h
with {left = left} {h = h} others j sited = job_later j others left h sited (later_now _ _ left left h j.now (omega arith))

module _ (s : Hlds) (t : SiteTable) (table : IsTableOf s t) (go : Does) (claim : Claim s t go) where
  -- ---- simple goals

  goes_written : (good : AtAnswer) (over out : Then) (left : ℕ) (h : List Event) (bytes : Option (List ℕ)) (xs : Items)
      → Goes t good over out left h xs → Goes t good over out left h (written bytes ++ xs)
  goes_written good over out left h None xs g = g
  goes_written good over out left h (Some bytes) xs g = g

  goes_allocated : (q a : ℕ) (goals : List Numbered) (js : List Frame) (outer : Option ℕ) (good : AtAnswer) (over out : Then) (left : ℕ) (h : List Event) (words : ℕ) (xs : Items)
      → Job s t q a goals js outer good over out left h
      → ((i : List Event) → count i ≡ count h → Job s t q a goals js outer good over out left i → Goes t good over out left i xs)
      → Goes t good over out left h (allocated a words ++ xs)
  goes_allocated q a goals js outer good over out left h zero xs j g = g h refl j
  goes_allocated q a goals js outer good over out left h (suc w) xs j g =
      (j.now, g (AllocOf a (suc w) ∷ h) refl (job_later j goals left (AllocOf a (suc w) ∷ h) j.sited (later_alloc a (suc w) (later_now _ _ left left h j.now (omega arith)))))

  goes_simple : (q : ℕ) (f : Frame) (n : ℕ) (goals : List Numbered) (js : List Frame) (outer : Option ℕ) (good : AtAnswer) (over out : Then) (left : ℕ) (h : List Event) (o : Outcome)
      → Job s t q f.act goals js outer good over out left h → Goes t good over out left h (after_simple go f n goals js (count h) o)
  goes_simple q f n goals js outer good over out left h (Go e extra words bytes) j = λ fits.
      goes_allocated q f.act goals js outer good over out (left - suc extra) h words (written bytes ++ go (knowing f e goals) js (count h)) (paid (suc extra) j)
      (λ i same k. goes_written good over out (left - suc extra) i bytes (go (knowing f e goals) js (count h))
      (subst (λ m. Goes t good over out (left - suc extra) i (go (knowing f e goals) js m)) same (claim q (knowing f e goals) js outer good over out (left - suc extra) i k)))
  goes_simple q f n goals js outer good over out left h (No extra) j = λ fits. j.ends.ends (left - suc extra) h (later_now _ _ left (left - suc extra) h j.now (omega arith))
  goes_simple q f n goals js outer good over out left h (Throws bytes) j = λ fits.
      let now = later_now (f.act ∷ acts js) (Some f.act) left (left - 1) h j.now (omega arith) in (
        j.now,
        leaves_excps s t outer out (f.act ∷ acts js) js f.act left h (left - 1) (ExcpOf f.act ∷ h) j.callers (job_below j)
            (later_excp f.act now (λ b below outside. outside.0)) (λ b outside. outside.1) j.ends.outs,
      )
  goes_simple q f n goals js outer good over out left h Stop j = λ fits. tt

  -- ---- goals that are run by themselves, up to their first answer

  goes_alone : (q : ℕ) (f : Frame) (c : Numbered) (goals : List Numbered) (js : List Frame) (outer : Option ℕ) (good : AtAnswer) (over out : Then) (left : ℕ) (h : List Event)
      (found : Env → ℕ → Items) (missed : ℕ → Items)
      → Job s t q f.act goals js outer good over out left h → ArePlaced t (goal_sites s q c.goal)
      → ((e : Env) (l : ℕ) (i : List Event) → Job s t q f.act goals js outer good over out l i → Goes t good over out l i (found e (count i)))
      → ((l : ℕ) (i : List Event) → Job s t q f.act goals js outer good over out l i → Goes t good over out l i (missed (count i)))
      → Goes t good over out left h (first (go (alone f c) [] (count h)) (count h) found missed (excps js))
  goes_alone q f c goals js outer good over out left h found missed j placed then' otherwise =
      let cover : (b : ℕ) → b < count h → Outside b (f.act ∷ acts js) → Outside b (f.act ∷ []) = λ b below outside. (outside.0, tt) in
      goes_first t good over out found missed (excps js) (go (alone f c) [] (count h)) (count h) left h refl
      (claim q (alone f c) [] (parent_of (activations h) f.act) _ _ _ left h
      (record {
        now = j.now;
        its = j.its;
        sited = (placed, tt);
        callers = refl;
        room = j.room;
        ends = record {
          answers = λ e l i later. then' e l i (job_later j goals l i j.sited (later_among later cover));
          ends = λ l i later. otherwise l i (job_later j goals l i j.sited (later_among later cover));
          outs = λ l i later. leaves_excps s t outer out (f.act ∷ acts js) js f.act left h l i j.callers (job_below j) (later_among later cover) (λ b outside. outside.1) j.ends.outs;
        };
      }))

  -- ---- disjunctions

  goes_arms : (q : ℕ) (f : Frame) (goals : List Numbered) (js : List Frame) (outer : Option ℕ) (good : AtAnswer) (over out : Then) (ps : List Numbered) (left : ℕ) (h : List Event)
      → Job s t q f.act goals js outer good over out left h → AreSited s t q ps → Goes t good over out left h (arms go f goals js (count h) ps)
  goes_arms q f goals js outer good over out [] left h j sited = j.ends.ends left h (later_now _ _ left left h j.now (omega arith))
  goes_arms q f goals js outer good over out (p ∷ ps) left h j sited =
      goes_joined t good over out (λ n. arms go f goals js n ps) (go (doing f (p ∷ goals)) js (count h)) (count h) left h refl
      (claim q (doing f (p ∷ goals)) js outer good _ out left h
      (record {
        now = j.now;
        its = j.its;
        sited = (sited.0, j.sited);
        callers = j.callers;
        room = j.room;
        ends = record {
          answers = j.ends.answers;
          ends = λ l i later. goes_arms q f goals js outer good over out ps l i (job_later j goals l i j.sited later) sited.1;
          outs = j.ends.outs;
        };
      }))

  -- the arm that is found is one of the arms
  chosen_arm : (q : ℕ) (here : Bool) (x p : Numbered) (later : Option Numbered) → ArePlaced t (goal_sites s q x.goal) → (later ≡ Some p → ArePlaced t (goal_sites s q p.goal))
      → cond here (Some x) later ≡ Some p → ArePlaced t (goal_sites s q p.goal)
  chosen_arm q true x p later placed rest is = let same : x ≡ p = cc in subst (λ (y : Numbered). ArePlaced t (goal_sites s q y.goal)) same placed
  chosen_arm q false x p later placed rest is = rest is

  sited_arm : (q : ℕ) (v : Value) (keys : List Key) (ps : List Numbered) (p : Numbered) → AreSited s t q ps → arm_for v keys ps ≡ Some p → ArePlaced t (goal_sites s q p.goal)
  sited_arm q v [] ps p sited is = absurd (cc)
  sited_arm q v (k ∷ ks) [] p sited is = absurd (cc)
  sited_arm q v (k ∷ ks) (x ∷ ps) p sited is = chosen_arm q (has_the_key v k) x p (arm_for v ks ps) sited.0 (λ later. sited_arm q v ks ps p sited.1 later) is

  goes_one_arm : (q : ℕ) (f : Frame) (goals : List Numbered) (js : List Frame) (outer : Option ℕ) (good : AtAnswer) (over out : Then) (o : Option Numbered) (left : ℕ) (h : List Event)
      → Job s t q f.act goals js outer good over out left h → ((p : Numbered) → o ≡ Some p → ArePlaced t (goal_sites s q p.goal))
      → Goes t good over out left h (one_arm go f goals js (count h) o)
  goes_one_arm q f goals js outer good over out None left h j sited = j.ends.ends left h (later_now _ _ left left h j.now (omega arith))
  goes_one_arm q f goals js outer good over out (Some p) left h j sited =
      claim q (doing f (p ∷ goals)) js outer good over out left h (with (p ∷ goals) j (sited p refl, j.sited))

  goes_switched : (q : ℕ) (f : Frame) (goals : List Numbered) (js : List Frame) (outer : Option ℕ) (good : AtAnswer) (over out : Then) (ps : List Numbered) (keys : List Key) (v : Option Value) (left : ℕ) (h : List Event)
      → Job s t q f.act goals js outer good over out left h → AreSited s t q ps → Goes t good over out left h (switched go f goals js (count h) ps keys v)
  goes_switched q f goals js outer good over out ps keys None left h j sited = goes_arms q f goals js outer good over out ps left h j sited
  goes_switched q f goals js outer good over out ps keys (Some v) left h j sited =
      goes_one_arm q f goals js outer good over out (arm_for v keys ps) left h j (λ p is. sited_arm q v keys ps p sited is)

  goes_disjunction : (q : ℕ) (f : Frame) (goals : List Numbered) (js : List Frame) (outer : Option ℕ) (good : AtAnswer) (over out : Then) (ps : List Numbered) (shape : Option (ℕ × List Key)) (left : ℕ) (h : List Event)
      → Job s t q f.act goals js outer good over out left h → AreSited s t q ps → Goes t good over out left h (disjunction go f goals js (count h) ps shape)
  goes_disjunction q f goals js outer good over out ps None left h j sited = goes_arms q f goals js outer good over out ps left h j sited
  goes_disjunction q f goals js outer good over out ps (Some shape) left h j sited = goes_switched q f goals js outer good over out ps shape.1 (value_at f.env shape.0) left h j sited

  -- ---- calls

  -- the history after a call of procedure r is later
  later_called : (q : ℕ) (f : Frame) (goals : List Numbered) (js : List Frame) (outer : Option ℕ) (good : AtAnswer) (over out : Then) (left w : ℕ) (h : List Event) (site r : ℕ)
      → Job s t q f.act goals js outer good over out left h → suc w ≤ left
      → Later (f.act ∷ acts js) (Some (count h)) left h (left - suc w) (CallOf (count h) (Some f.act) (Some site) r ∷ h)
  later_called q f goals js outer good over out left w h site r j fits =
      later_call (Some f.act) (Some site) r w (later_now (f.act ∷ acts js) (Some f.act) left left h j.now (omega arith)) fits

  -- a new activation has its procedure and its caller
  new_procedure : (h : List Event) (p site : Option ℕ) (r : ℕ) → procedure_of (activations (CallOf (count h) p site r ∷ h)) (count h) ≡ Some r
  new_procedure h p site r = rw (eq-eqb (count h) (count h) refl) refl

  new_parent : (h : List Event) (p site : Option ℕ) (r : ℕ) → parent_of (activations (CallOf (count h) p site r ∷ h)) (count h) ≡ p
  new_parent h p site r = rw (eq-eqb (count h) (count h) refl) refl

  -- the new activation is none of those before
  cover_new : (b k : ℕ) (those : List ℕ) → b < k → Outside b those → Outside b (k ∷ those)
  cover_new b k those below outside = ((λ e. absurd (omega (arith, e, below))), outside)

  module _ (q : ℕ) (caller : Frame) (js : List Frame) (outer : Option ℕ) (good : AtAnswer) (over out : Then) (left w : ℕ) (h : List Event) (site r : ℕ) (e : Env) (body : List Numbered) (pairs : List (ℕ × ℕ))
      (j : Job s t q caller.act caller.goals js outer good over out left h) (fits : suc w ≤ left) (sited : AreSited s t r body) where
    -- the history after the call, and the frame of the new activation
    abbrev after : List Event
    after = CallOf (count h) (Some caller.act) (Some site) r ∷ h

    abbrev callee : Frame
    callee = record { act = count h; env = e; goals = body; pairs = pairs }

    since : Later (caller.act ∷ acts js) (Some (count h)) left h (left - suc w) after
    since = later_called q caller caller.goals js outer good over out left w h site r j fits

    callers_after : AreCallers s t (activations after) outer (count h) (caller ∷ js)
    callers_after = (
      new_parent h (Some caller.act) (Some site) r,
      job_below j,
      (q, same_procedure caller.act since (job_below j) ∙ j.its, j.sited),
      callers_later s t outer js caller.act since (job_below j) j.callers,
    )

    -- the new activation leaves, and its caller runs again
    inside_new : Inside (count h) (caller.act ∷ acts js) h
    inside_new = λ b below outside is. absurd (omega (arith, is, below))

    cover_all : (b : ℕ) → b < count h → Outside b (caller.act ∷ acts js) → Outside b (count h ∷ caller.act ∷ acts js)
    cover_all b below outside = cover_new b (count h) (caller.act ∷ acts js) below outside

    leaves_new : (those : List ℕ) (l : ℕ) (i : List Event) → Later those (Some (count h)) (left - suc w) after l i → parent_of (activations i) (count h) ≡ Some caller.act
    leaves_new those l i later = same_parent (count h) later (omega arith) ∙ new_parent h (Some caller.act) (Some site) r

    goes_cut : Goes t good over out (left - suc w) after (run_body go One callee caller js (count h))
    goes_cut =
        let alone_cover : (b : ℕ) → b < count h → Outside b (caller.act ∷ acts js) → Outside b (count h ∷ []) = λ b below outside. ((λ is. absurd (omega (arith, is, below))), tt) in
        goes_first t good over out (λ a n. Exit (count h) ∷ go (knowing caller (back pairs a caller.env) caller.goals) js n) (λ n. Fail (count h) ∷ []) (excps (caller ∷ js))
        (go (cut_off callee) [] (suc (count h))) (suc (count h)) (left - suc w) after refl
        (claim r (cut_off callee) [] (Some caller.act) _ _ _ (left - suc w) after
        (record {
          now = refl;
          its = new_procedure h (Some caller.act) (Some site) r;
          sited = sited;
          callers = new_parent h (Some caller.act) (Some site) r;
          room = omega (arith, j.room, fits);
          ends = record {
            answers = λ a l i later. (
              later.runs,
              claim q (knowing caller (back pairs a caller.env) caller.goals) js outer good over out l (ExitOf (count h) ∷ i)
                  (job_later j caller.goals l (ExitOf (count h) ∷ i) j.sited
                  (later_as (later_exit (count h) (later_then since alone_cover later) inside_new) (leaves_new _ l i later))),
            );
            ends = λ l i later.
                (later.runs, j.ends.ends l (FailOf (count h) ∷ i) (later_as (later_fail (count h) (later_then since alone_cover later) inside_new) (leaves_new _ l i later)));
            outs = λ l i later.
                leaves_excps s t outer out (count h ∷ caller.act ∷ acts js) (caller ∷ js) (count h) (left - suc w) after l i callers_after (omega arith)
                (later_as (later_among later (λ b below outside. (outside.0, tt))) (sym (new_parent h (Some caller.act) (Some site) r)))
                (λ b outside. outside.1) (λ m x last. j.ends.outs m x (later_then since cover_all last));
          };
        }))

    goes_all : Goes t good over out (left - suc w) after (run_body go Multi callee caller js (count h))
    goes_all =
        goes_joined t good over out (λ n. Fail (count h) ∷ []) (go callee (caller ∷ js) (suc (count h))) (suc (count h)) (left - suc w) after refl
        (claim r callee (caller ∷ js) outer good _ out (left - suc w) after
        (record {
          now = refl;
          its = new_procedure h (Some caller.act) (Some site) r;
          sited = sited;
          callers = callers_after;
          room = omega (arith, j.room, fits);
          ends = record {
            answers = λ a l i later. j.ends.answers a l i (later_then since cover_all later);
            ends = λ l i later.
                (later.runs, j.ends.ends l (FailOf (count h) ∷ i) (later_as (later_fail (count h) (later_then since cover_all later) inside_new) (leaves_new _ l i later)));
            outs = λ l i later. j.ends.outs l i (later_then since cover_all later);
          };
        }))

    goes_body : (d : Det) → Goes t good over out (left - suc w) after (run_body go d callee caller js (count h))
    goes_body One = goes_cut
    goes_body Semidet = goes_cut
    goes_body Failure = goes_cut
    goes_body Multi = goes_all
    goes_body Nondet = goes_all

  -- a call of procedure r that may be made at a site of procedure q
  record MayBeCalled (q site : ℕ) (r : ℕ × Procedure) : Type 0 where
    here : IsSomeAnd (slice_get t.sites site) (MayCallAt t (Some q) r.0)
    found : slice_get s.procedures r.0 ≡ Some r.1

  goes_call : (q : ℕ) (f : Frame) (n : ℕ) (goals : List Numbered) (js : List Frame) (outer : Option ℕ) (good : AtAnswer) (over out : Then) (left : ℕ) (h : List Event) (site : ℕ) (r : ℕ × Procedure) (vs : List Value) (ys : List ℕ) (right : Bool)
      → Job s t q f.act goals js outer good over out left h → MayBeCalled q site r
      → Goes t good over out left h (call_if s go f n goals js (count h) site r vs ys right)
  goes_call q f n goals js outer good over out left h site r vs ys false j may = λ fits. tt
  goes_call q f n goals js outer good over out left h site r vs ys true j may = λ fits. (
    (refl, omega (arith, j.room, fits), sym j.now, subst (λ o. IsSomeAnd (slice_get t.sites site) (MayCallAt t o r.0)) (sym j.its) may.here),
    goes_body q (doing f goals) js outer good over out left (length r.1.vars + site_count r.1.body) h site r.0 (entered r.1 vs ys f.env) _ (pairs_of (without vs r.1.head) ys) j fits
        (table.clauses r.0 r.1 may.found, tt) r.1.det,
  )

  goes_invoked : (q : ℕ) (f : Frame) (n : ℕ) (goals : List Numbered) (js : List Frame) (outer : Option ℕ) (good : AtAnswer) (over out : Then) (left : ℕ) (h : List Event) (site : ℕ) (o : Option (ℕ × Procedure)) (vs : List Value) (ys : List ℕ)
      → Job s t q f.act goals js outer good over out left h → ((r : ℕ × Procedure) → o ≡ Some r → MayBeCalled q site r)
      → Goes t good over out left h (invoked s go f n goals js (count h) site o vs ys)
  goes_invoked q f n goals js outer good over out left h site None vs ys j may = λ fits. tt
  goes_invoked q f n goals js outer good over out left h site (Some r) vs ys j may =
      goes_call q f n goals js outer good over out left h site r vs ys (nat_eq (length vs + length ys) (length r.1.head)) j (may r refl)

  goes_applied : (q : ℕ) (f : Frame) (n : ℕ) (goals : List Numbered) (js : List Frame) (outer : Option ℕ) (good : AtAnswer) (over out : Then) (left : ℕ) (h : List Event) (site : ℕ) (ys : List ℕ) (v : Option Value)
      → Job s t q f.act goals js outer good over out left h → slice_get t.sites site ≡ Some (record { owner = q; callee = None })
      → Goes t good over out left h (applied s go f n goals js (count h) site ys v)
  goes_applied q f n goals js outer good over out left h site ys (Some (Closure p held)) j here =
      goes_invoked q f n goals js outer good over out left h site (nth_procedure s p) (listed_values held) ys j
      (λ r is. record { here = rw here (record { owned = refl; callee = table.below r.0 r.1 (table.nth p r is) }); found = table.nth p r is })
  goes_applied q f n goals js outer good over out left h site ys (Some (Number i)) j here = λ fits. tt
  goes_applied q f n goals js outer good over out left h site ys (Some (Literal bytes)) j here = λ fits. tt
  goes_applied q f n goals js outer good over out left h site ys (Some (Built name parts)) j here = λ fits. tt
  goes_applied q f n goals js outer good over out left h site ys None j here = λ fits. tt

  -- ---- one goal

  goes_expr : (q : ℕ) (f : Frame) (n : ℕ) (goals : List Numbered) (js : List Frame) (outer : Option ℕ) (good : AtAnswer) (over out : Then) (left : ℕ) (h : List Event) (x : GoalExpr)
      → Job s t q f.act goals js outer good over out left h → ArePlaced t (expr_sites s q x)
      → Goes t good over out left h (unfold_expr s go f n goals js (count h) x)
  goes_expr q f n goals js outer good over out left h (SimpleGoal g) j placed = goes_simple q f n goals js outer good over out left h (simple s f.env g) j
  goes_expr q f n goals js outer good over out left h (CallGoal site name ys) j placed =
      goes_invoked q f n goals js outer good over out left h site (procedure_called s name) [] ys j
      (λ r is. record { here = rw placed.0 (record { owned = refl; callee = rw is refl }); found = table.found name r is })
  goes_expr q f n goals js outer good over out left h (HoCallGoal site p ys) j placed = goes_applied q f n goals js outer good over out left h site ys (value_at f.env p) j placed.0
  goes_expr q f n goals js outer good over out left h (ConjGoal ps) j placed = λ fits.
      claim q (doing f (numbered_from (suc n) ps ++ goals)) js outer good over out (left - 1) h
      (with (numbered_from (suc n) ps ++ goals) (paid 1 j) (sited_before s t q (suc n) ps goals placed j.sited))
  goes_expr q f n goals js outer good over out left h (DisjGoal ps) j placed = λ fits.
      goes_disjunction q f goals js outer good over out (numbered_from (suc n) ps) (switch_shape s ps) (left - 1) h (paid 1 j) (sited_alone s t q (suc n) ps placed)
  goes_expr q f n goals js outer good over out left h (IfGoal c x y) j placed = λ fits.
      let behind = placed_second t (goal_sites s q c) (goal_sites s q x ++ goal_sites s q y) placed in
      goes_alone q f (numbered_goal (suc n) c) goals js outer good over out (left - 1) h _ _ (paid 1 j) (placed_first t (goal_sites s q c) (goal_sites s q x ++ goal_sites s q y) placed)
      (λ e l i k. claim q (knowing f e (numbered_goal (suc n + goal_size c) x ∷ goals)) js outer good over out l i
      (with (numbered_goal (suc n + goal_size c) x ∷ goals) k (placed_first t (goal_sites s q x) (goal_sites s q y) behind, j.sited)))
      (λ l i k. claim q (doing f (numbered_goal (suc n + goal_size c + goal_size x) y ∷ goals)) js outer good over out l i
      (with (numbered_goal (suc n + goal_size c + goal_size x) y ∷ goals) k (placed_second t (goal_sites s q x) (goal_sites s q y) behind, j.sited)))
  goes_expr q f n goals js outer good over out left h (NotGoal c) j placed = λ fits.
      goes_alone q f (numbered_goal (suc n) c) goals js outer good over out (left - 1) h _ _ (paid 1 j) placed
      (λ e l i k. k.ends.ends l i (later_now _ _ l l i k.now (omega arith)))
      (λ l i k. claim q (doing f goals) js outer good over out l i k)
  goes_expr q f n goals js outer good over out left h (SomeGoal vs c) j placed = λ fits.
      goes_alone q f (numbered_goal (suc n) c) goals js outer good over out (left - 1) h _ _ (paid 1 j) placed
      (λ e l i k. claim q (doing f goals) js outer good over out l i k)
      (λ l i k. k.ends.ends l i (later_now _ _ l l i k.now (omega arith)))

  goes_goal : (q : ℕ) (f : Frame) (n : ℕ) (goals : List Numbered) (js : List Frame) (outer : Option ℕ) (good : AtAnswer) (over out : Then) (left : ℕ) (h : List Event) (g : HldsGoal)
      → Job s t q f.act goals js outer good over out left h → ArePlaced t (goal_sites s q g)
      → Goes t good over out left h (unfold_goal s go f n goals js (count h) g)
  goes_goal q f n goals js outer good over out left h (At line x) j placed = goes_expr q f n goals js outer good over out left h x j placed

-- ---- a job

abbrev Next : Type 0
Next = Frame → Numbered → List Numbered → List Frame → ℕ → Items

-- what is asked of `next`: a first frame that has a goal to do
abbrev NextClaim : Hlds → SiteTable → Next → Type 1
NextClaim s t next =
    (q : ℕ) (f : Frame) (g : Numbered) (goals : List Numbered) (js : List Frame) (outer : Option ℕ) (good : AtAnswer) (over out : Then) (left : ℕ) (h : List Event)
    → Job s t q f.act (g ∷ goals) js outer good over out left h → Goes t good over out left h (next f g goals js (count h))

goes_returns : (s : Hlds) (t : SiteTable) (next : Next) → NextClaim s t next → (js : List Frame) (f : Frame) (goals : List Numbered) (q : ℕ) (outer : Option ℕ) (good : AtAnswer) (over out : Then) (left : ℕ) (h : List Event)
    → Job s t q f.act goals js outer good over out left h → Goes t good over out left h (returns next js f goals (count h))
goes_returns s t next claim js f (g ∷ goals) q outer good over out left h j = claim q f g goals js outer good over out left h j
goes_returns s t next claim [] f [] q outer good over out left h j = j.ends.answers f.env left h (later_now _ _ left left h j.now (omega arith))
goes_returns s t next claim (c ∷ js) f [] q outer good over out left h j =
    let those : List ℕ = f.act ∷ c.act ∷ acts js in
    let since : Later those (Some c.act) left h left (ExitOf f.act ∷ h) =
    later_as (later_exit f.act (later_now those (Some f.act) left left h j.now (omega arith)) (λ b below outside. outside.0)) j.callers.0 in
    let caller : Frame = knowing c (back f.pairs f.env c.env) c.goals in (
      j.now,
      goes_joined t good over out (λ n. Redo f.act ∷ []) (returns next js caller c.goals (count h)) (count h) left (ExitOf f.act ∷ h) refl
          (goes_returns s t next claim js caller c.goals j.callers.2.0 outer good _ out left (ExitOf f.act ∷ h)
          (record {
            now = j.callers.0;
            its = j.callers.2.1;
            sited = j.callers.2.2;
            callers = j.callers.3;
            room = j.room;
            ends = record {
              answers = λ e l i later. j.ends.answers e l i (later_then since (λ b below outside. outside.1) later);
              ends = λ l i later. (
                (
                  later.still f.act (job_below j) (outside_callers s t (activations h) outer f.act f.act (c ∷ js) (omega arith) j.callers) ∙ rw (eq-eqb f.act f.act refl) refl,
                  (c.act, same_parent f.act later (job_below j) ∙ j.callers.0, later.runs),
                ),
                j.ends.ends l (RedoOf f.act ∷ i) (later_redo f.act (later_then since (λ b below outside. outside.1) later) (λ b below outside. outside.0)),
              );
              outs = λ l i later. j.ends.outs l i (later_then since (λ b below outside. outside.1) later);
            };
          })),
    )

-- the trace of a job to any depth
pub goes_trace : (s : Hlds) (t : SiteTable) → IsTableOf s t → (depth : ℕ) → Claim s t (λ f js k. trace s depth f js k)
goes_trace s t table zero q f js outer good over out left h j =
    goes_returns s t (λ f g goals js k. Deep ∷ []) (λ q f g goals js outer good over out left h j. tt) js f f.goals q outer good over out left h j
goes_trace s t table (suc m) q f js outer good over out left h j =
    goes_returns s t _
    (λ q f g goals js outer good over out left h j.
    goes_goal s t table (λ f js k. trace s m f js k) (goes_trace s t table m) q f g.number goals js outer good over out left h g.goal (with goals j j.sited.1) j.sited.0)
    js f f.goals q outer good over out left h j

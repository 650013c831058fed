-- Every turn: where what is said of choices is right, a turn leads to a state that the machine in place stands at, or no
-- rule applies.
use Rattle.std.proofs.Common.{◌≡◌, refl, ap, sym, ◌∙◌, subst, ℕ, suc, ◌+◌, Bool, true, false, nat_eq, List, [], ◌∷◌, length, Option, Some, None, inl, inr, zero-add}
use Rattle.md_hlds.specs.declared.goal.PredName.{PredName}
use Rattle.md_hlds.specs.HldsGoal.{Simple, HldsGoal, At, SimpleGoal, CallGoal, HoCallGoal, ConjGoal, DisjGoal, IfGoal, NotGoal, SomeGoal, HldsGoals, Numbered, numbered_goal, numbered_from}
use Rattle.md_hlds.specs.Hlds.{Hlds, Procedure, procedure_called, nth_procedure}
use Rattle.md_hlds.specs.Value.{Value, Values, Number, Literal, Built, Closure, listed_values, Env, value_at}
use Rattle.md_hlds.specs.Simple.{Outcome, Go, No, Stop}
use Rattle.md_hlds.specs.Simple.{Throws as Raised}
use Rattle.md_hlds.specs.Simple as run
use Rattle.md_hlds.specs.Switch.{Key, switch_shape, arm_for}
use Rattle.md_hlds.specs.Trace.{Frame, entered, pairs_of, without}
use Rattle.law_steps.specs.State.{Wait, State}
use Rattle.law_steps.specs.Steps.{Sticks, calls_if, calls, applies, unfolds}
use Rattle.law_frames.specs.Ways.{Leaves, Address, Way, on, goals_of, IsAmong, some_leaves}
use Rattle.law_frames.specs.Stores.{Act, Choice, Store, top, HandsOver}
use Rattle.law_frames.specs.Standing.{Runs, Stands, runs}
use Rattle.law_frames.specs.Moves.{env_of, AnyTurn, sticks, turns}
use Rattle.law_frames.specs.Leaving.{has_many, LeavesAsCalled, LeavesAsApplied, LeavesAsTried, LeavesAsSwitched, LeavesRight, AreTried}
use Rattle.law_frames.specs.Calls.{NewFrame, callee, captured, PassesIn, none_in, passed_in, held_back, frame_written, HandsAsCalled, HandsAsApplied, HandsRight}
use Rattle.law_frames.proofs.Leave.{top_above}
use Rattle.law_frames.proofs.Ends.{placed_of}
use Rattle.law_frames.proofs.Turning.{unfolds_to}
use Rattle.law_frames.proofs.Binding.{simple_writes}
use Rattle.law_frames.proofs.Filling.{seconds, frame_filled}
use Rattle.law_frames.proofs.SimpleTurns.{simple_goes, simple_fails, simple_throws, simple_sticks, slots_are_read, conjunction_goes}
use Rattle.law_frames.proofs.Conditions.{if_goes, not_goes, some_goes}
use Rattle.law_frames.proofs.Disjunctions.{disjunction_tries, switch_goes, switch_fails}
use Rattle.law_frames.proofs.Calling.{CallsOf, cut_called, whole_called, plain_call, closure_call}

-- ---- simple goals

any_simple : {lv : Leaves} {S : Store} {a : Address} {n l : ℕ} {g : Simple} {w : Way} {x : Act} {c : List Act} {cs : List Choice} {k : ℕ} {st : State} (s : Hlds)
    → Stands lv S (Runs (on a (numbered_goal n (At l (SimpleGoal g))) w) x c) cs k st → lv n ≡ false → (o : Outcome) → run.simple s (env_of st) g ≡ o → AnyTurn s lv st x.number n
any_simple {l = l} {g = g} {st = st} s stands none (Go d extra words out) is =
    let written = simple_writes s l g (env_of st) d extra words out is in
    turns _ _ _ _ _ _ (simple_goes s stands none extra words out written.bs (is ∙ ap (λ d. Go d extra words out) written.is) written.fresh written.mentioned)
any_simple s stands none (No extra) is = turns _ _ _ _ _ _ (simple_fails s stands extra is)
any_simple s stands none (Raised bytes) is = turns _ _ _ _ _ _ (simple_throws s stands bytes is)
any_simple s stands none Stop is = sticks 1 (simple_sticks s stands is)

-- ---- disjunctions

any_arm : {lv : Leaves} {S : Store} {a : Address} {n l : ℕ} {ps : HldsGoals} {w : Way} {x : Act} {c : List Act} {cs : List Choice} {k : ℕ} {st : State} (s : Hlds)
    → Stands lv S (Runs (on a (numbered_goal n (At l (DisjGoal ps))) w) x c) cs k st → (some_leaves lv (suc n) ps ≡ true → lv n ≡ true)
    → (shape : ℕ × List Key) (v : Value) → switch_shape s ps ≡ Some shape → value_at (env_of st) shape.0 ≡ Some v → (q : Option Numbered) → arm_for v shape.1 (numbered_from (suc n) ps) ≡ q → AnyTurn s lv st x.number n
any_arm s stands less shape v is has None arm = turns _ _ _ _ _ _ (switch_fails s stands shape v is has arm)
any_arm s stands less shape v is has (Some q) arm = turns _ _ _ _ _ _ (switch_goes s stands less shape v q is has arm)

any_switch : {lv : Leaves} {S : Store} {a : Address} {n l : ℕ} {ps : HldsGoals} {w : Way} {x : Act} {c : List Act} {cs : List Choice} {k : ℕ} {st : State} (s : Hlds)
    → Stands lv S (Runs (on a (numbered_goal n (At l (DisjGoal ps))) w) x c) cs k st → (some_leaves lv (suc n) ps ≡ true → lv n ≡ true)
    → (shape : ℕ × List Key) → switch_shape s ps ≡ Some shape → (v : Option Value) → value_at (env_of st) shape.0 ≡ v → LeavesAsSwitched lv n v → AnyTurn s lv st x.number n
any_switch {st = st} s stands less shape is None has leaves = turns _ _ _ _ _ _ (disjunction_tries s stands leaves (subst (AreTried (env_of st)) (sym is) has))
any_switch {n = n} {ps = ps} s stands less shape is (Some v) has leaves = any_arm s stands less shape v is has (arm_for v shape.1 (numbered_from (suc n) ps)) refl

any_disjunction : {lv : Leaves} {S : Store} {a : Address} {n l : ℕ} {ps : HldsGoals} {w : Way} {x : Act} {c : List Act} {cs : List Choice} {k : ℕ} {st : State} (s : Hlds)
    → Stands lv S (Runs (on a (numbered_goal n (At l (DisjGoal ps))) w) x c) cs k st → (some_leaves lv (suc n) ps ≡ true → lv n ≡ true)
    → (shape : Option (ℕ × List Key)) → switch_shape s ps ≡ shape → LeavesAsTried lv n (env_of st) shape → AnyTurn s lv st x.number n
any_disjunction {st = st} s stands less None is leaves = turns _ _ _ _ _ _ (disjunction_tries s stands leaves (subst (AreTried (env_of st)) (sym is) tt))
any_disjunction {st = st} s stands less (Some shape) is leaves = any_switch s stands less shape is (value_at (env_of st) shape.0) refl leaves

-- ---- calls

-- arguments with values, and those without
passes_any : (e : Env) (ps : List (ℕ × ℕ)) → (ins : List (ℕ × ℕ)) × PassesIn e ps ins
passes_any e [] = ([], none_in)
passes_any e (p ∷ ps) = by_value (value_at e p.1) refl (passes_any e ps)
  where
    by_value : (o : Option Value) → value_at e p.1 ≡ o → ((ins : List (ℕ × ℕ)) × PassesIn e ps ins) → (ins : List (ℕ × ℕ)) × PassesIn e (p ∷ ps) ins
    by_value None is more = (more.0, held_back p ps more.0 is more.1)
    by_value (Some v) is more = (p ∷ more.0, passed_in p ps more.0 v is more.1)

seconds_among : (y : ℕ) (hs ys : List ℕ) → IsAmong y (seconds (pairs_of hs ys)) → IsAmong y ys
seconds_among y [] ys among = absurd among
seconds_among y (h ∷ hs) [] among = absurd among
seconds_among y (h ∷ hs) (z ∷ ys) (inl here) = inl here
seconds_among y (h ∷ hs) (z ∷ ys) (inr there) = inr (seconds_among y hs ys there)

-- the frame of a call may be written so
pub frame_of_call : {lv : Leaves} {S : Store} {a : Address} {p : Numbered} {w : Way} {x : Act} {c : List Act} {cs : List Choice} {k : ℕ} {st : State} (s : Hlds) (site : ℕ) (q : ℕ × Procedure) (vs : List Value) (ys : List ℕ) (outs ins : List (ℕ × ℕ))
    → Stands lv S (Runs (on a p w) x c) cs k st → CallsOf s st x p site q vs ys → PassesIn (env_of st) (pairs_of (without vs q.1.head) ys) ins
    → NewFrame S (frame_written S x.index (top x cs) (callee (top x cs) k x q vs ys outs a p w) (length cs) (captured vs q.1.head) ins) (top x cs) (callee (top x cs) k x q vs ys outs a p w) (entered q.1 vs ys (env_of st)) (length cs)
frame_of_call {S = S} {a = a} {p = p} {w = w} {x = x} {cs = cs} {k = k} {st = st} s site q vs ys outs ins stands call passes =
    frame_filled S x (callee (top x cs) k x q vs ys outs a p w) (top x cs) (length cs) q.1 vs ys ins (env_of st) (top_above x cs) refl passes
    (λ y v among is. slots_are_read stands y v (call.mentions y (seconds_among y (without vs q.1.head) ys among)) is)

any_called : {lv : Leaves} {S : Store} {a : Address} {p : Numbered} {w : Way} {x : Act} {c : List Act} {cs : List Choice} {k : ℕ} {st : State} (s : Hlds) (site : ℕ) (q : ℕ × Procedure) (vs : List Value) (ys : List ℕ) (outs : List (ℕ × ℕ))
    → Stands lv S (Runs (on a p w) x c) cs k st → CallsOf s st x p site q vs ys → lv p.number ≡ has_many q.1.det → HandsOver (env_of st) (pairs_of (without vs q.1.head) ys) outs → AnyTurn s lv st x.number p.number
any_called {lv} {S} {a} {p} {w} {x} {c} {cs} {k} {st} s site q vs ys outs stands call leaves hands = by_det (has_many q.1.det) refl
  where
    passes : (ins : List (ℕ × ℕ)) × PassesIn (env_of st) (pairs_of (without vs q.1.head) ys) ins
    passes = passes_any (env_of st) (pairs_of (without vs q.1.head) ys)

    by_det : (many : Bool) → has_many q.1.det ≡ many → AnyTurn s lv st x.number p.number
    by_det false many = turns _ _ _ _ _ _ (cut_called s site q vs ys outs stands call many leaves hands (frame_of_call s site q vs ys outs passes.0 stands call passes.1))
    by_det true many = turns _ _ _ _ _ _ (whole_called s site q vs ys outs (length cs) stands call many leaves hands (frame_of_call s site q vs ys outs passes.0 stands call passes.1))

-- where a call has no procedure, or another number of arguments
sticks_at : {lv : Leaves} {S : Store} {a : Address} {p : Numbered} {w : Way} {x : Act} {c : List Act} {cs : List Choice} {k : ℕ} {st : State} (s : Hlds) → Stands lv S (Runs (on a p w) x c) cs k st
    → ((f : Frame) (goals : List Numbered) (js : List Frame) (ws : List Wait) (k : ℕ) → f.env ≡ env_of st → unfolds s f p.number goals js ws k p.goal ≡ Sticks 1) → AnyTurn s lv st x.number p.number
sticks_at {p = p} {w = w} {x = x} s (runs {f = f} {js = js} {ws = ws} k goes) stuck = sticks 1 (unfolds_to s x p (goals_of w) f js ws k (Sticks 1) (placed_of goes).is (placed_of goes).goals (stuck f (goals_of w) js ws k refl))

any_plain : {lv : Leaves} {S : Store} {a : Address} {n l site : ℕ} {r : PredName} {ys : List ℕ} {w : Way} {x : Act} {c : List Act} {cs : List Choice} {k : ℕ} {st : State} (s : Hlds)
    → Stands lv S (Runs (on a (numbered_goal n (At l (CallGoal site r ys))) w) x c) cs k st → (o : Option (ℕ × Procedure)) → procedure_called s r ≡ o → LeavesAsCalled lv n o → HandsAsCalled (env_of st) o [] ys → AnyTurn s lv st x.number n
any_plain {site = site} {ys = ys} s stands None is leaves hands = sticks_at s stands (λ f goals js ws k same. ap (λ o. calls s f goals js ws k site o [] ys) is)
any_plain {lv} {n = n} {l = l} {site = site} {r = r} {ys = ys} {x = x} {st = st} s stands (Some q) is leaves hands = by_number (nat_eq (length ys) (length q.1.head)) refl
  where
    by_number : (b : Bool) → nat_eq (length ys) (length q.1.head) ≡ b → AnyTurn s lv st x.number n
    by_number true fits =
        let out = hands (ap (λ m. nat_eq m (length q.1.head)) (zero-add (length ys)) ∙ fits) in
        any_called s site q [] ys out.0 stands (plain_call s st x n l site r ys q is fits) leaves out.1
    by_number false fits = sticks_at s stands (λ f goals js ws k same. ap (λ o. calls s f goals js ws k site o [] ys) is
        ∙ (ap (λ m. calls_if s f goals js ws k site q [] ys (nat_eq m (length q.1.head))) (zero-add (length ys)) ∙ ap (calls_if s f goals js ws k site q [] ys) fits))

any_applied : {lv : Leaves} {S : Store} {a : Address} {n l site fn : ℕ} {ys : List ℕ} {w : Way} {x : Act} {c : List Act} {cs : List Choice} {k : ℕ} {st : State} (s : Hlds) (m : ℕ) (held : Values)
    → Stands lv S (Runs (on a (numbered_goal n (At l (HoCallGoal site fn ys))) w) x c) cs k st → value_at (env_of st) fn ≡ Some (Closure m held) → (o : Option (ℕ × Procedure)) → nth_procedure s m ≡ o
    → LeavesAsCalled lv n o → HandsAsCalled (env_of st) o (listed_values held) ys → AnyTurn s lv st x.number n
any_applied {site = site} {fn = fn} {ys = ys} s m held stands has None is leaves hands =
    sticks_at s stands (λ f goals js ws k same. ap (λ e. applies s f goals js ws k site ys (value_at e fn)) same ∙ (ap (applies s f goals js ws k site ys) has ∙ ap (λ o. calls s f goals js ws k site o (listed_values held) ys) is))
any_applied {lv} {n = n} {l = l} {site = site} {fn = fn} {ys = ys} {x = x} {st = st} s m held stands has (Some q) is leaves hands = by_number (nat_eq (length (listed_values held) + length ys) (length q.1.head)) refl
  where
    by_number : (b : Bool) → nat_eq (length (listed_values held) + length ys) (length q.1.head) ≡ b → AnyTurn s lv st x.number n
    by_number true fits = let out = hands fits in any_called s site q (listed_values held) ys out.0 stands (closure_call s st x n l site fn ys m held q has is fits) leaves out.1
    by_number false fits =
        sticks_at s stands (λ f goals js ws k same. ap (λ e. applies s f goals js ws k site ys (value_at e fn)) same
        ∙ (ap (applies s f goals js ws k site ys) has ∙ (ap (λ o. calls s f goals js ws k site o (listed_values held) ys) is ∙ ap (calls_if s f goals js ws k site q (listed_values held) ys) fits)))

any_closure : {lv : Leaves} {S : Store} {a : Address} {n l site fn : ℕ} {ys : List ℕ} {w : Way} {x : Act} {c : List Act} {cs : List Choice} {k : ℕ} {st : State} (s : Hlds)
    → Stands lv S (Runs (on a (numbered_goal n (At l (HoCallGoal site fn ys))) w) x c) cs k st → (v : Option Value) → value_at (env_of st) fn ≡ v → LeavesAsApplied s lv n v → HandsAsApplied s (env_of st) v ys → AnyTurn s lv st x.number n
any_closure s stands (Some (Closure m held)) has leaves hands = any_applied s m held stands has (nth_procedure s m) refl leaves hands
any_closure {site = site} {fn = fn} {ys = ys} s stands None has leaves hands = sticks_at s stands (λ f goals js ws k same. ap (λ e. applies s f goals js ws k site ys (value_at e fn)) same ∙ ap (applies s f goals js ws k site ys) has)
any_closure {site = site} {fn = fn} {ys = ys} s stands (Some (Number m)) has leaves hands = sticks_at s stands (λ f goals js ws k same. ap (λ e. applies s f goals js ws k site ys (value_at e fn)) same ∙ ap (applies s f goals js ws k site ys) has)
any_closure {site = site} {fn = fn} {ys = ys} s stands (Some (Literal bytes)) has leaves hands = sticks_at s stands (λ f goals js ws k same. ap (λ e. applies s f goals js ws k site ys (value_at e fn)) same ∙ ap (applies s f goals js ws k site ys) has)
any_closure {site = site} {fn = fn} {ys = ys} s stands (Some (Built g parts)) has leaves hands = sticks_at s stands (λ f goals js ws k same. ap (λ e. applies s f goals js ws k site ys (value_at e fn)) same ∙ ap (applies s f goals js ws k site ys) has)

-- ---- any goal

any_goal : {lv : Leaves} {S : Store} {a : Address} {w : Way} {x : Act} {c : List Act} {cs : List Choice} {k : ℕ} {st : State} (s : Hlds) (n : ℕ) (g : HldsGoal)
    → Stands lv S (Runs (on a (numbered_goal n g) w) x c) cs k st → LeavesRight s lv n (env_of st) g → HandsRight s (env_of st) g → AnyTurn s lv st x.number n
any_goal {st = st} s n (At l (SimpleGoal g)) stands leaves hands = any_simple s stands leaves (run.simple s (env_of st) g) refl
any_goal s n (At l (CallGoal site r ys)) stands leaves hands = any_plain s stands (procedure_called s r) refl leaves hands
any_goal {st = st} s n (At l (HoCallGoal site fn ys)) stands leaves hands = any_closure s stands (value_at (env_of st) fn) refl leaves hands
any_goal s n (At l (ConjGoal ps)) stands leaves hands = turns _ _ _ _ _ _ (conjunction_goes s stands leaves)
any_goal s n (At l (DisjGoal ps)) stands leaves hands = any_disjunction s stands leaves.0 (switch_shape s ps) refl leaves.1
any_goal s n (At l (IfGoal c t e)) stands leaves hands = turns _ _ _ _ _ _ (if_goes s stands leaves.0 leaves.1)
any_goal s n (At l (NotGoal c)) stands leaves hands = turns _ _ _ _ _ _ (not_goes s stands leaves)
any_goal s n (At l (SomeGoal vs c)) stands leaves hands = turns _ _ _ _ _ _ (some_goes s stands leaves)

pub any_turn : {lv : Leaves} {S : Store} {a : Address} {p : Numbered} {w : Way} {x : Act} {c : List Act} {cs : List Choice} {k : ℕ} {st : State} (s : Hlds)
    → Stands lv S (Runs (on a p w) x c) cs k st → LeavesRight s lv p.number (env_of st) p.goal → HandsRight s (env_of st) p.goal → AnyTurn s lv st x.number p.number
any_turn {p = p} s stands leaves hands = any_goal s p.number p.goal stands leaves hands

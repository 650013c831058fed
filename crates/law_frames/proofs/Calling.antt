-- Turns of calls: the body of a procedure begins in a new frame.
use Rattle.std.proofs.Common.{◌≡◌, refl, ap, sym, ◌∙◌, subst, arith, ℕ, suc, ◌+◌, ◌<◌, Bool, true, false, nat_eq, List, [], ◌∷◌, length, Some, true≢false, inl, inr, zero-add}
use Rattle.md_hlds.specs.declared.types.Det.{Det}
use Rattle.md_hlds.specs.declared.types.Det.TheVariants.{Semidet, Multi, Nondet, Failure}
use Rattle.md_hlds.specs.declared.types.Det.TheVariants.{Det as One}
use Rattle.md_hlds.specs.declared.goal.PredName.{PredName}
use Rattle.md_hlds.specs.HldsGoal.{HldsGoal, At, CallGoal, HoCallGoal, Numbered, numbered_goal}
use Rattle.md_hlds.specs.Hlds.{Hlds, Procedure, procedure_called, nth_procedure}
use Rattle.md_hlds.specs.Value.{Value, Values, Closure, listed_values, Env, value_at}
use Rattle.md_hlds.specs.Trace.{Call, Frame, doing, body_frame, cut_off, call_weight, entered, pairs_of, without}
use Rattle.law_steps.specs.State.{Wait, Over, Returning, Goes, State, state}
use Rattle.law_steps.specs.Steps.{Turns, enters, calls_if, calls, applies, unfolds}
use Rattle.law_frames.specs.Ways.{Leaves, Address, Way, on, after, goals_of, cut_body, whole_body, IsAmong, Mentions}
use Rattle.law_frames.specs.Stores.{Act, Choice, Store, Perm, Below, IsStacked, top, Same, HandsOver, none_over, had, handed, AreOfGoal, Hands}
use Rattle.law_frames.specs.Standing.{fails_cut, fails_whole, Going, going, past_over, exited, yielded, Runs, Stands, runs}
use Rattle.law_frames.specs.Moves.{TurnsTo, env_of}
use Rattle.law_frames.specs.Leaving.{has_many}
use Rattle.law_frames.specs.Calls.{NewFrame, body_of, callee, IsCallOf, by_name, by_closure}
use Rattle.law_frames.proofs.Leave.{below_refl, kept_kept, top_above}
use Rattle.law_frames.proofs.FrameRule.{failing_kept, ending_kept, alike_refl}
use Rattle.law_frames.proofs.Ends.{placed_of, failing_of, ending_of}
use Rattle.law_frames.proofs.Turning.{turns_to}
use Rattle.law_frames.proofs.Entering.{entering, below_frame, entering_below, entering_alike, entering_free, new_frame_same, new_framed, new_frame_kept, new_height}

-- ---- what the exit will copy are variables of the call

pairs_second : (g : HldsGoal) (hs ys : List ℕ) → ((y : ℕ) → IsAmong y ys → Mentions g y) → AreOfGoal (pairs_of hs ys) g
pairs_second g [] ys mentions = tt
pairs_second g (h ∷ hs) [] mentions = tt
pairs_second g (h ∷ hs) (y ∷ ys) mentions = (mentions y (inl refl), pairs_second g hs ys (λ z among. mentions z (inr among)))

outs_of_goal : (g : HldsGoal) {e : Env} {ps outs : List (ℕ × ℕ)} → HandsOver e ps outs → AreOfGoal ps g → AreOfGoal outs g
outs_of_goal g none_over of_goal = tt
outs_of_goal g (had p ps outs v is more) of_goal = outs_of_goal g more of_goal.1
outs_of_goal g (handed p ps outs is none more) of_goal = (of_goal.0, outs_of_goal g more of_goal.1)

-- ---- the state after a call

-- a procedure that has one answer at most is cut
enters_cut : (det : Det) (f g : Frame) (js : List Frame) (ws : List Wait) (k : ℕ) → has_many det ≡ false → enters det f g js ws k ≡ state (Goes (cut_off f) []) (Returning k f.pairs g js ∷ ws) (suc k)
enters_cut One f g js ws k many = refl
enters_cut Semidet f g js ws k many = refl
enters_cut Multi f g js ws k many = absurd (true≢false many)
enters_cut Nondet f g js ws k many = absurd (true≢false many)
enters_cut Failure f g js ws k many = refl

enters_whole : (det : Det) (f g : Frame) (js : List Frame) (ws : List Wait) (k : ℕ) → has_many det ≡ true → enters det f g js ws k ≡ state (Goes f (g ∷ js)) (Over k ∷ ws) (suc k)
enters_whole One f g js ws k many = absurd (true≢false (sym many))
enters_whole Semidet f g js ws k many = absurd (true≢false (sym many))
enters_whole Multi f g js ws k many = refl
enters_whole Nondet f g js ws k many = refl
enters_whole Failure f g js ws k many = absurd (true≢false (sym many))

-- ---- the new activation runs

-- the caller waits, in the new store
waiting : {lv : Leaves} {S T : Store} {W : Perm} {a : Address} {p : Numbered} {w : Way} {x : Act} {c : List Act} {cs : List Choice} {f : Frame} {js : List Frame} {ws : List Wait}
    → Going lv S W (on a p w) (on a p w) x c cs f js ws → lv p.number ≡ false → Same W S T → Going lv T W (on a p w) w x c cs (doing f (goals_of w)) js ws
waiting {W = W} {a = a} (going placed fails ends') none same =
    going (record {
      way = placed.way.2;
      meets = placed.way.0 ∙ ap (after a) none;
      is = placed.is;
      goals = refl;
      kept = kept_kept W (λ k. refl) same placed.kept;
      stacked = placed.stacked;
      free = placed.free;
    }) (failing_kept fails W below_refl same) (ending_kept ends' W below_refl alike_refl same)

-- a body that is cut
cut_goes : {lv : Leaves} {S T : Store} {W : Perm} {a : Address} {p : Numbered} {w : Way} {x : Act} {c : List Act} {cs : List Choice} {f : Frame} {js : List Frame} {ws : List Wait} (s : Hlds) (k : ℕ) (q : ℕ × Procedure) (vs : List Value) (ys : List ℕ) (outs : List (ℕ × ℕ))
    → Going lv S W (on a p w) (on a p w) x c cs f js ws → lv p.number ≡ false → HandsOver f.env (pairs_of (without vs q.1.head) ys) outs → ((y : ℕ) → IsAmong y ys → Mentions p.goal y)
    → NewFrame S T (top x cs) (callee (top x cs) k x q vs ys outs a p w) (entered q.1 vs ys f.env) (length cs)
    → (v : Way) → v ≡ cut_body lv (body_of s q)
    → Going lv T (entering (top x cs) (entered q.1 vs ys f.env) (lv (body_of s q).number) W) v v (callee (top x cs) k x q vs ys outs a p w) (x ∷ c) cs
    (cut_off (body_frame s k (entered q.1 vs ys f.env) q (pairs_of (without vs q.1.head) ys))) [] (Returning k (pairs_of (without vs q.1.head) ys) (doing f (goals_of w)) js ∷ ws)
cut_goes {lv} {S} {T} {W} {a} {p} {w} {x} {c} {cs} {f} {js} {ws} s k q vs ys outs goes none hands mentions new v is =
    let i : ℕ = top x cs in
    let e : Env = entered q.1 vs ys f.env in
    let pairs : List (ℕ × ℕ) = pairs_of (without vs q.1.head) ys in
    let l : Bool = lv (body_of s q).number in
    let U : Perm = entering i e l W in
    let z : Act = callee i k x q vs ys outs a p w in
    let placed = placed_of goes in
    let same : Same W S T = new_frame_same W placed.free new in
    let below : Below U W = entering_below i e l W placed.free in
    let stacked : IsStacked z (x ∷ c) = (refl, top_above x cs, placed.stacked) in
    let hands_all : Hands z f.env = record { over = hands; of_goal = outs_of_goal p.goal hands (pairs_second p.goal (without vs q.1.head) ys mentions) } in
    subst (λ (v : Way). Going lv T U v v z (x ∷ c) cs (cut_off (body_frame s k e q pairs)) [] (Returning k pairs (doing f (goals_of w)) js ∷ ws)) (sym is)
    (going (record {
      way = (refl, (λ leaves. leaves), tt);
      meets = refl;
      is = refl;
      goals = refl;
      kept = new_frame_kept l W (cut_body lv (body_of s q)) (omega arith, tt) new;
      stacked = stacked;
      free = entering_free i e l W (top z cs) (top_above z cs);
    }) (fails_cut (new_framed l W new) stacked below (failing_kept (failing_of goes) W below_refl same))
    (exited (new_framed l W new) stacked below (new_height l W new) hands_all (waiting goes none same)))

-- a body with all its answers
whole_goes : {lv : Leaves} {S T : Store} {W : Perm} {a : Address} {p : Numbered} {w : Way} {x : Act} {c : List Act} {cs : List Choice} {f : Frame} {js : List Frame} {ws : List Wait} (s : Hlds) (k : ℕ) (q : ℕ × Procedure) (vs : List Value) (ys : List ℕ) (outs : List (ℕ × ℕ)) (h : ℕ)
    → Going lv S W (on a p w) (on a p w) x c cs f js ws → lv p.number ≡ true → HandsOver f.env (pairs_of (without vs q.1.head) ys) outs → ((y : ℕ) → IsAmong y ys → Mentions p.goal y)
    → NewFrame S T (top x cs) (callee (top x cs) k x q vs ys outs a p w) (entered q.1 vs ys f.env) h
    → (v : Way) → v ≡ whole_body lv (body_of s q)
    → Going lv T (entering (top x cs) (entered q.1 vs ys f.env) false W) v v (callee (top x cs) k x q vs ys outs a p w) (x ∷ c) cs
    (body_frame s k (entered q.1 vs ys f.env) q (pairs_of (without vs q.1.head) ys)) (doing f (goals_of w) ∷ js) (Over k ∷ ws)
whole_goes {lv} {S} {T} {W} {a} {p} {w} {x} {c} {cs} {f} {js} {ws} s k q vs ys outs h goes leaves hands mentions new v is =
    let i : ℕ = top x cs in
    let e : Env = entered q.1 vs ys f.env in
    let pairs : List (ℕ × ℕ) = pairs_of (without vs q.1.head) ys in
    let U : Perm = entering i e false W in
    let z : Act = callee i k x q vs ys outs a p w in
    let placed = placed_of goes in
    let same : Same W S T = new_frame_same W placed.free new in
    let below : Below U W = entering_below i e false W placed.free in
    let above : x.index < i = top_above x cs in
    let stacked : IsStacked z (x ∷ c) = (refl, above, placed.stacked) in
    let hands_all : Hands z f.env = record { over = hands; of_goal = outs_of_goal p.goal hands (pairs_second p.goal (without vs q.1.head) ys mentions) } in
    subst (λ (v : Way). Going lv T U v v z (x ∷ c) cs (body_frame s k e q pairs) (doing f (goals_of w) ∷ js) (Over k ∷ ws)) (sym is)
    (going (record {
      way = (refl, (λ some. refl), tt);
      meets = refl;
      is = refl;
      goals = refl;
      kept = new_frame_kept false W (whole_body lv (body_of s q)) (omega arith, tt) new;
      stacked = stacked;
      free = entering_free i e false W (top z cs) (top_above z cs);
    }) (fails_whole (new_framed false W new) stacked below (failing_kept (failing_of goes) W below_refl same))
    (past_over (yielded (new_framed false W new) stacked (placed.way.0 ∙ ap (after a) leaves) (placed.way.1 leaves) placed.way.2 placed.is refl hands_all
    (kept_kept U (λ k. below_frame i e false W x.index k above) same placed.kept)
    (ending_kept (ending_of goes) U below (entering_alike x.index i e false W (omega (arith, above))) same))))

-- ---- the turn

-- what is common to both kinds of calls: the goal p calls q with these captured values and these variables
pub record CallsOf (s : Hlds) (st : State) (x : Act) (p : Numbered) (site : ℕ) (q : ℕ × Procedure) (vs : List Value) (ys : List ℕ) : Type 0 where
  pub unfolds_so : (f : Frame) (goals : List Numbered) (js : List Frame) (ws : List Wait) (k : ℕ) → f.env ≡ env_of st
      → unfolds s f p.number goals js ws k p.goal ≡ calls_if s f goals js ws k site q vs ys (nat_eq (length vs + length ys) (length q.1.head))
  pub fits : nat_eq (length vs + length ys) (length q.1.head) ≡ true
  pub mentions : (y : ℕ) → IsAmong y ys → Mentions p.goal y

pub cut_called : {lv : Leaves} {S T : Store} {a : Address} {p : Numbered} {w : Way} {x : Act} {c : List Act} {cs : List Choice} {k : ℕ} {st : State} (s : Hlds) (site : ℕ) (q : ℕ × Procedure) (vs : List Value) (ys : List ℕ) (outs : List (ℕ × ℕ))
    → Stands lv S (Runs (on a p w) x c) cs k st → CallsOf s st x p site q vs ys → has_many q.1.det ≡ false → lv p.number ≡ has_many q.1.det → HandsOver (env_of st) (pairs_of (without vs q.1.head) ys) outs
    → NewFrame S T (top x cs) (callee (top x cs) k x q vs ys outs a p w) (entered q.1 vs ys (env_of st)) (length cs)
    → TurnsTo s lv st x.number p.number (call_weight q.1) (Call k (Some x.number) (Some site) q.0 ∷ []) T (Runs (cut_body lv (body_of s q)) (callee (top x cs) k x q vs ys outs a p w) (x ∷ c)) cs (suc k)
cut_called {p = p} {w = w} {x = x} s site q vs ys outs (runs {f = f} {js = js} {ws = ws} k goes) call many leaves hands new =
    let pairs : List (ℕ × ℕ) = pairs_of (without vs q.1.head) ys in
    let body : Frame = body_frame s k (entered q.1 vs ys f.env) q pairs in
    turns_to s x p (goals_of w) f js ws k (placed_of goes).is (placed_of goes).goals
    (call.unfolds_so f (goals_of w) js ws k refl
    ∙ (ap (calls_if s f (goals_of w) js ws k site q vs ys) call.fits
    ∙ (ap (λ n. Turns (call_weight q.1) (Call k (Some n) (Some site) q.0 ∷ []) (enters q.1.det body (doing f (goals_of w)) js ws k)) (placed_of goes).is
    ∙ ap (λ st. Turns (call_weight q.1) (Call k (Some x.number) (Some site) q.0 ∷ []) st) (enters_cut q.1.det body (doing f (goals_of w)) js ws k many))))
    (runs (suc k) (cut_goes s k q vs ys outs goes (leaves ∙ many) hands call.mentions new _ refl))

pub whole_called : {lv : Leaves} {S T : Store} {a : Address} {p : Numbered} {w : Way} {x : Act} {c : List Act} {cs : List Choice} {k : ℕ} {st : State} (s : Hlds) (site : ℕ) (q : ℕ × Procedure) (vs : List Value) (ys : List ℕ) (outs : List (ℕ × ℕ)) (h : ℕ)
    → Stands lv S (Runs (on a p w) x c) cs k st → CallsOf s st x p site q vs ys → has_many q.1.det ≡ true → lv p.number ≡ has_many q.1.det → HandsOver (env_of st) (pairs_of (without vs q.1.head) ys) outs
    → NewFrame S T (top x cs) (callee (top x cs) k x q vs ys outs a p w) (entered q.1 vs ys (env_of st)) h
    → TurnsTo s lv st x.number p.number (call_weight q.1) (Call k (Some x.number) (Some site) q.0 ∷ []) T (Runs (whole_body lv (body_of s q)) (callee (top x cs) k x q vs ys outs a p w) (x ∷ c)) cs (suc k)
whole_called {p = p} {w = w} {x = x} s site q vs ys outs h (runs {f = f} {js = js} {ws = ws} k goes) call many leaves hands new =
    let pairs : List (ℕ × ℕ) = pairs_of (without vs q.1.head) ys in
    let body : Frame = body_frame s k (entered q.1 vs ys f.env) q pairs in
    turns_to s x p (goals_of w) f js ws k (placed_of goes).is (placed_of goes).goals
    (call.unfolds_so f (goals_of w) js ws k refl
    ∙ (ap (calls_if s f (goals_of w) js ws k site q vs ys) call.fits
    ∙ (ap (λ n. Turns (call_weight q.1) (Call k (Some n) (Some site) q.0 ∷ []) (enters q.1.det body (doing f (goals_of w)) js ws k)) (placed_of goes).is
    ∙ ap (λ st. Turns (call_weight q.1) (Call k (Some x.number) (Some site) q.0 ∷ []) st) (enters_whole q.1.det body (doing f (goals_of w)) js ws k many))))
    (runs (suc k) (whole_goes s k q vs ys outs h goes (leaves ∙ many) hands call.mentions new _ refl))

-- ---- a call of a predicate, and one by a closure

pub plain_call : (s : Hlds) (st : State) (x : Act) (n l site : ℕ) (r : PredName) (ys : List ℕ) (q : ℕ × Procedure) → procedure_called s r ≡ Some q → nat_eq (length ys) (length q.1.head) ≡ true
    → CallsOf s st x (numbered_goal n (At l (CallGoal site r ys))) site q [] ys
plain_call s st x n l site r ys q is fits = record {
  unfolds_so = λ f goals js ws k same. ap (λ o. calls s f goals js ws k site o [] ys) is;
  fits = ap (λ m. nat_eq m (length q.1.head)) (zero-add (length ys)) ∙ fits;
  mentions = λ y among. among;
}

pub closure_call : (s : Hlds) (st : State) (x : Act) (n l site fn : ℕ) (ys : List ℕ) (m : ℕ) (held : Values) (q : ℕ × Procedure) → value_at (env_of st) fn ≡ Some (Closure m held) → nth_procedure s m ≡ Some q
    → nat_eq (length (listed_values held) + length ys) (length q.1.head) ≡ true
    → CallsOf s st x (numbered_goal n (At l (HoCallGoal site fn ys))) site q (listed_values held) ys
closure_call s st x n l site fn ys m held q has is fits = record {
  unfolds_so = λ f goals js ws k same. ap (λ e. applies s f goals js ws k site ys (value_at e fn)) same
      ∙ (ap (applies s f goals js ws k site ys) has ∙ ap (λ o. calls s f goals js ws k site o (listed_values held) ys) is);
  fits = fits;
  mentions = λ y among. inr among;
}

calls_at : (s : Hlds) (st : State) (x : Act) (n : ℕ) (g : HldsGoal) (site : ℕ) (q : ℕ × Procedure) (vs : List Value) (ys : List ℕ) → IsCallOf s (env_of st) g site q vs ys → nat_eq (length vs + length ys) (length q.1.head) ≡ true
    → CallsOf s st x (numbered_goal n g) site q vs ys
calls_at s st x n g site q vs ys (by_name l _ r _ _ is) fits = plain_call s st x n l site r ys q is (sym (ap (λ m. nat_eq m (length q.1.head)) (zero-add (length ys))) ∙ fits)
calls_at s st x n g site q vs ys (by_closure l _ f _ m held _ has is) fits = closure_call s st x n l site f ys m held q has is fits

pub calls_of : (s : Hlds) (st : State) (x : Act) (p : Numbered) (site : ℕ) (q : ℕ × Procedure) (vs : List Value) (ys : List ℕ) → IsCallOf s (env_of st) p.goal site q vs ys → nat_eq (length vs + length ys) (length q.1.head) ≡ true
    → CallsOf s st x p site q vs ys
calls_of s st x p site q vs ys call fits = calls_at s st x p.number p.goal site q vs ys call fits

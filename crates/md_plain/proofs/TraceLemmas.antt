-- The equations of a trace, as they are told.
use Rattle.std.proofs.Common.{◌≡◌, refl, ap, ◌∙◌, sym, ℕ, zero, suc, ◌+◌, Bool, true, false, List, [], ◌∷◌, ◌++◌, length, Option, Some, None, nat_eq}
use Rattle.md_hlds.specs.declared.types.Det.TheVariants.{Multi, Semidet}
use Rattle.md_hlds.specs.HldsGoal.{HldsGoal, At, GoalExpr, IfGoal, NotGoal, SomeGoal, ConjGoal, DisjGoal, HldsGoals, goal_size, Numbered, numbered_goal, numbered_from}
use Rattle.md_hlds.specs.Hlds.{Hlds, Procedure}
use Rattle.md_hlds.specs.Value.{Value, Env, value_at}
use Rattle.md_hlds.specs.Simple.{Go, No, Stop}
use Rattle.md_hlds.specs.Simple.{Throws as Raised}
use Rattle.md_hlds.specs.Switch.{Key, switch_shape, arm_for}
use Rattle.md_hlds.specs.Trace.{Turn, Call, Exit, Redo, Fail, Excp, Throw, Stuck, Deep, Items, Frame, joined, first, excps, doing, knowing, alone, cut_off, allocated, written, arms, one_arm, switched, disjunction, back, body_frame, run_body, call_weight, entered, pairs_of, without, call_if, invoked, unfold_goal, returns, trace}
use Rattle.std.proofs.Common.{arith}
use Rattle.std.proofs.lemmas.Option.{same_Some}
use Rattle.md_plain.specs.Calls.{Meant}
use Rattle.md_plain.specs.Keys.{one_or_none, chosen_by, chosen}
use Rattle.md_plain.specs.Told.{Run, End, Answered, Missed, Thrown, Over, Told, ended, put, called, turn, allocating, writing, leaves, tells, follows, goes_on, then_misses, Job, in_job, innermost, Place, front_of, front, deeper, traces, unfolds, tries, asks, simply_goes, invokes, with_body}
use Rattle.md_plain.proofs.ToldLemmas.{allowed, tells_first, tells_joined}

-- what follows each end
pub answered : (found : Env → ℕ → Items) (missed : ℕ → Items) (thrown : Items) (t : Told) (e : Env) → t.end ≡ Answered e → tells (found e t.run.next) t.run ≡ goes_on found missed thrown t
answered found missed thrown t e is = ap (follows found missed thrown t.run) (sym is)

pub missing : (found : Env → ℕ → Items) (missed : ℕ → Items) (thrown : Items) (t : Told) → t.end ≡ Missed → tells (missed t.run.next) t.run ≡ goes_on found missed thrown t
missing found missed thrown t is = ap (follows found missed thrown t.run) (sym is)

pub threw : (found : Env → ℕ → Items) (missed : ℕ → Items) (thrown : Items) (t : Told) → t.end ≡ Thrown → leaves thrown t.run ≡ goes_on found missed thrown t
threw found missed thrown t is = ap (follows found missed thrown t.run) (sym is)

pub over : (found : Env → ℕ → Items) (missed : ℕ → Items) (thrown : Items) (t : Told) → t.end ≡ Over → t ≡ goes_on found missed thrown t
over found missed thrown t is = ap (λ e. ended t.run e) is ∙ ap (follows found missed thrown t.run) (sym is)

-- where the first of two traces doesn't miss, the other isn't told
hits_by : (rest : ℕ → Items) (r : Run) (e : End) → (e ≡ Missed → ⊥) → ended r e ≡ then_misses rest (ended r e)
hits_by rest r (Answered e) hit = refl
hits_by rest r Missed hit = absurd (hit refl)
hits_by rest r Thrown hit = refl
hits_by rest r Over hit = refl

pub hits : (rest : ℕ → Items) (t : Told) → (t.end ≡ Missed → ⊥) → t ≡ then_misses rest t
hits rest t hit = hits_by rest t.run t.end hit

misses_by : (r : Run) (e : End) → then_misses (λ n. []) (ended r e) ≡ ended r e
misses_by r (Answered e) = refl
misses_by r Missed = refl
misses_by r Thrown = refl
misses_by r Over = refl

-- ---- a frame

abbrev Next : Type 0
Next = Frame → Numbered → List Numbered → List Frame → ℕ → Items

abbrev next_at : Hlds → ℕ → Next
next_at s zero = λ f g goals js k. Deep ∷ []
next_at s (suc m) = λ f g goals js k. unfold_goal s (λ f js k. trace s m f js k) f g.number goals js k g.goal

trace_returns : (s : Hlds) (n : ℕ) (f : Frame) (js : List Frame) (k : ℕ) → trace s n f js k ≡ returns (next_at s n) js f f.goals k
trace_returns s zero f js k = refl
trace_returns s (suc n) f js k = refl

abbrev unfolds_goal : Hlds → ℕ → Run → Place × HldsGoal → Told
unfolds_goal s m r p = tells (unfold_goal s (deeper s m) p.0.frame p.0.number p.0.goals p.0.callers r.next p.1) r

unfolds_by : (s : Hlds) (m : ℕ) (f : Frame) (js : List Frame) (gs : List Numbered) (p : Place) (l : ℕ) (t : GoalExpr) (r : Run) → f.goals ≡ gs
    → Some (p, At l t) ≡ front_of f js gs → unfolds s m p t r ≡ traces s (suc m) (in_job f js) r
unfolds_by s m f js [] p l t r is at = absurd (grind (arith, at))
unfolds_by s m f js (g ∷ gs) p l t r is at =
    ap (unfolds_goal s m r) (same_Some (p, At l t) (record { frame = f; number = g.number; goals = gs; callers = js }, g.goal) at)
    ∙ ap (λ ps. tells (returns (next_at s (suc m)) js f ps r.next) r) (sym is)

pub unfolds_at : (s : Hlds) (n m : ℕ) (j : Job) (p : Place) (l : ℕ) (t : GoalExpr) (r : Run) → n ≡ suc m → Some (p, At l t) ≡ front j → unfolds s m p t r ≡ traces s n j r
unfolds_at s n m j p l t r depth at = unfolds_by s m j.frame j.callers j.frame.goals p l t r refl at ∙ ap (λ i. traces s i j r) (sym depth)

no_goals : (f : Frame) (js : List Frame) (gs : List Numbered) → None ≡ front_of f js gs → gs ≡ []
no_goals f js [] at = refl
no_goals f js (g ∷ gs) at = absurd (grind (arith, at))

deep_by : (s : Hlds) (f : Frame) (js : List Frame) (gs : List Numbered) (p : Place × HldsGoal) (r : Run) → f.goals ≡ gs → Some p ≡ front_of f js gs → ended (put r Deep) Over ≡ traces s 0 (in_job f js) r
deep_by s f js [] p r is at = absurd (grind (arith, at))
deep_by s f js (g ∷ gs) p r is at = ap (λ ps. tells (returns (next_at s 0) js f ps r.next) r) (sym is)

pub too_deep : (s : Hlds) (n : ℕ) (j : Job) (p : Place × HldsGoal) (r : Run) → n ≡ 0 → Some p ≡ front j → ended (put r Deep) Over ≡ traces s n j r
too_deep s n j p r depth at = deep_by s j.frame j.callers j.frame.goals p r refl at ∙ ap (λ i. traces s i j r) (sym depth)

pub answers_at : (s : Hlds) (n : ℕ) (f : Frame) (r : Run) → f.goals ≡ [] → ended r (Answered f.env) ≡ traces s n (in_job f []) r
answers_at s n f r is = ap (λ ps. tells (returns (next_at s n) [] f ps r.next) r) (sym is) ∙ ap (λ xs. tells xs r) (sym (trace_returns s n f [] r.next))

pub exits_at : (s : Hlds) (n : ℕ) (f c : Frame) (js : List Frame) (r : Run) → f.goals ≡ []
    → then_misses (λ i. Redo f.act ∷ []) (traces s n (in_job (knowing c (back f.pairs f.env c.env) c.goals) js) (put r (Exit f.act))) ≡ traces s n (in_job f (c ∷ js)) r
exits_at s n f c js r is =
    let g : Frame = knowing c (back f.pairs f.env c.env) c.goals in
    let rest : ℕ → Items = λ i. Redo f.act ∷ [] in
    sym (tells_joined (trace s n g js r.next) (put r (Exit f.act)) rest)
    ∙ (ap (λ xs. tells (joined xs r.next rest) (put r (Exit f.act))) (trace_returns s n g js r.next)
    ∙ (ap (λ ps. tells (returns (next_at s n) (c ∷ js) f ps r.next) r) (sym is)
    ∙ ap (λ xs. tells xs r) (sym (trace_returns s n f (c ∷ js) r.next))))

no_callers : (js : List Frame) → None ≡ innermost js → js ≡ []
no_callers [] at = refl
no_callers (c ∷ js) at = absurd (grind (arith, at))

pub answers_alone : (s : Hlds) (n : ℕ) (j : Job) (r : Run) → None ≡ front j → None ≡ innermost j.callers → ended r (Answered j.frame.env) ≡ traces s n j r
answers_alone s n j r at none =
    answers_at s n j.frame r (no_goals j.frame j.callers j.frame.goals at) ∙ ap (λ js. traces s n (in_job j.frame js) r) (sym (no_callers j.callers none))

pub is_innermost : (js : List Frame) (c : Job) → Some c ≡ innermost js → (c.frame ∷ c.callers) ≡ js
is_innermost [] c at = absurd (grind (arith, at))
is_innermost (f ∷ js) c at = ap (λ (i : Job). i.frame ∷ i.callers) (same_Some c (in_job f js) at)

pub exits_to : (s : Hlds) (n : ℕ) (j c i : Job) (r x : Run) (u : Told) → None ≡ front j → Some c ≡ innermost j.callers
    → x ≡ put r (Exit j.frame.act) → i ≡ in_job (knowing c.frame (back j.frame.pairs j.frame.env c.frame.env) c.frame.goals) c.callers → u ≡ traces s n i x
    → then_misses (λ k. Redo j.frame.act ∷ []) u ≡ traces s n j r
exits_to s n j c i r x u at inner exited resumed told =
    ap (then_misses (λ k. Redo j.frame.act ∷ [])) (told ∙ (ap (λ y. traces s n i y) exited ∙ ap (λ h. traces s n h (put r (Exit j.frame.act))) resumed))
    ∙ (exits_at s n j.frame c.frame c.callers r (no_goals j.frame j.callers j.frame.goals at)
    ∙ ap (λ js. traces s n (in_job j.frame js) r) (is_innermost j.callers c inner))

-- ---- goals

told_made : (a w : ℕ) (out : Option (List ℕ)) (xs : ℕ → Items) (t : Run)
    → tells (xs (writing (allocating t a w) out).next) (writing (allocating t a w) out) ≡ tells (allocated a w ++ (written out ++ xs t.next)) t
told_made a zero None xs t = refl
told_made a zero (Some bytes) xs t = refl
told_made a (suc w) None xs t = refl
told_made a (suc w) (Some bytes) xs t = refl

pub goes_at : (s : Hlds) (m : ℕ) (p : Place) (r t : Run) (e : Env) (extra words : ℕ) (out : Option (List ℕ)) → Some t ≡ turn r p.frame.act (Some p.number) (suc extra)
    → traces s m (in_job (knowing p.frame e p.goals) p.callers) (writing (allocating t p.frame.act words) out) ≡ simply_goes s m p (Go e extra words out) r
goes_at s m p r t e extra words out is =
    told_made p.frame.act words out (λ k. trace s m (knowing p.frame e p.goals) p.callers k) t
    ∙ allowed (λ k. allocated p.frame.act words ++ (written out ++ trace s m (knowing p.frame e p.goals) p.callers k)) r t p.frame.act (Some p.number) (suc extra) is

pub fails_at : (s : Hlds) (m : ℕ) (p : Place) (r t : Run) (extra : ℕ) → Some t ≡ turn r p.frame.act (Some p.number) (suc extra) → ended t Missed ≡ simply_goes s m p (No extra) r
fails_at s m p r t extra is = allowed (λ k. []) r t p.frame.act (Some p.number) (suc extra) is

pub throws_at : (s : Hlds) (m : ℕ) (p : Place) (r t : Run) (bytes : List ℕ) → Some t ≡ turn r p.frame.act (Some p.number) 1
    → leaves (excps p.callers) (put (put t (Throw bytes)) (Excp p.frame.act)) ≡ simply_goes s m p (Raised bytes) r
throws_at s m p r t bytes is = allowed (λ k. Throw bytes ∷ excps (p.frame ∷ p.callers)) r t p.frame.act (Some p.number) 1 is

pub sticks_at : (s : Hlds) (m : ℕ) (p : Place) (r t : Run) → Some t ≡ turn r p.frame.act (Some p.number) 1 → ended (put t Stuck) Over ≡ simply_goes s m p Stop r
sticks_at s m p r t is = allowed (λ k. Stuck ∷ []) r t p.frame.act (Some p.number) 1 is

pub conj_at : (s : Hlds) (m : ℕ) (p : Place) (ps : HldsGoals) (gs : List Numbered) (r t : Run) → gs ≡ numbered_from (suc p.number) ps ++ p.goals
    → Some t ≡ turn r p.frame.act (Some p.number) 1 → traces s m (in_job (doing p.frame gs) p.callers) t ≡ unfolds s m p (ConjGoal ps) r
conj_at s m p ps gs r t is made =
    ap (λ hs. traces s m (in_job (doing p.frame hs) p.callers) t) is
    ∙ allowed (λ k. trace s m (doing p.frame (numbered_from (suc p.number) ps ++ p.goals)) p.callers k) r t p.frame.act (Some p.number) 1 made

pub asks_at : (s : Hlds) (m : ℕ) (p : Place) (c : HldsGoal) (r t : Run) → Some t ≡ turn r p.frame.act (Some p.number) 1
    → traces s m (in_job (alone p.frame (numbered_goal (suc p.number) c)) []) t ≡ asks s m p c r
asks_at s m p c r t made = allowed (λ k. trace s m (alone p.frame (numbered_goal (suc p.number) c)) [] k) r t p.frame.act (Some p.number) 1 made

-- the arms of a disjunction
pub tries_more : (s : Hlds) (m : ℕ) (p : Place) (q : Numbered) (qs : List Numbered) (r : Run)
    → tries s m p (q ∷ qs) r ≡ then_misses (λ n. arms (deeper s m) p.frame p.goals p.callers n qs) (traces s m (in_job (doing p.frame (q ∷ p.goals)) p.callers) r)
tries_more s m p q qs r = tells_joined (trace s m (doing p.frame (q ∷ p.goals)) p.callers r.next) r (λ n. arms (deeper s m) p.frame p.goals p.callers n qs)

one_tried : (s : Hlds) (m : ℕ) (p : Place) (o : Option Numbered) (t : Run) → tries s m p (one_or_none o) t ≡ tells (one_arm (deeper s m) p.frame p.goals p.callers t.next o) t
one_tried s m p None t = refl
one_tried s m p (Some q) t =
    let u : Told = traces s m (in_job (doing p.frame (q ∷ p.goals)) p.callers) t in
    tries_more s m p q [] t ∙ misses_by u.run u.end

tried_by : (s : Hlds) (m : ℕ) (p : Place) (ps : List Numbered) (keys : List Key) (v : Option Value) (t : Run)
    → tries s m p (chosen_by ps keys v) t ≡ tells (switched (deeper s m) p.frame p.goals p.callers t.next ps keys v) t
tried_by s m p ps keys None t = refl
tried_by s m p ps keys (Some v) t = one_tried s m p (arm_for v keys ps) t

tried : (s : Hlds) (m : ℕ) (p : Place) (ps : List Numbered) (shape : Option (ℕ × List Key)) (t : Run)
    → tries s m p (chosen p.frame.env ps shape) t ≡ tells (disjunction (deeper s m) p.frame p.goals p.callers t.next ps shape) t
tried s m p ps None t = refl
tried s m p ps (Some shape) t = tried_by s m p ps shape.1 (value_at p.frame.env shape.0) t

pub disj_at : (s : Hlds) (m : ℕ) (p : Place) (ps : HldsGoals) (gs : List Numbered) (r t : Run) → gs ≡ chosen p.frame.env (numbered_from (suc p.number) ps) (switch_shape s ps)
    → Some t ≡ turn r p.frame.act (Some p.number) 1 → tries s m p gs t ≡ unfolds s m p (DisjGoal ps) r
disj_at s m p ps gs r t is made =
    ap (λ hs. tries s m p hs t) is
    ∙ (tried s m p (numbered_from (suc p.number) ps) (switch_shape s ps) t
    ∙ allowed (λ k. disjunction (deeper s m) p.frame p.goals p.callers k (numbered_from (suc p.number) ps) (switch_shape s ps)) r t p.frame.act (Some p.number) 1 made)

-- what follows a goal that is asked
abbrev pub if_found : Hlds → ℕ → Place → HldsGoal → HldsGoal → Env → ℕ → Items
if_found s m p c t e k = trace s m (knowing p.frame e (numbered_goal (suc p.number + goal_size c) t ∷ p.goals)) p.callers k

abbrev pub if_missed : Hlds → ℕ → Place → HldsGoal → HldsGoal → HldsGoal → ℕ → Items
if_missed s m p c t el k = trace s m (doing p.frame (numbered_goal (suc p.number + goal_size c + goal_size t) el ∷ p.goals)) p.callers k

abbrev pub on : Hlds → ℕ → Place → ℕ → Items
on s m p k = trace s m (doing p.frame p.goals) p.callers k

pub if_at : (s : Hlds) (m : ℕ) (p : Place) (c t el : HldsGoal) (r : Run) (u : Told) → u ≡ asks s m p c r
    → goes_on (if_found s m p c t) (if_missed s m p c t el) (excps p.callers) u ≡ unfolds s m p (IfGoal c t el) r
if_at s m p c t el r u is =
    ap (goes_on (if_found s m p c t) (if_missed s m p c t el) (excps p.callers)) is
    ∙ sym (tells_first (Turn p.frame.act (Some p.number) 1 ∷ trace s m (alone p.frame (numbered_goal (suc p.number) c)) [] r.next) r (if_found s m p c t) (if_missed s m p c t el) (excps p.callers))

pub not_at : (s : Hlds) (m : ℕ) (p : Place) (c : HldsGoal) (r : Run) (u : Told) → u ≡ asks s m p c r
    → goes_on (λ e k. []) (on s m p) (excps p.callers) u ≡ unfolds s m p (NotGoal c) r
not_at s m p c r u is =
    ap (goes_on (λ e k. []) (on s m p) (excps p.callers)) is
    ∙ sym (tells_first (Turn p.frame.act (Some p.number) 1 ∷ trace s m (alone p.frame (numbered_goal (suc p.number) c)) [] r.next) r (λ e k. []) (on s m p) (excps p.callers))

pub some_at : (s : Hlds) (m : ℕ) (p : Place) (vs : List ℕ) (c : HldsGoal) (r : Run) (u : Told) → u ≡ asks s m p c r
    → goes_on (λ e k. on s m p k) (λ k. []) (excps p.callers) u ≡ unfolds s m p (SomeGoal vs c) r
some_at s m p vs c r u is =
    ap (goes_on (λ e k. on s m p k) (λ k. []) (excps p.callers)) is
    ∙ sym (tells_first (Turn p.frame.act (Some p.number) 1 ∷ trace s m (alone p.frame (numbered_goal (suc p.number) c)) [] r.next) r (λ e k. on s m p k) (λ k. []) (excps p.callers))

-- ---- calls

pub no_procedure : (s : Hlds) (m : ℕ) (p : Place) (c : Meant) (r : Run) → c.procedure ≡ None → simply_goes s m p Stop r ≡ invokes s m p c r
no_procedure s m p c r is = ap (λ q. tells (invoked s (deeper s m) p.frame p.number p.goals p.callers r.next c.site q c.held c.arguments) r) (sym is)

abbrev calls_if : Hlds → ℕ → Place → Meant → Run → ℕ × Procedure → Bool → Told
calls_if s m p c r q fits = tells (call_if s (deeper s m) p.frame p.number p.goals p.callers r.next c.site q c.held c.arguments fits) r

invokes_as : (s : Hlds) (m : ℕ) (p : Place) (c : Meant) (r : Run) (q : ℕ × Procedure) (fits : Bool) → c.procedure ≡ Some q → fits ≡ nat_eq (length c.held + length c.arguments) (length q.1.head)
    → calls_if s m p c r q fits ≡ invokes s m p c r
invokes_as s m p c r q fits is fit =
    ap (calls_if s m p c r q) fit ∙ ap (λ o. tells (invoked s (deeper s m) p.frame p.number p.goals p.callers r.next c.site o c.held c.arguments) r) (sym is)

pub wrong_number : (s : Hlds) (m : ℕ) (p : Place) (c : Meant) (r : Run) (q : ℕ × Procedure) → c.procedure ≡ Some q → false ≡ nat_eq (length c.held + length c.arguments) (length q.1.head)
    → simply_goes s m p Stop r ≡ invokes s m p c r
wrong_number s m p c r q is fit = invokes_as s m p c r q false is fit

abbrev pub callee : Hlds → Place → Meant → ℕ → ℕ × Procedure → Frame
callee s p c k q = body_frame s k (entered q.1 c.held c.arguments p.frame.env) q (pairs_of (without c.held q.1.head) c.arguments)

pub calls_at : (s : Hlds) (m : ℕ) (p : Place) (c : Meant) (r t : Run) (q : ℕ × Procedure) → c.procedure ≡ Some q → true ≡ nat_eq (length c.held + length c.arguments) (length q.1.head)
    → Some t ≡ turn r p.frame.act (Some p.number) (call_weight q.1)
    → with_body s m q.1.det (callee s p c t.next q) (in_job (doing p.frame p.goals) p.callers) (called t t.next (Some p.frame.act) (Some c.site) q.0) ≡ invokes s m p c r
calls_at s m p c r t q is fit made =
    allowed (λ k. Call k (Some p.frame.act) (Some c.site) q.0 ∷ run_body (deeper s m) q.1.det (callee s p c k q) (doing p.frame p.goals) p.callers k) r t p.frame.act (Some p.number) (call_weight q.1) made
    ∙ invokes_as s m p c r q true is fit

pub all_at : (s : Hlds) (m : ℕ) (b : Frame) (j : Job) (r : Run) → r.next ≡ suc b.act
    → then_misses (λ n. Fail b.act ∷ []) (traces s m (in_job b (j.frame ∷ j.callers)) r) ≡ with_body s m Multi b j r
all_at s m b j r is =
    sym (tells_joined (trace s m b (j.frame ∷ j.callers) r.next) r (λ n. Fail b.act ∷ []))
    ∙ ap (λ k. tells (joined (trace s m b (j.frame ∷ j.callers) k) k (λ n. Fail b.act ∷ [])) r) is

abbrev pub comes_back : Hlds → ℕ → Frame → Job → Env → ℕ → Items
comes_back s m b j e n = Exit b.act ∷ trace s m (knowing j.frame (back b.pairs e j.frame.env) j.frame.goals) j.callers n

pub first_at : (s : Hlds) (m : ℕ) (b : Frame) (j : Job) (r : Run) (u : Told) → r.next ≡ suc b.act → u ≡ traces s m (in_job (cut_off b) []) r
    → goes_on (comes_back s m b j) (λ n. Fail b.act ∷ []) (excps (j.frame ∷ j.callers)) u ≡ with_body s m Semidet b j r
first_at s m b j r u is told =
    ap (goes_on (comes_back s m b j) (λ n. Fail b.act ∷ []) (excps (j.frame ∷ j.callers))) told
    ∙ (sym (tells_first (trace s m (cut_off b) [] r.next) r (comes_back s m b j) (λ n. Fail b.act ∷ []) (excps (j.frame ∷ j.callers)))
    ∙ ap (λ k. tells (first (trace s m (cut_off b) [] k) k (comes_back s m b j) (λ n. Fail b.act ∷ []) (excps (j.frame ∷ j.callers))) r) is)

-- ---- one way each

pub found_then : (s : Hlds) (m : ℕ) (p : Place) (c t el : HldsGoal) (r : Run) (u : Told) (e : Env) (n : ℕ) (gs : List Numbered) (j : Job) → u ≡ asks s m p c r → u.end ≡ Answered e
    → n ≡ suc p.number + goal_size c → gs ≡ numbered_goal n t ∷ p.goals → j ≡ in_job (knowing p.frame e gs) p.callers → traces s m j u.run ≡ unfolds s m p (IfGoal c t el) r
found_then s m p c t el r u e n gs j told is number goals job =
    ap (λ i. traces s m i u.run) job
    ∙ (ap (λ hs. traces s m (in_job (knowing p.frame e hs) p.callers) u.run) (goals ∙ ap (λ k. numbered_goal k t ∷ p.goals) number)
    ∙ (answered (if_found s m p c t) (if_missed s m p c t el) (excps p.callers) u e is ∙ if_at s m p c t el r u told))

pub missed_then : (s : Hlds) (m : ℕ) (p : Place) (c t el : HldsGoal) (r : Run) (u : Told) (n : ℕ) (gs : List Numbered) (j : Job) → u ≡ asks s m p c r → u.end ≡ Missed
    → n ≡ suc p.number + goal_size c + goal_size t → gs ≡ numbered_goal n el ∷ p.goals → j ≡ in_job (doing p.frame gs) p.callers → traces s m j u.run ≡ unfolds s m p (IfGoal c t el) r
missed_then s m p c t el r u n gs j told is number goals job =
    ap (λ i. traces s m i u.run) job
    ∙ (ap (λ hs. traces s m (in_job (doing p.frame hs) p.callers) u.run) (goals ∙ ap (λ k. numbered_goal k el ∷ p.goals) number)
    ∙ (missing (if_found s m p c t) (if_missed s m p c t el) (excps p.callers) u is ∙ if_at s m p c t el r u told))

pub goes_from : (s : Hlds) (m : ℕ) (p : Place) (u : Told) (j : Job) → j ≡ in_job (doing p.frame p.goals) p.callers → traces s m j u.run ≡ tells (on s m p u.run.next) u.run
goes_from s m p u j job = ap (λ i. traces s m i u.run) job

-- the arms that are left
pub tried_next : (s : Hlds) (m : ℕ) (p : Place) (qs : List Numbered) (q : Numbered) (rest : List Numbered) (gs : List Numbered) (j : Job) (r : Run) (u : Told) → qs ≡ q ∷ rest → gs ≡ q ∷ p.goals
    → j ≡ in_job (doing p.frame gs) p.callers → u ≡ traces s m j r → tries s m p qs r ≡ then_misses (λ n. arms (deeper s m) p.frame p.goals p.callers n rest) u
tried_next s m p qs q rest gs j r u arms-are goals job told =
    ap (λ xs. tries s m p xs r) arms-are
    ∙ (tries_more s m p q rest r
    ∙ ap (then_misses (λ n. arms (deeper s m) p.frame p.goals p.callers n rest))
    (sym (told ∙ (ap (λ i. traces s m i r) job ∙ ap (λ hs. traces s m (in_job (doing p.frame hs) p.callers) r) goals))))

pub all_from : (s : Hlds) (m : ℕ) (b : Frame) (j : Job) (r : Run) (js : List Frame) (u : Told) → r.next ≡ suc b.act → js ≡ j.frame ∷ j.callers → u ≡ traces s m (in_job b js) r
    → then_misses (λ n. Fail b.act ∷ []) u ≡ with_body s m Multi b j r
all_from s m b j r js u next callers told = ap (then_misses (λ n. Fail b.act ∷ [])) (told ∙ ap (λ fs. traces s m (in_job b fs) r) callers) ∙ all_at s m b j r next

pub comes_from : (s : Hlds) (m : ℕ) (b : Frame) (j : Job) (r : Run) (u : Told) (e : Env) (i : Job) (x : Run) → r.next ≡ suc b.act → u ≡ traces s m (in_job (cut_off b) []) r → u.end ≡ Answered e
    → x ≡ put u.run (Exit b.act) → i ≡ in_job (knowing j.frame (back b.pairs e j.frame.env) j.frame.goals) j.callers → traces s m i x ≡ with_body s m Semidet b j r
comes_from s m b j r u e i x next told is exited job =
    ap (λ y. traces s m i y) exited
    ∙ (ap (λ h. traces s m h (put u.run (Exit b.act))) job
    ∙ (answered (comes_back s m b j) (λ n. Fail b.act ∷ []) (excps (j.frame ∷ j.callers)) u e is ∙ first_at s m b j r u next told))

pub fails_from : (s : Hlds) (m : ℕ) (b : Frame) (j : Job) (r : Run) (u : Told) (x : Run) → r.next ≡ suc b.act → u ≡ traces s m (in_job (cut_off b) []) r → u.end ≡ Missed
    → x ≡ put u.run (Fail b.act) → ended x Missed ≡ with_body s m Semidet b j r
fails_from s m b j r u x next told is failed =
    ap (λ y. ended y Missed) failed
    ∙ (missing (comes_back s m b j) (λ n. Fail b.act ∷ []) (excps (j.frame ∷ j.callers)) u is ∙ first_at s m b j r u next told)

pub leaves_from : (s : Hlds) (m : ℕ) (b : Frame) (j : Job) (r : Run) (u : Told) (x : Run) → r.next ≡ suc b.act → u ≡ traces s m (in_job (cut_off b) []) r → u.end ≡ Thrown
    → x ≡ put u.run (Excp j.frame.act) → leaves (excps j.callers) x ≡ with_body s m Semidet b j r
leaves_from s m b j r u x next told is left =
    ap (leaves (excps j.callers)) left
    ∙ (threw (comes_back s m b j) (λ n. Fail b.act ∷ []) (excps (j.frame ∷ j.callers)) u is ∙ first_at s m b j r u next told)

pub over_from : (s : Hlds) (m : ℕ) (b : Frame) (j : Job) (r : Run) (u : Told) → r.next ≡ suc b.act → u ≡ traces s m (in_job (cut_off b) []) r → u.end ≡ Over → u ≡ with_body s m Semidet b j r
over_from s m b j r u next told is = over (comes_back s m b j) (λ n. Fail b.act ∷ []) (excps (j.frame ∷ j.callers)) u is ∙ first_at s m b j r u next told

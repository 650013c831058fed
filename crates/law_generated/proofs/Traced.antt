-- The trace of a generated program: a call's items, and then what is left.
use Rattle.std.proofs.Common.{◌≡◌, refl, ap, sym, ◌∙◌, arith, ℕ, pos, zero, suc, ◌+◌, ◌*◌, ◌<◌, ◌≤◌, List, [], ◌∷◌, ◌++◌, append_assoc, Some, None}
use Rattle.md_hlds.specs.declared.types.Det.TheVariants.{Det as One}
use Rattle.md_hlds.specs.declared.goal.Term.TheVariants.{Var}
use Rattle.md_hlds.specs.HldsGoal.{At, CallGoal, SimpleGoal, Unifies, Numbered, numbered_goal}
use Rattle.md_hlds.specs.Hlds.{Hlds, procedure_called, body_number}
use Rattle.md_hlds.specs.Value.{Number, Env}
use Rattle.md_hlds.specs.Run.{main_frame, main_items}
use Rattle.md_hlds.proofs.BudgetLemmas.{won, lost}
use Rattle.md_hlds.specs.Trace.{Turn, Call, Exit, Fail, Answer, Items, Does, Frame, first, excps, knowing, cut_off, back, run_body, body_frame, invoked, trace}
use Rattle.law_generated.specs.Generated.{level_called, main_procedure}
use Rattle.law_generated.proofs.Looked.{last_procedure, calling_procedure}
use Rattle.law_generated.proofs.Items.{calls_of, call_items, first_half, second_half, Plain, nothing, turn, call, plain-append, plain-call, next_after, next-append, next-call, first-plain}

-- the procedures of n levels are found by their names
pub record HasLevels (s : Hlds) (n : ℕ) : Type 0 where
  pub calling : (j : ℕ) → suc j < n → procedure_called s (level_called (suc j)) ≡ Some (suc j, calling_procedure j)
  pub last : (j : ℕ) → suc j ≡ n → procedure_called s (level_called (suc j)) ≡ Some (suc j, last_procedure j)

-- an activation with what it still has to do
abbrev pub frame : ℕ → Env → List Numbered → List (ℕ × ℕ) → Frame
frame a e goals pairs = record { act = a; env = e; goals = goals; pairs = pairs }

-- a call of procedure suc j, as the goal of number g
abbrev pub call_of : (g line site j : ℕ) → Numbered
call_of g line site j = numbered_goal g (At line (CallGoal site (level_called (suc j)) []))

-- the two calls of a body
abbrev first_call : Hlds → ℕ → Numbered
first_call s j = call_of (suc (body_number s (suc j))) (5 + (j + j)) (1 + (j + j)) (suc j)

abbrev second_call : Hlds → ℕ → Numbered
second_call s j = call_of (suc (body_number s (suc j)) + 1) (5 + (j + j)) (2 + (j + j)) (suc j)

-- a frame with nothing left is an answer
pub trace-done : (s : Hlds) (m a : ℕ) (e : Env) (k : ℕ) → trace s m (frame a e [] []) [] k ≡ Answer e ∷ []
trace-done s zero a e k = refl
trace-done s (suc m) a e k = refl

-- a body that has plain items and then its answer: they, the exit, and what the caller has left
run-plain : (go : Does) (callee caller : Frame) (js : List Frame) (k next : ℕ) (xs : Items) (e : Env) → Plain xs → next_after xs (suc k) ≡ next
    → go (cut_off callee) [] (suc k) ≡ xs ++ Answer e ∷ []
    → run_body go One callee caller js k ≡ xs ++ Exit k ∷ go (knowing caller (back callee.pairs e caller.env) caller.goals) js next
run-plain go callee caller js k next xs e plain is body =
    ap (λ (ys : Items). first ys (suc k) (λ e n. Exit k ∷ go (knowing caller (back callee.pairs e caller.env) caller.goals) js n) (λ n. Fail k ∷ []) (excps (caller ∷ js))) body
    ∙ first-plain xs (Answer e ∷ []) (suc k) _ _ _ plain
    ∙ ap (λ n. xs ++ Exit k ∷ go (knowing caller (back callee.pairs e caller.env) caller.goals) js n) is

-- the body of the last procedure
last-body : (s : Hlds) (m j k : ℕ) → trace s (suc m) (body_frame s k [] (suc j, last_procedure j) []) [] (suc k) ≡ Turn k (Some (body_number s (suc j))) 1 ∷ Answer [] ∷ []
last-body s m j k = ap (λ (ys : Items). Turn k (Some (body_number s (suc j))) 1 ∷ ys) (trace-done s m k [] (suc k))

-- the body of a procedure that calls the next one twice, by the traces of the two calls
calling-body : (s : Hlds) (m j k between after : ℕ) (left right : Items)
    → trace s (suc (suc m)) (frame k [] (first_call s j ∷ second_call s j ∷ []) []) [] (suc k) ≡ left ++ trace s (suc m) (frame k [] (second_call s j ∷ []) []) [] between
    → trace s (suc m) (frame k [] (second_call s j ∷ []) []) [] between ≡ right ++ trace s m (frame k [] [] []) [] after
    → trace s (suc (suc (suc m))) (body_frame s k [] (suc j, calling_procedure j) []) [] (suc k) ≡ (Turn k (Some (body_number s (suc j))) 1 ∷ (left ++ right)) ++ Answer [] ∷ []
calling-body s m j k between after left right one two =
    ap (λ (ys : Items). Turn k (Some (body_number s (suc j))) 1 ∷ ys)
    (one ∙ ap (λ (ys : Items). left ++ ys) (two ∙ ap (λ (ys : Items). right ++ ys) (trace-done s m k [] after)) ∙ sym (append_assoc left right (Answer [] ∷ [])))

-- the trace of a frame whose next goal is a call: the items of the call, and the trace of what is left, to any depth that has room for three
-- turns a level
pub trace-call : (s : Hlds) (n r j k g line site m next a : ℕ) (e : Env) (rest : List Numbered) (pairs : List (ℕ × ℕ)) (js : List Frame)
    → HasLevels s n → n ≡ suc j + r → 3 * r + 1 ≤ m → next ≡ k + calls_of r
    → trace s (suc m) (frame a e (call_of g line site j ∷ rest) pairs) js k ≡ call_items s r j k a site g ++ trace s m (frame a e rest pairs) js next
trace-call s n zero j k g line site zero next a e rest pairs js has is deep count = absurd (omega arith)
trace-call s n zero j k g line site (suc m) next a e rest pairs js has is deep count =
    ap (λ o. invoked s (trace s (suc m)) (frame a e (call_of g line site j ∷ rest) pairs) g rest js k site o [] []) (has.last j (omega arith))
    ∙ ap (λ (ys : Items). Turn a (Some g) 1 ∷ Call k (Some a) (Some site) (suc j) ∷ ys)
    (run-plain (trace s (suc m)) (body_frame s k [] (suc j, last_procedure j) []) (frame a e rest pairs) js k next
    (Turn k (Some (body_number s (suc j))) 1 ∷ []) [] (turn _ _ _ _ nothing) (omega arith) (last-body s m j k))
trace-call s n (suc r) j k g line site zero next a e rest pairs js has is deep count = absurd (omega arith)
trace-call s n (suc r) j k g line site (suc zero) next a e rest pairs js has is deep count = absurd (omega arith)
trace-call s n (suc r) j k g line site (suc (suc zero)) next a e rest pairs js has is deep count = absurd (omega arith)
trace-call s n (suc r) j k g line site (suc (suc (suc m))) next a e rest pairs js has is deep count =
    let b = body_number s (suc j) in
    let between : ℕ = suc k + calls_of r in
    let left = first_half s r j k in
    let right = second_half s r j k in
    let after : ℕ = between + calls_of r in
    let level : n ≡ suc (suc j) + r = omega arith in
    let body = calling-body s m j k between after left right
    (trace-call s n r (suc j) (suc k) (suc b) (5 + (j + j)) (1 + (j + j)) (suc m) between k [] (second_call s j ∷ []) [] [] has level (omega arith) refl)
    (trace-call s n r (suc j) between (suc b + 1) (5 + (j + j)) (2 + (j + j)) m after k [] [] [] [] has level (omega arith) refl) in
    let counted : next_after (left ++ right) (suc k) ≡ next =
    next-append left right (suc k) (plain-call s r _ _ _ _ _) ∙ next-call s r (suc j) between k (2 + (j + j)) (suc b + 1) (next_after left (suc k))
    ∙ omega (arith, next-call s r (suc j) (suc k) k (1 + (j + j)) (suc b) (suc k), count) in
    ap (λ o. invoked s (trace s (suc (suc (suc m)))) (frame a e (call_of g line site j ∷ rest) pairs) g rest js k site o [] []) (has.calling j (omega arith))
    ∙ ap (λ (ys : Items). Turn a (Some g) 3 ∷ Call k (Some a) (Some site) (suc j) ∷ ys)
    (run-plain (trace s (suc (suc (suc m)))) (body_frame s k [] (suc j, calling_procedure j) []) (frame a e rest pairs) js k next
    (Turn k (Some b) 1 ∷ (left ++ right)) [] (turn _ _ _ _ (plain-append left right (plain-call s r _ _ _ _ _) (plain-call s r _ _ _ _ _))) counted body)
    ∙ ap (λ (ys : Items). Turn a (Some g) 3 ∷ Call k (Some a) (Some site) (suc j) ∷ Turn k (Some b) 1 ∷ ys)
    (sym (append_assoc (left ++ right) (Exit k ∷ []) (trace s (suc (suc (suc m))) (frame a e rest pairs) js next)))

-- ---- main

-- main's environment in the end: its two io states have values
abbrev pub main_left : Env
main_left = Some (Number (pos 0)) ∷ Some (Number (pos 0)) ∷ []

-- main's call, its body, the call of procedure 1, with r levels below it, and the equation behind it
abbrev pub main_body : Hlds → ℕ → Items
main_body s r =
    Turn 0 (Some (body_number s 0)) 1 ∷ (call_items s r 0 1 0 0 (suc (body_number s 0)) ++ Turn 0 (Some (suc (body_number s 0) + 1)) 1 ∷ [])

abbrev pub whole_items : Hlds → ℕ → Items
whole_items s r = Turn 0 None 4 ∷ Call 0 None None 0 ∷ main_body s r

abbrev pub main_end : Items
main_end = Exit 0 ∷ Answer main_left ∷ []

-- main has turns, calls and exits alone, up to its end
plain-body : (s : Hlds) (r : ℕ) → Plain (main_body s r)
plain-body s r = turn _ _ _ _ (plain-append _ _ (plain-call s r 0 1 0 0 (suc (body_number s 0))) (turn _ _ _ _ nothing))

pub plain-whole : (s : Hlds) (r : ℕ) → Plain (whole_items s r)
plain-whole s r = turn _ _ _ _ (call _ _ _ _ _ (plain-body s r))

-- the equation, with main's first io state
last-unify : (s : Hlds) (m k : ℕ)
    → trace s (suc m) (frame 0 (Some (Number (pos 0)) ∷ None ∷ []) (numbered_goal (suc (body_number s 0) + 1) (At 3 (SimpleGoal (Unifies 1 (Var 0)))) ∷ []) []) [] k
    ≡ Turn 0 (Some (suc (body_number s 0) + 1)) 1 ∷ Answer main_left ∷ []
last-unify s m k = ap (λ (ys : Items). Turn 0 (Some (suc (body_number s 0) + 1)) 1 ∷ ys) (trace-done s m 0 main_left k)

-- the trace of main: its body and its answer
trace-main : (s : Hlds) (n r m : ℕ) → HasLevels s n → n ≡ suc r → 3 * n ≤ m → trace s m (main_frame s (0, main_procedure)) [] 1 ≡ main_body s r ++ Answer main_left ∷ []
trace-main s n r zero has is deep = absurd (omega arith)
trace-main s n r (suc zero) has is deep = absurd (omega arith)
trace-main s n r (suc (suc zero)) has is deep = absurd (omega arith)
trace-main s n r (suc (suc (suc m))) has is deep =
    let items = call_items s r 0 1 0 0 (suc (body_number s 0)) in
    let after : ℕ = 1 + calls_of r in
    let unify = numbered_goal (suc (body_number s 0) + 1) (At 3 (SimpleGoal (Unifies 1 (Var 0)))) in
    let call_one = trace-call s n r 0 1 (suc (body_number s 0)) 3 0 (suc m) after 0 (Some (Number (pos 0)) ∷ None ∷ []) (unify ∷ []) [] []
    has (omega arith) (omega arith) refl in
    ap (λ (ys : Items). Turn 0 (Some (body_number s 0)) 1 ∷ ys)
    (call_one ∙ ap (λ (ys : Items). items ++ ys) (last-unify s m after) ∙ sym (append_assoc items (Turn 0 (Some (suc (body_number s 0) + 1)) 1 ∷ []) (Answer main_left ∷ [])))

-- main's items: the whole of them, and its end
pub main-traced : (s : Hlds) (n r m : ℕ) → HasLevels s n → n ≡ suc r → 3 * n ≤ m → main_items s m (0, main_procedure) ≡ whole_items s r ++ main_end
main-traced s n r m has is deep =
    ap (λ (ys : Items). Turn 0 None 4 ∷ Call 0 None None 0 ∷ first ys 1 won lost []) (trace-main s n r m has is deep)
    ∙ ap (λ (ys : Items). Turn 0 None 4 ∷ Call 0 None None 0 ∷ ys) (first-plain (main_body s r) (Answer main_left ∷ []) 1 won lost [] (plain-body s r))

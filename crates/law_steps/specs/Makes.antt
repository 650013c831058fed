-- What the abstract machine makes within a budget.
use Rattle.std.specs.Prelude.{ℕ, ◌≡◌, ◌≤◌, ◌<◌, ◌-◌, List, [], ◌∷◌, ◌++◌, Some, None}
use Rattle.md_hlds.specs.HldsGoal.{Numbered}
use Rattle.md_hlds.specs.Hlds.{Hlds, Procedure}
use Rattle.md_hlds.specs.Trace.{Turn, Call, Stuck, Items, Frame, call_weight}
use Rattle.md_hlds.specs.Run.{main_frame}
use Rattle.law_steps.specs.State.{Wait, Goes, Fails, Throws, State, state}
use Rattle.law_steps.specs.Steps.{On, Ends, returned, retried, unwound, Turns, Sticks, unfolds}

-- From this state, with so much left of the budget, the machine makes these items, and then it has ended: main has its
-- answer or fails, an exception has left all frames, no rule applies, or the next turn is heavier than what is left.
pub data Makes (s : Hlds) : (left : ℕ) → State → Items → Type 0 where
  returns_on : (left : ℕ) (f : Frame) (js : List Frame) (ws : List Wait) (k : ℕ) (items : Items) (st : State) (xs : Items)
      → f.goals ≡ [] → returned f js ws k ≡ On items st → Makes s left st xs → Makes s left (state (Goes f js) ws k) (items ++ xs)
  returns_last : (left : ℕ) (f : Frame) (js : List Frame) (ws : List Wait) (k : ℕ) (items : Items)
      → f.goals ≡ [] → returned f js ws k ≡ Ends items → Makes s left (state (Goes f js) ws k) items
  retries_on : (left : ℕ) (ws : List Wait) (k : ℕ) (items : Items) (st : State) (xs : Items)
      → retried ws k ≡ On items st → Makes s left st xs → Makes s left (state Fails ws k) (items ++ xs)
  retries_last : (left : ℕ) (ws : List Wait) (k : ℕ) (items : Items) → retried ws k ≡ Ends items → Makes s left (state Fails ws k) items
  unwinds_on : (left : ℕ) (js : List Frame) (ws : List Wait) (k : ℕ) (items : Items) (st : State) (xs : Items)
      → unwound js ws k ≡ On items st → Makes s left st xs → Makes s left (state (Throws js) ws k) (items ++ xs)
  unwinds_last : (left : ℕ) (js : List Frame) (ws : List Wait) (k : ℕ) (items : Items) → unwound js ws k ≡ Ends items → Makes s left (state (Throws js) ws k) items
  turns : (left : ℕ) (f : Frame) (js : List Frame) (ws : List Wait) (k : ℕ) (p : Numbered) (goals : List Numbered) (w : ℕ) (items : Items) (st : State) (xs : Items)
      → f.goals ≡ p ∷ goals → unfolds s f p.number goals js ws k p.goal ≡ Turns w items st → w ≤ left → Makes s (left - w) st xs
      → Makes s left (state (Goes f js) ws k) (Turn f.act (Some p.number) w ∷ (items ++ xs))
  turn_refused : (left : ℕ) (f : Frame) (js : List Frame) (ws : List Wait) (k : ℕ) (p : Numbered) (goals : List Numbered) (w : ℕ) (items : Items) (st : State)
      → f.goals ≡ p ∷ goals → unfolds s f p.number goals js ws k p.goal ≡ Turns w items st → left < w → Makes s left (state (Goes f js) ws k) []
  sticks : (left : ℕ) (f : Frame) (js : List Frame) (ws : List Wait) (k : ℕ) (p : Numbered) (goals : List Numbered) (w : ℕ)
      → f.goals ≡ p ∷ goals → unfolds s f p.number goals js ws k p.goal ≡ Sticks w → w ≤ left
      → Makes s left (state (Goes f js) ws k) (Turn f.act (Some p.number) w ∷ Stuck ∷ [])
  stuck_refused : (left : ℕ) (f : Frame) (js : List Frame) (ws : List Wait) (k : ℕ) (p : Numbered) (goals : List Numbered) (w : ℕ)
      → f.goals ≡ p ∷ goals → unfolds s f p.number goals js ws k p.goal ≡ Sticks w → left < w → Makes s left (state (Goes f js) ws k) []

-- the state in which main's body begins
abbrev pub beginning : Hlds → ℕ × Procedure → State
beginning s m = state (Goes (main_frame s m) []) [] 1

-- main's call, which is made where the budget allows it, and these items
abbrev pub with_main : ℕ × Procedure → Items → Items
with_main m xs = Turn 0 None (call_weight m.1) ∷ Call 0 None None m.0 ∷ xs

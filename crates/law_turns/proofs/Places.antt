-- What the goal at a place uses and makes, and by way of which parts it ends.
use Rattle.std.proofs.Common.{◌≡◌, refl, ap, arith, ℕ, ◌+◌, ◌<◌, true, false, nat_eq, List, [], ◌∷◌, slice_get}
use Rattle.std.proofs.lemmas.Bool.{eq-eqb, ne_eqb}
use Rattle.md_hlds.specs.HldsGoal.{HldsGoal, At, GoalExpr, HldsGoals, nothing, also, goal_size}
use Rattle.md_hlds.specs.Hlds.{Hlds, body_number}
use Rattle.md_det.specs.Findings.{program_findings}
use Rattle.law_turns.specs.Equations.{numbers_from}
use Rattle.law_turns.proofs.Spots.{Cause, ByTurn, ByEnd, ByChoice, ByCall, ByExit, Effect, Begins, Ends, Chooses, Picks, CallsAt, ExitsOf, spots, IsAt, spot_is}
use Rattle.law_turns.proofs.Flow.{turned, made, chosen, picked, vias, choices, begun_at, ended_at, turned_at, made_at, chosen_at, picked_at, vias_at, choices_at, goal_of_site, causes, effects, how_often}

pub begun_is : (s : Hlds) (n : ℕ) (b : List Cause) (e : List Effect) (p : HldsGoal) → IsAt s n b e p → causes s (Begins n) ≡ b
unfolding causes
begun_is s n b e p h = ap begun_at (spot_is s n b e p h)

pub ended_is : (s : Hlds) (n : ℕ) (b : List Cause) (e : List Effect) (p : HldsGoal) → IsAt s n b e p → effects s (ByEnd n) ≡ e
unfolding effects
ended_is s n b e p h = ap ended_at (spot_is s n b e p h)

pub turned_is : (s : Hlds) (n l : ℕ) (b : List Cause) (e : List Effect) (t : GoalExpr) → IsAt s n b e (At l t) → effects s (ByTurn n) ≡ turned (program_findings s) n t
unfolding effects
turned_is s n l b e t h = ap (turned_at (program_findings s) n) (spot_is s n b e (At l t) h)

pub made_is : (s : Hlds) (n j l : ℕ) (b : List Cause) (e : List Effect) (t : GoalExpr) → IsAt s n b e (At l t) → causes s (Ends n j) ≡ made (program_findings s) n j t
unfolding causes
made_is s n j l b e t h = ap (made_at (program_findings s) n j) (spot_is s n b e (At l t) h)

pub chosen_is : (s : Hlds) (n j l : ℕ) (b : List Cause) (e : List Effect) (t : GoalExpr) → IsAt s n b e (At l t) → effects s (ByChoice n j) ≡ chosen n j t
unfolding effects
chosen_is s n j l b e t h = ap (chosen_at n j) (spot_is s n b e (At l t) h)

pub picked_is : (s : Hlds) (n j l : ℕ) (b : List Cause) (e : List Effect) (t : GoalExpr) → IsAt s n b e (At l t) → causes s (Picks n j) ≡ picked n j t
unfolding causes
picked_is s n j l b e t h = ap (picked_at n j) (spot_is s n b e (At l t) h)

pub vias_is : (s : Hlds) (n l : ℕ) (b : List Cause) (e : List Effect) (t : GoalExpr) → IsAt s n b e (At l t) → vias_at n (slice_get (spots s) n) ≡ vias n t
vias_is s n l b e t h = ap (vias_at n) (spot_is s n b e (At l t) h)

pub choices_is : (s : Hlds) (n l : ℕ) (b : List Cause) (e : List Effect) (t : GoalExpr) → IsAt s n b e (At l t) → choices_at n (slice_get (spots s) n) ≡ choices n t
choices_is s n l b e t h = ap (choices_at n) (spot_is s n b e (At l t) h)

-- ---- numbers

pub same_number : (n : ℕ) → nat_eq n n ≡ true
same_number n = eq-eqb n n refl

pub other_number : (m n : ℕ) → m < n → nat_eq m n ≡ false
other_number m n less = ne_eqb m n (λ e. absurd (omega (arith, e, less)))

pub other_number_back : (m n : ℕ) → m < n → nat_eq n m ≡ false
other_number_back m n less = ne_eqb n m (λ e. absurd (omega (arith, e, less)))

pub size_positive : (p : HldsGoal) → 0 < goal_size p
size_positive (At l t) = omega arith

pub once_alone : (n : ℕ) → how_often n (n ∷ []) ≡ 1
once_alone n = rw (same_number n) refl

pub once_of_two : (m n : ℕ) → m < n → (how_often m (m ∷ n ∷ []) ≡ 1) × (how_often n (m ∷ n ∷ []) ≡ 1)
once_of_two m n less = (rw (same_number m, other_number_back m n less) refl, rw (same_number n, other_number m n less) refl)

-- none of these parts has a number below the first one's
pub none_below : (j m : ℕ) (ps : HldsGoals) → j < m → how_often j (numbers_from m ps) ≡ 0
none_below j m nothing less = refl
none_below j m (also p ps) less =
    let more = none_below j (m + goal_size p) ps (omega (arith, less)) in
    rw (other_number_back j m less, more) refl

pub once_first : (m : ℕ) (p : HldsGoal) (ps : HldsGoals) → how_often m (numbers_from m (also p ps)) ≡ 1
once_first m p ps =
    let positive = size_positive p in
    let more = none_below m (m + goal_size p) ps (omega (arith, positive)) in
    rw (same_number m, more) refl

pub once_later : (j m : ℕ) (p : HldsGoal) (ps : HldsGoals) → m < j → how_often j (numbers_from (m + goal_size p) ps) ≡ 1 → how_often j (numbers_from m (also p ps)) ≡ 1
once_later j m p ps less h = rw (other_number m j less, h) refl

-- ---- what has no place

pub chooses_is : (s : Hlds) (n : ℕ) → causes s (Chooses n) ≡ ByTurn n ∷ []
unfolding causes
chooses_is s n = refl

pub calls_at_is : (s : Hlds) (x : ℕ) → causes s (CallsAt x) ≡ ByTurn (goal_of_site s x) ∷ []
unfolding causes
calls_at_is s x = refl

pub exits_of_is : (s : Hlds) (q : ℕ) → causes s (ExitsOf q) ≡ ByEnd (body_number s q) ∷ []
unfolding causes
exits_of_is s q = refl

pub by_call_is : (s : Hlds) (q : ℕ) → effects s (ByCall q) ≡ Begins (body_number s q) ∷ []
unfolding effects
by_call_is s q = refl

pub by_exit_is : (s : Hlds) (x : ℕ) → effects s (ByExit x) ≡ Ends (goal_of_site s x) (goal_of_site s x) ∷ []
unfolding effects
by_exit_is s x = refl

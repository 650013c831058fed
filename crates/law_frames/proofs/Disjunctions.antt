-- Turns of disjunctions: arms that are tried, and the one arm of a switch.
use Rattle.std.proofs.Common.{◌≡◌, refl, ap, sym, ◌∙◌, subst, arith, ℕ, suc, ◌+◌, ◌<◌, ◌≤◌, Bool, true, false, cond, List, [], ◌∷◌, Option, Some, None, is_some, unwrap_or, true≢false, inl, inr}
use Rattle.md_hlds.specs.HldsGoal.{At, DisjGoal, HldsGoals, nothing, also, Numbered, numbered_goal, numbered_from, goal_size, goals_size}
use Rattle.md_hlds.specs.Hlds.{Hlds}
use Rattle.md_hlds.specs.Value.{Value, Env, value_at}
use Rattle.md_hlds.specs.Switch.{Key, switch_shape, has_the_key, arm_for}
use Rattle.md_hlds.specs.Trace.{Frame, doing}
use Rattle.law_steps.specs.State.{Wait, Others, State}
use Rattle.law_steps.specs.Steps.{tries, takes_arm, switches, chooses}
use Rattle.law_frames.specs.Ways.{Leaves, Address, pop, Way, on, after, goals_of, part_way, arms_address, Mentions, SomeMentions, some_leaves}
use Rattle.law_frames.specs.Stores.{Act, Choice, Store, Perm, Kept}
use Rattle.law_frames.specs.Standing.{AreKept, Failing, tried, arms, Going, Runs, Misses, Stands, runs, misses}
use Rattle.law_frames.specs.Moves.{TurnsTo, env_of}
use Rattle.law_frames.specs.Leaving.{AreTried}
use Rattle.law_frames.proofs.Leave.{below_refl}
use Rattle.law_frames.proofs.WayLemmas.{or_left, or_right}
use Rattle.law_frames.proofs.Ends.{placed_of, failing_of, ending_of}
use Rattle.law_frames.proofs.Turning.{turns_to, IsPart, goes_part, kept_part}

-- ---- arms are parts

-- each of these arms is a part of the goal p
abbrev pub AreParts : Numbered → List Numbered → Type 0
AreParts p [] = Unit {0}
AreParts p (q ∷ qs) = IsPart q p × AreParts p qs

pub parts_among : (p : Numbered) (m : ℕ) (ps : HldsGoals) → ((y : ℕ) → SomeMentions ps y → Mentions p.goal y) → p.number < m → m + goals_size ps ≤ p.number + goal_size p.goal → AreParts p (numbered_from m ps)
parts_among p m nothing mentions first last = tt
parts_among p m (also q ps) mentions first last = (
  record { mentions = λ y here. mentions y (inl here); first = first; last = omega (arith, last) },
  parts_among p (m + goal_size q) ps (λ y there. mentions y (inr there)) (omega (arith, first)) (omega (arith, last)),
)

-- where one of them leaves a choice, so does the goal of number n
abbrev AreLess : Leaves → ℕ → List Numbered → Type 0
AreLess lv n [] = Unit {0}
AreLess lv n (q ∷ qs) = (lv q.number ≡ true → lv n ≡ true) × AreLess lv n qs

less_among : (lv : Leaves) (n m : ℕ) (ps : HldsGoals) → (some_leaves lv m ps ≡ true → lv n ≡ true) → AreLess lv n (numbered_from m ps)
less_among lv n m nothing less = tt
less_among lv n m (also q ps) less = (
  λ here. less (or_left (lv m) (some_leaves lv (m + goal_size q) ps) here),
  less_among lv n (m + goal_size q) ps (λ there. less (or_right (lv m) (some_leaves lv (m + goal_size q) ps) there)),
)

-- the arm that is found is one of them
IsFound : Leaves → ℕ → Numbered → Numbered → Type 0
IsFound lv n p q = IsPart q p × (lv q.number ≡ true → lv n ≡ true)

by_key : (lv : Leaves) (n : ℕ) (p r q : Numbered) (rest : Option Numbered) → IsFound lv n p r → (rest ≡ Some q → IsFound lv n p q) → (b : Bool) → cond b (Some r) rest ≡ Some q → IsFound lv n p q
by_key lv n p r q rest here there true is = subst (IsFound lv n p) (ap (λ o. unwrap_or o r) is) here
by_key lv n p r q rest here there false is = there is

found_here : (lv : Leaves) (n : ℕ) (p r : Numbered) → IsPart r p → (lv r.number ≡ true → lv n ≡ true) → IsFound lv n p r
unfolding IsFound
found_here lv n p r part less = (part, less)

arm_found : (lv : Leaves) (n : ℕ) (p : Numbered) (v : Value) (keys : List Key) (ps : List Numbered) (q : Numbered) → AreParts p ps → AreLess lv n ps → arm_for v keys ps ≡ Some q → IsFound lv n p q
arm_found lv n p v [] ps q parts less is = absurd (true≢false (sym (ap is_some is)))
arm_found lv n p v (k ∷ ks) [] q parts less is = absurd (true≢false (sym (ap is_some is)))
arm_found lv n p v (k ∷ ks) (r ∷ ps) q parts less is =
    by_key lv n p r q (arm_for v ks ps) (found_here lv n p r parts.0 less.0) (λ rest. arm_found lv n p v ks ps q parts.1 less.1 rest) (has_the_key v k) is

found_part : (lv : Leaves) (n : ℕ) (p q : Numbered) → IsFound lv n p q → IsPart q p
unfolding IsFound
found_part lv n p q found = found.0

found_less : (lv : Leaves) (n : ℕ) (p q : Numbered) → IsFound lv n p q → lv q.number ≡ true → lv n ≡ true
unfolding IsFound
found_less lv n p q found = found.1

disj_parts : (n l : ℕ) (ps : HldsGoals) → AreParts (numbered_goal n (At l (DisjGoal ps))) (numbered_from (suc n) ps)
disj_parts n l ps = parts_among (numbered_goal n (At l (DisjGoal ps))) (suc n) ps (λ y m. m) (omega arith) (omega arith)

-- ---- arms that are tried

arms_kept : {S : Store} {W : Perm} {a : Address} {p : Numbered} {w : Way} {x : Act} {e : Env} → Kept S W x (on a p w) e → (ps : List Numbered) → AreParts p ps → AreKept S W x w e ps
arms_kept kept [] parts = tt
arms_kept {w = w} kept (q ∷ qs) parts = (kept_part pop q w parts.0 (λ y reads. reads) (λ n later. later) kept, arms_kept kept qs parts.1)

tries_from : {lv : Leaves} {S : Store} {W : Perm} {a : Address} {p : Numbered} {w : Way} {x : Act} {c : List Act} {cs : List Choice} {f : Frame} {js : List Frame} {ws : List Wait}
    → Going lv S W (on a p w) (on a p w) x c cs f js ws → lv p.number ≡ true → (ps : List Numbered) → AreParts p ps
    → Failing lv S W (arms_address ps a w) x c cs (Others (doing f (goals_of w)) js ps ∷ ws)
tries_from goes leaves [] parts = tried (failing_of goes)
tries_from {a = a} goes leaves (q ∷ qs) parts =
    arms below_refl (record {
      way = (placed_of goes).way.2;
      meets = (placed_of goes).way.0 ∙ ap (after a) leaves;
      passing = (placed_of goes).way.1 leaves;
      is = (placed_of goes).is;
      goals = refl;
      kept = arms_kept (placed_of goes).kept (q ∷ qs) parts;
      stacked = (placed_of goes).stacked;
      free = (placed_of goes).free;
    }) (failing_of goes) (ending_of goes)

choose_tried : (f : Frame) (goals : List Numbered) (js : List Frame) (ws : List Wait) (k : ℕ) (ps : List Numbered) (o : Option (ℕ × List Key)) → AreTried f.env o → chooses f goals js ws k ps o ≡ tries f goals js ws k ps
choose_tried f goals js ws k ps None none = refl
choose_tried f goals js ws k ps (Some shape) none = ap (λ v. switches f goals js ws k ps shape.1 v) none

pub disjunction_tries : {lv : Leaves} {S : Store} {a : Address} {n l : ℕ} {ps : HldsGoals} {w : Way} {x : Act} {c : List Act} {cs : List Choice} {k : ℕ} {st : State} (s : Hlds)
    → Stands lv S (Runs (on a (numbered_goal n (At l (DisjGoal ps))) w) x c) cs k st → lv n ≡ true → AreTried (env_of st) (switch_shape s ps)
    → TurnsTo s lv st x.number n 1 [] S (Misses (arms_address (numbered_from (suc n) ps) a w) x c) cs k
disjunction_tries {n = n} {l = l} {ps = ps} {w = w} {x = x} s (runs {f = f} {js = js} {ws = ws} k goes) leaves tried' =
    turns_to s x (numbered_goal n (At l (DisjGoal ps))) (goals_of w) f js ws k (placed_of goes).is (placed_of goes).goals
    (choose_tried f (goals_of w) js ws k (numbered_from (suc n) ps) (switch_shape s ps) tried')
    (misses k (tries_from goes leaves (numbered_from (suc n) ps) (disj_parts n l ps)))

-- ---- a switch

choose_arm : (f : Frame) (goals : List Numbered) (js : List Frame) (ws : List Wait) (k : ℕ) (ps : List Numbered) (o : Option (ℕ × List Key)) (shape : ℕ × List Key) (v : Value) (r : Option Numbered) → o ≡ Some shape → value_at f.env shape.0 ≡ Some v
    → arm_for v shape.1 ps ≡ r → chooses f goals js ws k ps o ≡ takes_arm f goals js ws k r
choose_arm f goals js ws k ps o shape v r is has arm =
    ap (chooses f goals js ws k ps) is ∙ (ap (λ v. switches f goals js ws k ps shape.1 v) has ∙ ap (takes_arm f goals js ws k) arm)

pub switch_goes : {lv : Leaves} {S : Store} {a : Address} {n l : ℕ} {ps : HldsGoals} {w : Way} {x : Act} {c : List Act} {cs : List Choice} {k : ℕ} {st : State} (s : Hlds)
    → Stands lv S (Runs (on a (numbered_goal n (At l (DisjGoal ps))) w) x c) cs k st → (some_leaves lv (suc n) ps ≡ true → lv n ≡ true)
    → (shape : ℕ × List Key) (v : Value) (q : Numbered) → switch_shape s ps ≡ Some shape → value_at (env_of st) shape.0 ≡ Some v → arm_for v shape.1 (numbered_from (suc n) ps) ≡ Some q
    → TurnsTo s lv st x.number n 1 [] S (Runs (part_way lv n a q w) x c) cs k
switch_goes {lv} {n = n} {l = l} {ps = ps} {w = w} {x = x} s (runs {f = f} {js = js} {ws = ws} k goes) less shape v q is has arm =
    let p : Numbered = numbered_goal n (At l (DisjGoal ps)) in
    let found = arm_found lv n p v shape.1 (numbered_from (suc n) ps) q (disj_parts n l ps) (less_among lv n (suc n) ps less) arm in
    turns_to s x p (goals_of w) f js ws k (placed_of goes).is (placed_of goes).goals
    (choose_arm f (goals_of w) js ws k (numbered_from (suc n) ps) (switch_shape s ps) shape v (Some q) is has arm)
    (runs k (goes_part q goes (found_part lv n p q found) (found_less lv n p q found)))

pub switch_fails : {lv : Leaves} {S : Store} {a : Address} {n l : ℕ} {ps : HldsGoals} {w : Way} {x : Act} {c : List Act} {cs : List Choice} {k : ℕ} {st : State} (s : Hlds)
    → Stands lv S (Runs (on a (numbered_goal n (At l (DisjGoal ps))) w) x c) cs k st
    → (shape : ℕ × List Key) (v : Value) → switch_shape s ps ≡ Some shape → value_at (env_of st) shape.0 ≡ Some v → arm_for v shape.1 (numbered_from (suc n) ps) ≡ None
    → TurnsTo s lv st x.number n 1 [] S (Misses a x c) cs k
switch_fails {n = n} {l = l} {ps = ps} {w = w} {x = x} s (runs {f = f} {js = js} {ws = ws} k goes) shape v is has arm =
    turns_to s x (numbered_goal n (At l (DisjGoal ps))) (goals_of w) f js ws k (placed_of goes).is (placed_of goes).goals
    (choose_arm f (goals_of w) js ws k (numbered_from (suc n) ps) (switch_shape s ps) shape v None is has arm) (misses k (failing_of goes))

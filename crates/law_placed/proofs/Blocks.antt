-- The six instructions of a goal are in range.
use Rattle.std.proofs.Common.{◌≡◌, refl, arith, ℕ, suc, ◌+◌, ◌<◌, ◌≤◌, Bool, true, false, nat_lt, nat_le, List, [], ◌∷◌, ◌++◌, Option, Some, None}
use Rattle.std.proofs.lemmas.Bool.{lt-ltb, le-leb, and_from}
use Rattle.md_hlds.specs.HldsGoal.{At, GoalExpr, SimpleGoal, CallGoal, HoCallGoal, ConjGoal, DisjGoal, IfGoal, NotGoal, SomeGoal, HldsGoals, nothing, also, goal_size, goals_size}
use Rattle.md_hlds.specs.Hlds.{Hlds}
use Rattle.md_hlds.specs.Switch.{Key, IntKey, TextKey, FunctorKey}
use Rattle.md_modes.specs.Goals.{parts_variables}
use Rattle.md_det.specs.declared.finding.Switch.{Switch}
use Rattle.md_det.specs.Findings.{program_findings, switch_at}
use Rattle.md_flat.specs.declared.instruction.Operation.TheVariants as act
use Rattle.md_flat.specs.Placed.{Bounds, is_operation_placed, is_placed}
use Rattle.md_code.specs.Leaves.{leaves_table}
use Rattle.md_code.specs.Tables.{head_at, second_at, ended_at, one_if}
use Rattle.md_code.specs.Blocks.{End, Along, Joining, Holding, Denying, Exiting, Yielding, Trial, NoArm, LastArm, ArmBefore, Keeping, Place, pending_expr, cut_or_pass, join_or_pass, end_code, try_code, parts_begin, condition_code, some_code, switch_by, shape_keys, first_trial, disjunction_code, own_code, block}
use Rattle.law_placed.proofs.Numbers.{each_both, below_at}
use Rattle.law_placed.proofs.Noted.{role_noted, switch_variable}
use Rattle.law_placed.proofs.SimpleGoals.{ArePlaced, IsFull, goes, unused_placed, alone_placed, two_below, simple_placed}
use Rattle.law_placed.proofs.Standing.{IsIn, IsEndIn, IsTrialIn, Stands, some_size, spot_at, begins_in}

-- ---- ends and trials

-- a choice is left at an address by a frame of so many slots
try_placed : (b : Bounds) (other size : ℕ) → other < b.instructions → size ≤ b.slots → is_operation_placed b (act.Try other size) ≡ true
try_placed b other size lt le = and_from (nat_lt other b.instructions) (nat_le size b.slots) (lt-ltb other b.instructions lt) (le-leb size b.slots le)

cut_placed : (b : Bounds) (height : Option ℕ) (next : ℕ) → IsIn b.slots height → next < b.instructions → is_placed b (cut_or_pass height next) ≡ true
cut_placed b None next h lt = goes b next act.Pass lt refl
cut_placed b (Some height) next h lt = goes b next (act.Cut height) lt (lt-ltb height b.slots h)

join_placed : (b : Bounds) (other : Option ℕ) (size next : ℕ) → IsIn b.instructions other → size ≤ b.slots → next < b.instructions → is_placed b (join_or_pass other size next) ≡ true
join_placed b None size next h le lt = goes b next act.Pass lt refl
join_placed b (Some other) size next h le lt = goes b next (act.Try other size) lt (try_placed b other size h le)

end_placed : (b : Bounds) (n pending size : ℕ) (end : End) → IsFull b → n < b.details → size ≤ b.slots → IsEndIn b end → ArePlaced b (end_code n pending size end)
end_placed b n p size Along full lt le h = let u = unused_placed b full in (u, (u, tt))
end_placed b n p size (Joining other next) full lt le h = (goes b (ended_at n) act.Charge (omega (arith, full, lt)) refl, (join_placed b other size next h.0 le h.1, tt))
end_placed b n p size (Holding height next) full lt le h = (cut_placed b height next h.0 h.1, (unused_placed b full, tt))
end_placed b n p size (Denying height other) full lt le h = (cut_placed b height (ended_at n) h.0 (omega (arith, full, lt)), (goes b other act.Charge h.1 refl, tt))
end_placed b n p size (Exiting procedure height) full lt le h = (cut_placed b height (ended_at n) h (omega (arith, full, lt)), (goes b 0 (act.Exit procedure) (omega (arith, full)) refl, tt))
end_placed b n p size (Yielding procedure other) full lt le h =
    (goes b 0 (act.Leave procedure (ended_at n) size) (omega (arith, full)) (try_placed b (ended_at n) size (omega (arith, full, lt)) le), (goes b other act.Redo h refl, tt))

trial_placed : (b : Bounds) (n size : ℕ) (trial : Trial) → IsFull b → n < b.details → size ≤ b.slots → IsTrialIn b trial → is_placed b (try_code n size trial) ≡ true
trial_placed b n size NoArm full lt le h = unused_placed b full
trial_placed b n size LastArm full lt le h = goes b (head_at n) act.Pass (omega (arith, full, lt)) refl
trial_placed b n size (ArmBefore other) full lt le h = goes b (head_at n) (act.Try other size) (omega (arith, full, lt)) (try_placed b other size h le)
trial_placed b n size (Keeping height) full lt le h = goes b (head_at n) (act.Height height) (omega (arith, full, lt)) (lt-ltb height b.slots h)

-- ---- goals with parts

condition_placed : (b : Bounds) (leaves : Bool) (n pending height size other : ℕ) → IsFull b → suc n < b.details → height + one_if leaves ≤ b.slots → size ≤ b.slots → other < b.instructions → ArePlaced b (condition_code leaves n pending height size other)
condition_placed b false n p height size other full lt h le off = alone_placed b (head_at (suc n)) act.Pass full (omega (arith, full, lt)) refl
condition_placed b true n p height size other full lt h le off = (
  goes b (second_at n) (act.Height height) (omega (arith, full, lt)) (lt-ltb height b.slots (omega (arith, h))),
  (goes b (head_at (suc n)) (act.Try other size) (omega (arith, full, lt)) (try_placed b other size off le), (unused_placed b full, tt)),
)

some_placed : (b : Bounds) (leaves : Bool) (n height : ℕ) → IsFull b → suc n < b.details → height + one_if leaves ≤ b.slots → ArePlaced b (some_code leaves n height)
some_placed b false n height full lt h = alone_placed b (head_at (suc n)) act.Pass full (omega (arith, full, lt)) refl
some_placed b true n height full lt h = alone_placed b (head_at (suc n)) (act.Height height) full (omega (arith, full, lt)) (lt-ltb height b.slots (omega (arith, h)))

switch_placed : (b : Bounds) (s : Hlds) (n x : ℕ) (keys : List Key) → n < b.details → x < b.slots → is_operation_placed b (switch_by s n x keys) ≡ true
switch_placed b s n x [] lt h = refl
switch_placed b s n x (FunctorKey f arity ∷ keys) lt h = two_below x n b.slots b.details h lt
switch_placed b s n x (IntKey i ∷ keys) lt h = two_below x n b.slots b.details h lt
switch_placed b s n x (TextKey bytes ∷ keys) lt h = two_below x n b.slots b.details h lt

trial_in : (b : Bounds) (n : ℕ) (ps : HldsGoals) → IsFull b → n + goals_size ps ≤ b.details → first_trial n ps < b.instructions
trial_in b n nothing full le = omega (arith, full)
trial_in b n (also g gs) full le = let some = some_size g in omega (arith, full, le, some)

disjunction_placed : (b : Bounds) (s : Hlds) (n l : ℕ) (ps : HldsGoals) (at : Place) (w : Option Switch) → IsFull b → Stands b s n (At l (DisjGoal ps)) at → switch_at (program_findings s) n ≡ w → ArePlaced b (disjunction_code s n ps at w)
disjunction_placed b s n l ps at None full h is = let k = h.numbers in alone_placed b (first_trial (suc n) ps) act.Pass full (trial_in b (suc n) ps full (omega (arith, k))) refl
disjunction_placed b s n l ps at (Some w) full h is =
    let k = h.numbers in (
      goes b (second_at n) (switch_by s n w.var (shape_keys s ps)) (omega (arith, full, k))
          (switch_placed b s n w.var (shape_keys s ps) (omega (arith, k)) (below_at b.slots (parts_variables ps) w.var h.range (switch_variable s n l ps w h.goals.0 is))),
      (goes b at.other act.Charge h.other refl, (unused_placed b full, tt)),
    )

own_placed : (b : Bounds) (s : Hlds) (n l : ℕ) (t : GoalExpr) (at : Place) → IsFull b → Stands b s n (At l t) at → ArePlaced b (own_code s n t at)
own_placed b s n l (SimpleGoal g) at full h = simple_placed b s n g at (spot_at b s n (At l (SimpleGoal g)) at full h) h.range (role_noted s n l (SimpleGoal g) h.goals.0)
own_placed b s n l (CallGoal site q ys) at full h = let k = h.numbers in alone_placed b at.next (act.Call n) full h.next (lt-ltb n b.details (omega (arith, k)))
own_placed b s n l (HoCallGoal site f ys) at full h = let k = h.numbers in alone_placed b at.next (act.Apply f n) full h.next (two_below f n b.slots b.details h.range.0 (omega (arith, k)))
own_placed b s n l (ConjGoal ps) at full h = let k = h.numbers in alone_placed b (parts_begin (suc n) ps at.next) act.Pass full (begins_in b (suc n) ps at.next full (omega (arith, k)) h.next) refl
own_placed b s n l (DisjGoal ps) at full h = disjunction_placed b s n l ps at (switch_at (program_findings s) n) full h refl
own_placed b s n l (IfGoal c t e) at full h =
    let k = h.numbers in
    let z = h.heights in
    let in_c = some_size c in
    let in_e = some_size e in
    condition_placed b (leaves_table s (suc n)) n at.pending at.height at.size (head_at (suc n + goal_size c + goal_size t)) full (omega (arith, k, in_c)) (omega (arith, z)) h.size (omega (arith, full, k, in_e))
own_placed b s n l (NotGoal c) at full h =
    let k = h.numbers in
    let z = h.heights in
    let some = some_size c in
    condition_placed b (leaves_table s (suc n)) n at.pending at.height at.size at.next full (omega (arith, k, some)) (omega (arith, z)) h.size h.next
own_placed b s n l (SomeGoal vs c) at full h =
    let k = h.numbers in
    let z = h.heights in
    let some = some_size c in
    some_placed b (leaves_table s (suc n)) n at.height full (omega (arith, k, some)) (omega (arith, z))

pub block_placed : (b : Bounds) (s : Hlds) (n l : ℕ) (t : GoalExpr) (at : Place) → IsFull b → Stands b s n (At l t) at → ArePlaced b (block s n t at)
block_placed b s n l t at full h =
    let k = h.numbers in
    let lt : n < b.details = omega (arith, k) in
    let pending = pending_expr s n at.pending t in
    each_both (λ i. is_placed b i ≡ true) (own_code s n t at) (end_code n pending at.size at.end ++ (try_code n at.size at.trial ∷ [])) (own_placed b s n l t at full h)
    (each_both (λ i. is_placed b i ≡ true) (end_code n pending at.size at.end) (try_code n at.size at.trial ∷ []) (end_placed b n pending at.size at.end full lt h.size h.end) (trial_placed b n at.size at.trial full lt h.size h.trial, tt))

-- The code of a goal, with those within it, is in range where the goal stands at a place whose numbers are.
use Rattle.std.proofs.Common.{◌≡◌, ℕ, suc, ◌+◌, true, List, [], ◌∷◌, ◌++◌, Option}
use Rattle.std.specs.List.{AllByRecursion}
use Rattle.md_hlds.specs.HldsGoal.{HldsGoal, At, GoalExpr, SimpleGoal, CallGoal, HoCallGoal, ConjGoal, DisjGoal, IfGoal, NotGoal, SomeGoal, HldsGoals, nothing, also, goal_size}
use Rattle.md_hlds.specs.Hlds.{Hlds}
use Rattle.md_det.specs.declared.finding.Switch.{Switch}
use Rattle.md_det.specs.Findings.{program_findings, switch_at}
use Rattle.md_flat.specs.declared.instruction.Instruction.{Instruction}
use Rattle.md_flat.specs.Placed.{Bounds, is_placed}
use Rattle.md_code.specs.Leaves.{leaves_table}
use Rattle.md_code.specs.Tables.{heights_of}
use Rattle.md_code.specs.Blocks.{Place, other_after, pending_after, block, goal_code, inner_code, parts_code, arms_code, if_condition, then_place, else_place, negated_place, some_place, conjunct_place, arm_place, pending_behind}
use Rattle.md_code.specs.Details.{Detail, detail_of, goal_details, inner_details, parts_details, arms_details}
use Rattle.law_placed.proofs.Numbers.{each_both}
use Rattle.law_placed.proofs.SimpleGoals.{ArePlaced, is_told_placed, IsFull}
use Rattle.law_placed.proofs.Standing.{Stands, PartsStand, conjunction_stands, disjunction_stands, first_part, other_parts, first_arm, other_arms, if_stands, negated_stands, quantified_stands}
use Rattle.law_placed.proofs.Blocks.{block_placed}
use Rattle.law_placed.proofs.Details.{ProgramIn, goal_detailed}

pub record CodeIn (b : Bounds) (is : List Instruction) (ds : List Detail) : Type 0 where
  pub instructions : ArePlaced b is
  pub details : AllByRecursion (λ d. is_told_placed b d ≡ true) ds

pub no_code : (b : Bounds) → CodeIn b [] []
no_code b = record { instructions = tt; details = tt }

pub both_in : (b : Bounds) (is js : List Instruction) (ds es : List Detail) → CodeIn b is ds → CodeIn b js es → CodeIn b (is ++ js) (ds ++ es)
both_in b is js ds es h k = record {
  instructions = each_both (λ i. is_placed b i ≡ true) is js h.instructions k.instructions;
  details = each_both (λ d. is_told_placed b d ≡ true) ds es h.details k.details;
}

mutual
  pub goal_in : (b : Bounds) (s : Hlds) → IsFull b → ProgramIn b s → (n : ℕ) (g : HldsGoal) (at : Place) → Stands b s n g at → CodeIn b (goal_code s n g at) (goal_details s n g at)
  goal_in b s full all n (At l t) at h =
      both_in b (block s n t at) (inner_code s n t at) (detail_of s n t at ∷ []) (inner_details s n t at)
      (record { instructions = block_placed b s n l t at full h; details = (goal_detailed b s n l t at full all h, tt) }) (inner_in b s full all n l t at h)

  inner_in : (b : Bounds) (s : Hlds) → IsFull b → ProgramIn b s → (n l : ℕ) (t : GoalExpr) (at : Place) → Stands b s n (At l t) at → CodeIn b (inner_code s n t at) (inner_details s n t at)
  inner_in b s full all n l (SimpleGoal g) at h = no_code b
  inner_in b s full all n l (CallGoal site q ys) at h = no_code b
  inner_in b s full all n l (HoCallGoal site f ys) at h = no_code b
  inner_in b s full all n l (ConjGoal ps) at h = parts_in b s full all (suc n) ps at at.other (suc at.pending) at.height (conjunction_stands b s n l ps at h)
  inner_in b s full all n l (DisjGoal ps) at h = arms_in b s full all n (suc n) ps at (switch_at (program_findings s) n) (suc at.pending) at.height (disjunction_stands b s n l ps at h)
  inner_in b s full all n l (IfGoal c t e) at h =
      let m = suc n + goal_size c in
      let k = m + goal_size t in
      let parts = if_stands b s n l c t e at full h in
      both_in b (goal_code s (suc n) c (if_condition s n c t at)) (goal_code s m t (then_place s n c at) ++ goal_code s k e (else_place s n c t at))
      (goal_details s (suc n) c (if_condition s n c t at)) (goal_details s m t (then_place s n c at) ++ goal_details s k e (else_place s n c t at)) (goal_in b s full all (suc n) c (if_condition s n c t at) parts.condition)
      (both_in b (goal_code s m t (then_place s n c at)) (goal_code s k e (else_place s n c t at)) (goal_details s m t (then_place s n c at)) (goal_details s k e (else_place s n c t at))
      (goal_in b s full all m t (then_place s n c at) parts.then) (goal_in b s full all k e (else_place s n c t at) parts.else))
  inner_in b s full all n l (NotGoal c) at h = goal_in b s full all (suc n) c (negated_place s n at) (negated_stands b s n l c at full h)
  inner_in b s full all n l (SomeGoal vs c) at h = goal_in b s full all (suc n) c (some_place s n at) (quantified_stands b s n l vs c at full h)

  parts_in : (b : Bounds) (s : Hlds) → IsFull b → ProgramIn b s → (n : ℕ) (ps : HldsGoals) (at : Place) (off pending height : ℕ) → PartsStand b s n ps at off height
      → CodeIn b (parts_code s n ps at off pending height) (parts_details s n ps at off pending height)
  parts_in b s full all n nothing at off p height h = no_code b
  parts_in b s full all n (also g gs) at off p height h =
      let place = conjunct_place s n g gs at off p height in
      let later = other_after off (leaves_table s n) in
      let q = pending_after s n p g in
      let above = height + heights_of s n g in
      both_in b (goal_code s n g place) (parts_code s (n + goal_size g) gs at later q above) (goal_details s n g place) (parts_details s (n + goal_size g) gs at later q above)
      (goal_in b s full all n g place (first_part b s n g gs at off p height full h)) (parts_in b s full all (n + goal_size g) gs at later q above (other_parts b s n g gs at off height full h))

  arms_in : (b : Bounds) (s : Hlds) → IsFull b → ProgramIn b s → (n k : ℕ) (ps : HldsGoals) (at : Place) (w : Option Switch) (pending height : ℕ) → PartsStand b s k ps at at.other height
      → CodeIn b (arms_code s n k ps at w pending height) (arms_details s n k ps at w pending height)
  arms_in b s full all n k nothing at w p height h = no_code b
  arms_in b s full all n k (also g gs) at w p height h =
      let place = arm_place s n k (k + goal_size g) gs at w p height in
      let q = pending_behind w p in
      let above = height + heights_of s k g in
      both_in b (goal_code s k g place) (arms_code s n (k + goal_size g) gs at w q above) (goal_details s k g place) (arms_details s n (k + goal_size g) gs at w q above)
      (goal_in b s full all k g place (first_arm b s n k g gs at w p height full h)) (arms_in b s full all n (k + goal_size g) gs at w q above (other_arms b s k g gs at height h))

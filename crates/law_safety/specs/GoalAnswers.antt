-- The number of answers of one goal by itself, and the arm that a switch takes.
use Rattle.std.specs.Prelude.{◌≡◌, ℕ, suc, ◌≤◌, Bool, false, List, [], Option, Some}
use Rattle.md_hlds.specs.HldsGoal.{HldsGoal, HldsGoals, Numbered, numbered_goal, numbered_from}
use Rattle.md_hlds.specs.Hlds.{Procedure, Hlds}
use Rattle.md_hlds.specs.Value.{Value, Env, value_at}
use Rattle.md_hlds.specs.Switch.{Key, switch_shape, arm_for}
use Rattle.md_hlds.specs.Trace.{Items, Frame, alone, trace}
use Rattle.md_hlds.specs.Run.{HasNoDeep, is_thrown}
use Rattle.md_inst.specs.Instantiation.{InstMap}
use Rattle.md_det.specs.declared.pair.Bound.TheVariants.{Zero, One}
use Rattle.md_det.specs.declared.pair.Pair.{Pair}
use Rattle.md_det.specs.declared.finding.Finding.{Finding}
use Rattle.md_det.specs.Determinism.{goal_pair}
use Rattle.md_det.specs.Findings.{expr_switch}
use Rattle.law_safety.specs.Answers.{answer_count}
use Rattle.law_safety.specs.Unfolding.{expr_in}
use Rattle.law_safety.specs.Known.{place, IsChosen}

-- ---- answers

-- as many answers as a pair says: at least one where it can't fail, at most one where its bound is one, none where it is zero
pub record AnswersAsPair (p : Pair) (xs : Items) : Type 0 where
  pub at_least_one : p.may_fail ≡ false → 1 ≤ answer_count xs
  pub at_most_one : p.bound ≡ One → answer_count xs ≤ 1
  pub none : p.bound ≡ Zero → answer_count xs ≡ 0

-- the goal of that number by itself, in this frame's environment and as its activation
abbrev pub goal_trace : Hlds → Frame → (n : ℕ) → HldsGoal → (depth next : ℕ) → Items
goal_trace s f n p depth next = trace s depth (alone f (numbered_goal n p)) [] next

-- that trace has as many answers as the pair says, where it is deep enough and isn't thrown
abbrev pub AnswersAt : Hlds → Frame → ℕ → HldsGoal → Pair → (depth next : ℕ) → Type 0
AnswersAt s f n p w depth next = HasNoDeep (goal_trace s f n p depth next) → is_thrown (goal_trace s f n p depth next) ≡ false → AnswersAsPair w (goal_trace s f n p depth next)

-- ---- arms

-- The disjunction of these arms, numbered from the number after its own, has in this environment an arm for the value of the
-- variable, and that arm begins with a key that the value has.
pub record TakesArm (s : Hlds) (e : Env) (x n : ℕ) (ps : HldsGoals) : Type 0 where
  pub keys : List Key
  pub shape : switch_shape s ps ≡ Some (x, keys)
  pub value : Value
  pub has_value : value_at e x ≡ Some value
  pub taken : Numbered
  pub takes : arm_for value keys (numbered_from (suc n) ps) ≡ Some taken
  pub chosen : IsChosen s (Some x) taken.goal e

-- ---- what the checks find

-- what the checks find at a goal where this is known before it and it begins an arm of the switch on that variable
abbrev pub found_at : Hlds → Procedure → Bool → Option ℕ → HldsGoal → InstMap → Finding
found_at s p strict at g kn = record { switch = expr_switch s (expr_in g) kn; pair = goal_pair (place s p strict) at g kn }

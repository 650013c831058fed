-- The goals of a vector inside a goal, as arms and as the parts of a conjunction.
use Rattle.std.proofs.Common.{◌≡◌, refl, ap, ◌∙◌, ℕ, suc, List, [], ◌∷◌, Option, Some, None, Vec, slice_get}
use Rattle.std.specs.declared.alloc.Global.{Global}
use Rattle.md_hlds.specs.declared.goal.Goal.{Goal}
use Rattle.md_hlds.specs.declared.goal.GoalKind.{Conj}
use Rattle.md_hlds.specs.HldsGoal.{At, ConjGoal, gathered, goal_of, goals_of, expr_of}
use Rattle.md_hlds.specs.Hlds.{Hlds}
use Rattle.md_hlds.specs.Switch.{Key}
use Rattle.md_switch.specs.Reading.{read_goal_key, read_arm_key}
use Rattle.md_hlds.proofs.Bridge.{expr_of-Conj}

-- the key of a conjunction of these goals, which has the number n
abbrev pub first_key : Hlds → ℕ → List Goal → Option (ℕ × Key)
first_key p n [] = None
first_key p n (g ∷ gs) = read_goal_key p (suc n) (goal_of g)

pub arm_key-Conj : (p : Hlds) (n : ℕ) (g : Goal) (v : Vec Goal Global) → g.kind ≡ Conj v → read_arm_key p n (goal_of g) ≡ first_key p n v.items
arm_key-Conj p n g v e = ap (λ k. read_arm_key p n (At g.line (expr_of k))) e ∙ (ap (λ t. read_arm_key p n (At g.line t)) (expr_of-Conj v) ∙ first v.items)
  where
    first : (gs : List Goal) → read_arm_key p n (At g.line (ConjGoal (gathered (goals_of gs)))) ≡ first_key p n gs
    first [] = refl
    first (h ∷ gs) = refl

pub no_first : (p : Hlds) (n : ℕ) (gs : List Goal) → None ≡ slice_get gs 0 → None ≡ first_key p n gs
no_first p n [] e = refl
no_first p n (g ∷ gs) e = absurd (cc)

pub from_first : (p : Hlds) (n m : ℕ) (gs : List Goal) (g : Goal) → m ≡ suc n → Some g ≡ slice_get gs 0 → read_goal_key p m (goal_of g) ≡ first_key p n gs
from_first p n m [] g at e = absurd (cc)
from_first p n m (h ∷ gs) g at e = let same : g ≡ h = cc in rw (at, same) refl

-- Conjunctions of one goal and of more, and the depth of goals.
use Rattle.std.proofs.Common.{◌≡◌, ◌≢◌, ℕ, zero, suc, ◌<◌, ◌-◌, List, [], ◌∷◌, length, get_or, refl, arith}
use Rattle.md_hlds.specs.declared.goal.Goal.{Goal}
use Rattle.md_hlds.specs.HldsGoal.{At, ConjGoal, gathered, goal_of, goals_of}
use Rattle.md_reader.specs.Input.{Input}
use Rattle.md_reader.specs.Rules.{joined, first_line, conjunction, conjunction_with, within}

pub joined_many : (gs : List Goal) → length gs ≢ 1 → joined (goals_of gs) ≡ At (first_line (goals_of gs)) (ConjGoal (gathered (goals_of gs)))
joined_many [] h = refl
joined_many (g ∷ []) h = absurd (h refl)
joined_many (g ∷ k ∷ gs) h = refl

pub joined_one : (gs : List Goal) (g : Goal) → length gs ≡ 1 → g ≡ get_or gs 0 g → goal_of g ≡ joined (goals_of gs)
joined_one [] g h e = absurd (omega arith)
joined_one (k ∷ []) g h e = rw e refl
joined_one (k ∷ l ∷ gs) g h e = absurd (omega arith)

pub conjunction_is : (room : ℕ) (i : Input) → conjunction room i ≡ conjunction_with room (within room) i
unfolding conjunction within
conjunction_is zero i = refl
conjunction_is (suc room) i = refl

pub within_is : (room : ℕ) (i : Input) → 0 < room → within room i ≡ conjunction (room - 1) i
unfolding within
within_is zero i h = absurd (omega arith)
within_is (suc room) i h = let e : suc room - 1 ≡ room = omega arith in rw e refl

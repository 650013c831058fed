-- What the table of goals that may leave choices has of a goal's parts, and what a disjunction that is a switch meets.
use Rattle.std.specs.Prelude.{◌≡◌, ℕ, suc, ◌+◌, List, Option, Some, None}
use Rattle.md_hlds.specs.HldsGoal.{GoalExpr, SimpleGoal, CallGoal, HoCallGoal, ConjGoal, DisjGoal, IfGoal, NotGoal, SomeGoal, HldsGoals, nothing, also, goal_size}
use Rattle.md_hlds.specs.Hlds.{Hlds}
use Rattle.md_hlds.specs.Value.{Value, Env, value_at}
use Rattle.md_hlds.specs.Switch.{Key, switch_shape}
use Rattle.md_det.specs.declared.finding.Switch.{Switch}
use Rattle.law_safety.specs.Unfolding.{switch_value}
use Rattle.md_code.specs.Leaves.{leaves, leaves_table}

-- the table has what these goals leave, the first of which has the number n
abbrev pub EachInTable : Hlds → ℕ → HldsGoals → Type 0
EachInTable s n nothing = Unit {0}
EachInTable s n (also p ps) = (leaves_table s n ≡ leaves s n p) × EachInTable s (n + goal_size p) ps

-- the table has what the parts of a goal leave, where its own is made of theirs
abbrev pub PartsInTable : Hlds → ℕ → GoalExpr → Type 0
PartsInTable s n (SimpleGoal g) = Unit {0}
PartsInTable s n (CallGoal site q ys) = Unit {0}
PartsInTable s n (HoCallGoal site f ys) = Unit {0}
PartsInTable s n (ConjGoal ps) = EachInTable s (suc n) ps
PartsInTable s n (DisjGoal ps) = EachInTable s (suc n) ps
PartsInTable s n (IfGoal c t e) =
    (leaves_table s (suc n + goal_size c) ≡ leaves s (suc n + goal_size c) t) × (leaves_table s (suc n + goal_size c + goal_size t) ≡ leaves s (suc n + goal_size c + goal_size t) e)
PartsInTable s n (NotGoal c) = Unit {0}
PartsInTable s n (SomeGoal vs c) = Unit {0}

-- ---- switches

-- In this environment a disjunction of these arms meets a value of the variable of the switch that it is; or, where it is
-- none, the arms are tried.
abbrev pub MeetsSwitch : Hlds → Env → HldsGoals → Option Switch → Type 0
MeetsSwitch s e ps None = switch_value (switch_shape s ps) e ≡ None
MeetsSwitch s e ps (Some w) = (keys : List Key) × (switch_shape s ps ≡ Some (w.var, keys)) × ((v : Value) × (value_at e w.var ≡ Some v))

-- The shape of a switch, read off what the names in goals stand for and how many goals each has, by the goals' numbers.
use Rattle.std.specs.Prelude.{ℕ, suc, ◌+◌, List, [], Option, Some, None, cond, length}
use Rattle.md_hlds.specs.declared.goal.Term.{Term}
use Rattle.md_hlds.specs.declared.goal.Term.TheVariants.{Var, Int, Str, Name}
use Rattle.md_hlds.specs.HldsGoal.{Unifies, HldsGoal, At, SimpleGoal, ConjGoal, HldsGoals, nothing, also}
use Rattle.md_hlds.specs.Hlds.{Hlds}
use Rattle.md_hlds.specs.Switch.{Key, IntKey, TextKey, FunctorKey, variable_key, prepend_key, if_different}
use Rattle.md_names.specs.declared.named.Named.{Named}
use Rattle.md_names.specs.Named.{is_functor_name, name_at}
use Rattle.md_modes.specs.Classes.{size_at}

-- the key of a term in which the name stands for this
abbrev pub named_key : Named → Term → Option Key
named_key m (Var y) = None
named_key m (Int n) = Some (IntKey n)
named_key m (Str bytes) = Some (TextKey bytes)
named_key m (Name q ys) = cond (is_functor_name m) (Some (FunctorKey q.name (length ys))) None

-- of the goal of the number n, and of the arm of that number
abbrev pub read_goal_key : Hlds → ℕ → HldsGoal → Option (ℕ × Key)
read_goal_key s n (At l (SimpleGoal (Unifies x t))) = variable_key x (named_key (name_at s n) t)
read_goal_key s n (At l t) = None

abbrev pub read_arm_key : Hlds → ℕ → HldsGoal → Option (ℕ × Key)
read_arm_key s n (At l (ConjGoal (also p ps))) = read_goal_key s (suc n) p
read_arm_key s n p = read_goal_key s n p

-- the keys of arms of which the first has the number n, where each arm has one and all are of the variable x
abbrev pub read_keys : Hlds → ℕ → ℕ → HldsGoals → Option (List Key)
read_keys s x n nothing = Some []
read_keys s x n (also p ps) = prepend_key x (read_arm_key s n p) (read_keys s x (n + size_at s n) ps)

abbrev pub read_on : Hlds → ℕ → Option (ℕ × Key) → HldsGoals → Option (ℕ × List Key)
read_on s n None ps = None
read_on s n (Some k) ps = if_different k.0 (read_keys s k.0 n ps)

-- the variable and the keys of a disjunction of these arms, of which the first has the number n
abbrev pub read_shape : Hlds → ℕ → HldsGoals → Option (ℕ × List Key)
read_shape s n nothing = None
read_shape s n (also p ps) = read_on s n (read_arm_key s n p) (also p ps)

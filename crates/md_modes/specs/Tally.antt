-- How often variables occur, as the code counts it.
use Rattle.std.specs.Prelude.{◌≡◌, ◌≢◌, ℕ, ◌+◌, ◌-◌, ◌<◌, ◌≤◌, Bool, ◌&&◌, nat_lt, nat_eq, List, [], ◌∷◌, length, slice_index, slice_set}
use Rattle.md_hlds.specs.HldsGoal.{GoalExpr, SimpleGoal, CallGoal, HoCallGoal}
use Rattle.md_inst.specs.Instantiation.{times}
use Rattle.md_modes.specs.Goals.{simple_variables}
use Rattle.md_modes.specs.Views.{Rising}

-- counts after these variables were counted besides
abbrev pub Adds : (before after vars : List ℕ) → Type 0
Adds before after vars = (x : ℕ) → slice_index after x ≡ slice_index before x + times x vars

-- the counts of these variables, as often as they occur
abbrev pub AreCounts : (counts vars : List ℕ) → Type 0
AreCounts counts vars = (x : ℕ) → slice_index counts x ≡ times x vars

-- the variables of a list, each once and in rising order, and how often they occur in it
pub record IsLocal (places counts vars : List ℕ) : Type 0 where
  pub rising : Rising 0 places
  pub room : length counts ≡ length places
  pub counted : (i : ℕ) → i < length places → slice_index counts i ≡ times (slice_index places i) vars
  pub all : (x : ℕ) → times x places ≡ 0 → times x vars ≡ 0
  pub only : (x : ℕ) → times x vars ≡ 0 → times x places ≡ 0

-- none of these numbers is greater
abbrev pub IsNoLess : ℕ → List ℕ → Type 0
IsNoLess x vars = (y : ℕ) → times y vars ≢ 0 → y ≤ x

-- the number is the last one of a list
abbrev pub ends_with : ℕ → List ℕ → Bool
ends_with x xs = nat_lt 0 (length xs) && nat_eq (slice_index xs (length xs - 1)) x

-- the count at the end; where there is none, 0
abbrev pub last_count : List ℕ → ℕ
last_count ns = slice_index ns (length ns - 1)

-- one more is counted at the end
abbrev pub count_last : List ℕ → List ℕ
count_last ns = slice_set ns (length ns - 1) (slice_index ns (length ns - 1) + 1)

-- by the counts of a clause, and by those of one of its goals with these variables, the variable at this place among them
-- occurs outside the goal
abbrev pub exceeds : (all places counts : List ℕ) → ℕ → Bool
exceeds all places counts i = nat_lt (slice_index counts i) (slice_index all (slice_index places i))

-- the variables of a goal that is no conjunction and no branch
abbrev pub atomic_variables : GoalExpr → List ℕ
atomic_variables (SimpleGoal g) = simple_variables g
atomic_variables (CallGoal site q ys) = ys
atomic_variables (HoCallGoal site f ys) = f ∷ ys
atomic_variables t = []

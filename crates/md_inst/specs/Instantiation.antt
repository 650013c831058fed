-- What is known of a clause's variables before or after a goal: which are bound, with which types, and which io states
-- have been used.
use Rattle.std.specs.Prelude.{ℕ, zero, suc, Bool, true, false, not, ◌&&◌, ◌||◌, List, [], ◌∷◌, Option, Some, None, cond, nat_eq, slice_get, slice_set}
use Rattle.md_hlds.specs.Hlds.{HldsType}
use Rattle.md_inst.specs.HldsTypes.{is_world}

pub data Instantiation : Type 0 where
  -- the variable isn't bound
  free : Instantiation
  -- it is bound with this type; an io state may have been used
  has : (t : HldsType) (used : Bool) → Instantiation

-- by the variables' places in the clause's table
abbrev pub InstMap : Type 0
InstMap = List Instantiation

abbrev pub or_free : Option Instantiation → Instantiation
or_free None = free
or_free (Some k) = k

abbrev pub known_at : InstMap → ℕ → Instantiation
known_at s x = or_free (slice_get s x)

abbrev pub put : InstMap → ℕ → Instantiation → InstMap
put s x k = slice_set s x k

-- so many variables, none of which is bound
abbrev pub nothing_known : ℕ → InstMap
nothing_known zero = []
nothing_known (suc n) = free ∷ nothing_known n

abbrev pub is_bound : Instantiation → Bool
is_bound free = false
is_bound (has t used) = true

-- the variable is free before and bound after
abbrev pub is_newly_bound : Instantiation → Instantiation → Bool
is_newly_bound before after = not (is_bound before) && is_bound after

-- an io state that is handed on is used; what else is handed on stays as it is
abbrev pub handed_on : Instantiation → Instantiation
handed_on free = free
handed_on (has t used) = has t (is_world t)

abbrev pub hand_on : ℕ → InstMap → InstMap
hand_on x s = put s x (handed_on (known_at s x))

-- some number below n has the property
abbrev pub some_below : ℕ → (ℕ → Bool) → Bool
some_below zero p = false
some_below (suc n) p = some_below n p || p n

-- how often a variable occurs in a list
abbrev pub times : ℕ → List ℕ → ℕ
times x [] = 0
times x (y ∷ ys) = cond (nat_eq x y) (suc (times x ys)) (times x ys)

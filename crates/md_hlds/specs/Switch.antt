-- The shape of a switch: a disjunction whose arms each begin with a unification of one variable with a functor or
-- constant, pairwise different. (Whether the variable is bound where the disjunction stands is no part of the shape.)
use Rattle.std.specs.Prelude.{ℕ, ℤ, Bool, true, false, not, ◌&&◌, ◌||◌, List, [], ◌∷◌, length, Option, Some, None, cond, nat_eq}
use Rattle.std.specs.Ordering.{int_eq}
use Rattle.std.specs.Str.{bytes_eq}
use Rattle.md_hlds.specs.declared.goal.Term.{Term}
use Rattle.md_hlds.specs.declared.goal.Term.TheVariants.{Var, Int, Str, Name}
use Rattle.md_hlds.specs.HldsGoal.{Unifies, HldsGoal, At, SimpleGoal, ConjGoal, HldsGoals, nothing, also, Numbered}
use Rattle.md_hlds.specs.Hlds.{Hlds, is_functor}
use Rattle.md_hlds.specs.Value.{Value, Number, Literal, Built, value_count}

-- what tells one arm from another
pub data Key : Type 0 where
  IntKey : (n : ℤ) → Key
  TextKey : (bytes : List ℕ) → Key
  FunctorKey : (name : List ℕ) (arity : ℕ) → Key

abbrev pub same_key : Key → Key → Bool
same_key (IntKey m) (IntKey n) = int_eq m n
same_key (TextKey a) (TextKey b) = bytes_eq a b
same_key (FunctorKey f m) (FunctorKey g n) = bytes_eq f g && nat_eq m n
same_key j k = false

-- the key that a unification with this term tests, if it is one with a functor or constant
abbrev pub term_key : Hlds → Term → Option Key
term_key s (Var y) = None
term_key s (Int n) = Some (IntKey n)
term_key s (Str bytes) = Some (TextKey bytes)
term_key s (Name q ys) = cond (is_functor s q (length ys)) (Some (FunctorKey q.name (length ys))) None

-- a variable and the key that it is tested for
abbrev pub variable_key : ℕ → Option Key → Option (ℕ × Key)
variable_key x None = None
variable_key x (Some k) = Some (x, k)

abbrev pub goal_key : Hlds → HldsGoal → Option (ℕ × Key)
goal_key s (At l (SimpleGoal (Unifies x t))) = variable_key x (term_key s t)
goal_key s (At l t) = None

-- of an arm: its first direct part decides, where it is a conjunction
abbrev pub arm_key : Hlds → HldsGoal → Option (ℕ × Key)
arm_key s (At l (ConjGoal (also p ps))) = goal_key s p
arm_key s p = goal_key s p

-- the arms' keys, where each arm has one and all are of the variable x
abbrev pub prepend_key : ℕ → Option (ℕ × Key) → Option (List Key) → Option (List Key)
prepend_key x (Some k) (Some ks) = cond (nat_eq x k.0) (Some (k.1 ∷ ks)) None
prepend_key x k ks = None

abbrev pub keys_of : Hlds → ℕ → HldsGoals → Option (List Key)
keys_of s x nothing = Some []
keys_of s x (also p ps) = prepend_key x (arm_key s p) (keys_of s x ps)

abbrev pub has_key : Key → List Key → Bool
has_key k [] = false
has_key k (j ∷ js) = same_key k j || has_key k js

abbrev pub all_different : List Key → Bool
all_different [] = true
all_different (k ∷ ks) = not (has_key k ks) && all_different ks

-- the keys again, where they are pairwise different
abbrev pub if_different : ℕ → Option (List Key) → Option (ℕ × List Key)
if_different x None = None
if_different x (Some ks) = cond (all_different ks) (Some (x, ks)) None

abbrev pub switch_on : Hlds → Option (ℕ × Key) → HldsGoals → Option (ℕ × List Key)
switch_on s None ps = None
switch_on s (Some k) ps = if_different k.0 (keys_of s k.0 ps)

-- the variable and the keys of a disjunction that has the shape of a switch
abbrev pub switch_shape : Hlds → HldsGoals → Option (ℕ × List Key)
switch_shape s nothing = None
switch_shape s (also p ps) = switch_on s (arm_key s p) (also p ps)

-- a value has the functor or constant of a key
abbrev pub has_the_key : Value → Key → Bool
has_the_key (Number m) (IntKey n) = int_eq m n
has_the_key (Literal a) (TextKey b) = bytes_eq a b
has_the_key (Built f parts) (FunctorKey g arity) = bytes_eq f g && nat_eq (value_count parts) arity
has_the_key v k = false

-- the arm whose key the value has, among numbered arms
abbrev pub arm_for : Value → List Key → List Numbered → Option Numbered
arm_for v (k ∷ ks) (p ∷ ps) = cond (has_the_key v k) (Some p) (arm_for v ks ps)
arm_for v ks ps = None

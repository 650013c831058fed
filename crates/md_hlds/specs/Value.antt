-- Values, how many pairs of nodes a comparison of two of them looks at, and environments.
use Rattle.std.specs.Prelude.{ℕ, suc, zero, ◌+◌, ℤ, Bool, true, false, ◌&&◌, List, [], ◌∷◌, Option, Some, None, cond, nat_eq, slice_get, slice_set}
use Rattle.std.specs.Ordering.{int_eq}
use Rattle.std.specs.Str.{bytes_eq}

mutual
  pub data Value : Type 0 where
    Number : (n : ℤ) → Value
    Literal : (bytes : List ℕ) → Value
    -- a functor's name and its values; a constant has none
    Built : (name : List ℕ) (parts : Values) → Value
    -- a procedure, and the values that it has captured
    Closure : (procedure : ℕ) (held : Values) → Value

  pub data Values : Type 0 where
    no_values : Values
    also_value : (v : Value) (vs : Values) → Values

abbrev pub listed_values : Values → List Value
listed_values no_values = []
listed_values (also_value v vs) = v ∷ listed_values vs

abbrev pub gathered_values : List Value → Values
gathered_values [] = no_values
gathered_values (v ∷ vs) = also_value v (gathered_values vs)

abbrev pub value_count : Values → ℕ
value_count no_values = 0
value_count (also_value v vs) = suc (value_count vs)

-- a comparison of two values: how many pairs of nodes it looks at, in preorder up to and including the first that
-- differs, and whether none differs
pub record Compared : Type 0 where
  pub pairs : ℕ
  pub equal : Bool

-- one pair of nodes, which is equal or not
abbrev pub one_pair : Bool → Compared
one_pair same = record { pairs = 1; equal = same }

-- what a pair of nodes and then the pairs below it come to
abbrev pub below_pair : Bool → Compared → Compared
below_pair same rest = cond same (record { pairs = suc rest.pairs; equal = rest.equal }) (one_pair false)

-- first one comparison and then, where it found no difference, another
abbrev pub then_compared : Compared → Compared → Compared
then_compared c rest = cond c.equal (record { pairs = c.pairs + rest.pairs; equal = rest.equal }) c

abbrev mutual
  pub compared : Value → Value → Compared
  compared (Number m) (Number n) = one_pair (int_eq m n)
  compared (Literal a) (Literal b) = one_pair (bytes_eq a b)
  compared (Built f xs) (Built g ys) = below_pair (bytes_eq f g && nat_eq (value_count xs) (value_count ys)) (all_compared xs ys)
  compared (Closure p xs) (Closure q ys) = below_pair (nat_eq p q && nat_eq (value_count xs) (value_count ys)) (all_compared xs ys)
  compared v w = one_pair false

  pub all_compared : Values → Values → Compared
  all_compared (also_value v vs) (also_value w ws) = then_compared (compared v w) (all_compared vs ws)
  all_compared vs ws = record { pairs = 0; equal = true }

-- the values of a clause's variables, by their places; a place past the end has none
abbrev pub Env : Type 0
Env = List (Option Value)

abbrev pub known : Option (Option Value) → Option Value
known None = None
known (Some v) = v

abbrev pub value_at : Env → ℕ → Option Value
value_at e x = known (slice_get e x)

-- the environment with this value at that place
abbrev pub bound : Env → ℕ → Value → Env
bound e x v = slice_set e x (Some v)

-- an environment for so many variables, none of which has a value
abbrev pub blank : ℕ → Env
blank zero = []
blank (suc n) = None ∷ blank n

-- the values of these variables, where each has one
abbrev pub prepend_value : Option Value → Option (List Value) → Option (List Value)
prepend_value (Some v) (Some vs) = Some (v ∷ vs)
prepend_value v vs = None

abbrev pub values_at : Env → List ℕ → Option (List Value)
values_at e [] = Some []
values_at e (y ∷ ys) = prepend_value (value_at e y) (values_at e ys)

-- Bounds on how many solutions a goal has.
use Rattle.std.specs.Prelude.{Bool, true, false}
use Rattle.md_det.specs.declared.pair.Bound.{Bound}
use Rattle.md_det.specs.declared.pair.Bound.TheVariants.{Zero, One, Many}

-- of two goals in turn: with no solution of either there is none, and many of one are many
abbrev pub product : Bound → Bound → Bound
product Zero b = Zero
product One b = b
product Many Zero = Zero
product Many One = Many
product Many Many = Many

-- of two goals that are tried one after the other
abbrev pub sum : Bound → Bound → Bound
sum Zero b = b
sum One Zero = One
sum One One = Many
sum One Many = Many
sum Many b = Many

-- one bound is greater than another
abbrev pub exceeds : Bound → Bound → Bool
exceeds Many Many = false
exceeds Many b = true
exceeds One Zero = true
exceeds a b = false

-- of two goals of which only one runs
abbrev pub greatest : Bound → Bound → Bound
greatest Zero b = b
greatest One Zero = One
greatest One One = One
greatest One Many = Many
greatest Many b = Many

-- of a goal that is cut at its first solution
abbrev pub at_most_one : Bound → Bound
at_most_one Zero = Zero
at_most_one One = One
at_most_one Many = One

abbrev pub is_many : Bound → Bool
is_many Many = true
is_many b = false

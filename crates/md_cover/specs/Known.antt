-- What is known of quantities, as the code keeps it, and what an equation settles.
use Rattle.std.specs.Prelude.{◌≡◌, ℕ, ◌+◌, ◌-◌, Bool, false, ◌||◌, cond, List, [], ◌∷◌, length, min, replicate, Option, Some, None, nat_lt, slice_get, slice_set}
use Rattle.md_cover.specs.declared.equation.Quantity.{Quantity}
use Rattle.md_cover.specs.declared.equation.Quantity.TheVariants.{Entries, Exits}
use Rattle.md_cover.specs.declared.equation.Equation.{Equation}
use Rattle.md_cover.specs.declared.solving.Known.{Known}
use Rattle.md_cover.specs.declared.solving.Unknown.{Unknown}
use Rattle.md_cover.specs.declared.solving.Unknown.TheVariants.{Nothing, One, More}
use Rattle.md_cover.specs.declared.solving.Open.{Open}
use Rattle.md_cover.specs.declared.solving.Settled.{Settled}

abbrev pub flat : Option (Option ℕ) → Option ℕ
flat None = None
flat (Some o) = o

abbrev pub value_at : List (Option ℕ) → ℕ → Option ℕ
value_at xs n = flat (slice_get xs n)

-- ---- values of goals, the first of which is that of the goal of number `first`

abbrev pub value_from : (first : ℕ) → List (Option ℕ) → (goal : ℕ) → Option ℕ
value_from first xs n = cond (nat_lt n first) None (value_at xs (n - first))

abbrev pub has_place : (first count goal : ℕ) → Bool
has_place first count n = cond (nat_lt n first) false (nat_lt (n - first) count)

abbrev pub put_from : (first : ℕ) → List (Option ℕ) → (goal value : ℕ) → List (Option ℕ)
put_from first xs n v = cond (nat_lt n first) xs (slice_set xs (n - first) (Some v))

-- what is known of goals in a row, by their numbers from `first` on
pub record Table : Type 0 where
  pub first : ℕ
  pub entries : List (Option ℕ)
  pub exits : List (Option ℕ)

abbrev pub table_of : Known → Table
table_of k = record { first = k.first; entries = k.entries.items; exits = k.exits.items }

-- nothing is known of so many goals
abbrev pub nothing_known : (first count : ℕ) → Table
nothing_known first count = record { first = first; entries = replicate count None; exits = replicate count None }

abbrev pub know : Table → Quantity → Option ℕ
know t (Entries n) = value_from t.first t.entries n
know t (Exits n) = value_from t.first t.exits n

abbrev pub has : Table → Quantity → Bool
has t (Entries n) = has_place t.first (length t.entries) n
has t (Exits n) = has_place t.first (length t.exits) n

abbrev pub or_zero : Option ℕ → ℕ
or_zero None = 0
or_zero (Some n) = n

abbrev pub unknown_and : Unknown → Option ℕ → Quantity → Unknown
unknown_and u (Some n) q = u
unknown_and Nothing None q = One q
unknown_and (One p) None q = More
unknown_and More None q = More

-- a sum of 64 bits stands still at its end
abbrev pub open_from : (Quantity → Option ℕ) → ℕ → Unknown → List Quantity → Open
open_from k sum unknown [] = record { sum = sum; unknown = unknown }
open_from k sum unknown (q ∷ qs) = open_from k (min (sum + or_zero (k q)) 18446744073709551615) (unknown_and unknown (k q) q) qs

abbrev pub open_of : (Quantity → Option ℕ) → ℕ → List Quantity → Open
open_of k number qs = open_from k number Nothing qs

abbrev pub settled_by : Quantity → ℕ → Option ℕ → Unknown → Option Settled
settled_by whole sum None Nothing = Some (record { quantity = whole; value = sum })
settled_by whole sum (Some n) (One q) = Some (record { quantity = q; value = n - sum })
settled_by whole sum o u = None

abbrev pub settled_of : (Quantity → Option ℕ) → Equation → Option Settled
settled_of k e = settled_by e.whole (open_of k e.number e.parts.items).sum (k e.whole) (open_of k e.number e.parts.items).unknown

-- ---- taking down what is settled

abbrev pub put_at : Table → Quantity → ℕ → Table
put_at t (Entries n) v = record { first = t.first; entries = put_from t.first t.entries n v; exits = t.exits }
put_at t (Exits n) v = record { first = t.first; entries = t.entries; exits = put_from t.first t.exits n v }

abbrev pub put : Table → Settled → Table
put t s = put_at t s.quantity s.value

abbrev pub step_by : Table → Option Settled → Table
step_by t None = t
step_by t (Some s) = put t s

abbrev pub step : Table → Equation → Table
step t e = step_by t (settled_of (know t) e)

abbrev pub changes_by : Table → Option Settled → Bool
changes_by t None = false
changes_by t (Some s) = has t s.quantity

abbrev pub changes_at : Table → Equation → Bool
changes_at t e = changes_by t (settled_of (know t) e)

abbrev pub round_of : Table → List Equation → Table
round_of t [] = t
round_of t (e ∷ es) = round_of (step t e) es

abbrev pub changes : Table → List Equation → Bool
changes t [] = false
changes t (e ∷ es) = changes_at t e || changes (step t e) es

-- a round from the last equation to the first
abbrev pub back_of : Table → List Equation → Table
back_of t [] = t
back_of t (e ∷ es) = step (back_of t es) e

-- rounds from one table to another, forward and back in turn, up to one in which nothing changes
pub data Rounds (es : List Equation) : Table → Table → Type 0 where
  last : (t : Table) → changes t es ≡ false → Rounds es t (round_of t es)
  more : (t u : Table) → Rounds es (back_of (round_of t es) es) u → Rounds es t u

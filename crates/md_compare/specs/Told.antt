-- Which names have a row.
use Rattle.std.specs.Prelude.{ℕ, ◌≡◌, ◌*◌, ◌&&◌, nat_le, nat_lt, not, is_some, Bool, List, length, map}
use Rattle.std.specs.List.{range_with_len}
use Rattle.md_base.specs.declared.measure.Measure.{Measure}
use Rattle.md_cost.specs.View.{View}
use Rattle.md_people.specs.Compare.{difference}
use Rattle.md_people.specs.Words.{full_name}
use Rattle.md_static.specs.Tables.{Static}
use Rattle.md_compare.specs.Cost.{cost_named, difference_of}
use Rattle.md_compare.specs.Named.{cost_at}
use Rattle.md_compare.specs.declared.told.Both.{Both}
use Rattle.md_compare.specs.declared.told.Margin.{Margin}
use Rattle.md_compare.specs.declared.told.Told.{Told}

-- the full names of the procedures of a program, by number
abbrev pub names_in : Static → List (List ℕ)
names_in s = map (full_name s) (range_with_len 0 (length s.procs))

-- how far the costs of a name are apart
abbrev pub difference_in : Both → (name : List ℕ) → ℕ
difference_in both name = difference_of (cost_at both.old name) (cost_at both.new name)

-- a difference of at least so many thousandths of the whole, and of at least 1
abbrev pub is_passed : Margin → (difference : ℕ) → Bool
is_passed margin d = nat_le (margin.least * margin.whole) (1000 * d) && nat_lt 0 d

abbrev pub is_told_in : Both → Margin → (name : List ℕ) → Bool
is_told_in both margin name = is_passed margin (difference_in both name)

-- a name that the old profile doesn't have
abbrev pub is_new_in : Both → (name : List ℕ) → Bool
is_new_in both name = not (is_some (cost_at both.old name))

abbrev pub name_in : Told → List ℕ
name_in told = told.name.items

-- an entry has what is kept under its name
pub record IsToldBy (both : Both) (told : Told) : Type 0 where
  pub apart : told.difference.0 ≡ difference_in both told.name.items
  pub old : told.old ≡ cost_at both.old told.name.items
  pub new : told.new ≡ cost_at both.new told.name.items

-- an entry has what its name costs in two profiles
pub record IsToldOf (v w : View) (by : Measure) (told : Told) : Type 0 where
  pub apart : told.difference.0 ≡ difference v w by told.name.items
  pub old : told.old ≡ cost_named v by told.name.items
  pub new : told.new ≡ cost_named w by told.name.items

-- What is found at the goals, as the code has it.
use Rattle.std.specs.Prelude.{ℕ, ◌<◌, Bool, false, List, [], ◌∷◌, length, Option, Some, None, slice_get}
use Rattle.md_hlds.specs.declared.types.Ty.TheVariants.{Ho}
use Rattle.md_hlds.specs.HldsGoal.{HldsGoal, goal_size}
use Rattle.md_hlds.specs.Hlds.{hlds_type_of, Hlds, goal_at, goals_before}
use Rattle.md_names.specs.declared.named.Named.{Named}
use Rattle.md_names.specs.declared.named.Named.TheVariants.{Nothing}
use Rattle.md_modes.specs.declared.class.Class.{Class}
use Rattle.md_modes.specs.declared.class.Class.TheVariants as class
use Rattle.md_modes.specs.declared.class.Note as code
use Rattle.md_modes.specs.Notes.{Role, constructs, closes, takes_apart, assigns, tests, applies, Note}

abbrev pub role_told : Class → Role
role_told class.Construct = constructs
role_told class.Close = closes
role_told (class.Deconstruct bound) = takes_apart bound.items
role_told (class.Assign to) = assigns to
role_told class.Test = tests
role_told (class.Closure h) = applies (hlds_type_of (Ho h))

abbrev pub class_told : Option Class → Option Role
class_told None = None
class_told (Some c) = Some (role_told c)

abbrev pub note_told : code.Note → Note
note_told n = record {
  role = class_told n.class;
  binds = n.binds.items;
  state = n.names_io;
  named = n.named;
  size = n.size;
  outside = n.binds_outside;
}

abbrev pub notes_told : List code.Note → List Note
notes_told [] = []
notes_told (n ∷ ns) = note_told n ∷ notes_told ns

-- ---- what is found at the goal of a number

abbrev pub role_of_note : Option Note → Option Role
role_of_note None = None
role_of_note (Some n) = n.role

abbrev pub role_at : List Note → ℕ → Option Role
role_at ns n = role_of_note (slice_get ns n)

abbrev pub binds_of_note : Option Note → List ℕ
binds_of_note None = []
binds_of_note (Some n) = n.binds

abbrev pub binds_at : List Note → ℕ → List ℕ
binds_at ns n = binds_of_note (slice_get ns n)

abbrev pub state_of_note : Option Note → Bool
state_of_note None = false
state_of_note (Some n) = n.state

abbrev pub state_at : List Note → ℕ → Bool
state_at ns n = state_of_note (slice_get ns n)

abbrev pub name_of_note : Option Note → Named
name_of_note None = Nothing
name_of_note (Some n) = n.named

abbrev pub named_at : List Note → ℕ → Named
named_at ns n = name_of_note (slice_get ns n)

abbrev pub size_of_note : Option Note → ℕ
size_of_note None = 0
size_of_note (Some n) = n.size

abbrev pub noted_size : List Note → ℕ → ℕ
noted_size ns n = size_of_note (slice_get ns n)

abbrev pub outside_of_note : Option Note → Bool
outside_of_note None = false
outside_of_note (Some n) = n.outside

abbrev pub outside_at : List Note → ℕ → Bool
outside_at ns n = outside_of_note (slice_get ns n)

-- ---- the goals of a program by their numbers

abbrev pub size_of : Option HldsGoal → ℕ
size_of None = 0
size_of (Some p) = goal_size p

-- how many goals the goal of this number has, itself among them
abbrev pub size_at : Hlds → ℕ → ℕ
size_at s n = size_of (goal_at s n)

-- a program has fewer goals than the greatest number of 32 bits
abbrev pub AreFew : Hlds → Type 0
AreFew s = goals_before s.procedures (length s.procedures) < 4294967295

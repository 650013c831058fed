-- What two arms of a branch know of one variable.
use Rattle.std.specs.Prelude.{Bool, true, false, ◌||◌}
use Rattle.md_inst.specs.HldsTypes.{same_sort}
use Rattle.md_inst.specs.Instantiation.{Instantiation, free, has}

-- one arm binds a variable and another doesn't
abbrev pub disagree : Instantiation → Instantiation → Bool
disagree (has t used) free = true
disagree free (has t used) = true
disagree k j = false

-- what two arms have in common at a variable: an io state is used where either uses it
abbrev pub common : Instantiation → Instantiation → Instantiation
common (has t used) (has u spent) = has t (used || spent)
common k j = free

-- two arms bind a variable with one type
abbrev pub is_alike : Instantiation → Instantiation → Bool
is_alike (has t used) (has u spent) = same_sort t u
is_alike k j = true

-- Two profiles compared, procedure by procedure. Procedures are joined by their full names, which differ within a program.
use Rattle.std.specs.Prelude.{ℕ, ◌+◌, ◌-◌, ◌*◌, ◌==◌, ◌&&◌, ◌||◌, nat_eq, nat_le, nat_lt, max, not, Bool, List, [], ◌∷◌, ◌++◌, length, map, Option, Some, None, codes, if◌then◌else◌, unwrap_or}
use Rattle.std.specs.List.{filter, list_any, range_with_len}
use Rattle.std.specs.Fmt.{decimal}
use Rattle.std.specs.Option.{option_map}
use Rattle.std.specs.Ordering.{is_lt, nat_cmp}
use Rattle.std.specs.Cmp.Lexicographic.{pointwise, slice_cmp}
use Rattle.md_base.specs.declared.measure.Measure.{Measure}
use Rattle.md_cost.specs.View.{View, OfProcedure}
use Rattle.md_table.specs.Cells.{change_words, share_words}
use Rattle.md_table.specs.Table.{LineCells, TableCells}
use Rattle.md_people.specs.Costs.{line_of}
use Rattle.md_people.specs.Counts.{own_counts, total_counts, whole_of}
use Rattle.md_people.specs.Words.{full_name, proc_named}

-- ---- names

abbrev pub same_name : List ℕ → List ℕ → Bool
same_name name other = pointwise nat_eq name other

-- the full names of the procedures of a profile, by number
abbrev pub names_of : View → List (List ℕ)
names_of v = map (full_name v.statics) (range_with_len 0 (length v.statics.procs))

-- each name that one of the two profiles has: those of the old one, and those that the new one alone has
abbrev pub all_names : (old new : View) → List (List ℕ)
all_names old new = names_of old ++ filter (λ name. not (list_any (same_name name) (names_of old))) (names_of new)

-- ---- numbers

-- the own count and the total of the procedure of a name, where there is one
abbrev pub own_named : View → Measure → (name : List ℕ) → Option ℕ
own_named v by name = option_map (λ q. own_counts v (OfProcedure q) by) (proc_named v.statics name)

abbrev pub total_named : View → Measure → (name : List ℕ) → Option ℕ
total_named v by name = option_map (λ q. total_counts v (OfProcedure q) by) (proc_named v.statics name)

-- how far two counts are apart, whichever is the greater. What isn't there counts as 0
abbrev pub apart : Option ℕ → Option ℕ → ℕ
apart a b = (unwrap_or a 0 - unwrap_or b 0) + (unwrap_or b 0 - unwrap_or a 0)

-- the greater difference of a name, that of own counts or that of totals
abbrev pub difference : (old new : View) → Measure → (name : List ℕ) → ℕ
difference old new by name = max (apart (own_named old by name) (own_named new by name)) (apart (total_named old by name) (total_named new by name))

-- ---- rows

-- it is at least so many thousandths of the old whole, and at least 1
abbrev pub is_told : (old new : View) → Measure → (least : ℕ) → (name : List ℕ) → Bool
is_told old new by least name = nat_le (least * whole_of old by) (1000 * difference old new by name) && nat_lt 0 (difference old new by name)

-- the greater difference comes first, and of equal ones the name that is lower by its bytes
abbrev pub precedes : (old new : View) → Measure → (name other : List ℕ) → Bool
precedes old new by name other =
    nat_lt (difference old new by other) (difference old new by name) || ((difference old new by name == difference old new by other) && is_lt (slice_cmp nat_cmp name other))

-- a name put before the first of these that it precedes
abbrev pub named_with : (old new : View) → Measure → List ℕ → List (List ℕ) → List (List ℕ)
named_with old new by name [] = name ∷ []
named_with old new by name (other ∷ names) = if precedes old new by name other then name ∷ other ∷ names else other ∷ named_with old new by name names

abbrev pub names_in_order : (old new : View) → Measure → List (List ℕ) → List (List ℕ)
names_in_order old new by [] = []
names_in_order old new by (name ∷ names) = named_with old new by name (names_in_order old new by names)

abbrev pub told_names : (old new : View) → Measure → (least : ℕ) → List (List ℕ)
told_names old new by least = names_in_order old new by (filter (is_told old new by least) (all_names old new))

-- a count, or that there is no such procedure
abbrev pub count_words : Option ℕ → List ℕ
count_words None = codes "-"
count_words (Some n) = decimal n

-- two counts, and how much more is new than old
abbrev pub both_cells : (old new : Option ℕ) → List (List ℕ)
both_cells old new = count_words old ∷ count_words new ∷ change_words (unwrap_or old 0) (unwrap_or new 0) ∷ []

abbrev pub compared_line : (whole difference : ℕ) (own_old own_new total_old total_new : Option ℕ) (name : List ℕ) → LineCells
compared_line whole d own_old own_new total_old total_new name = line_of (both_cells own_old own_new ++ (both_cells total_old total_new ++ share_words d whole ∷ [])) name

-- the row of the whole
abbrev pub whole_row : (old new : View) → Measure → LineCells
whole_row old new by =
    compared_line (whole_of old by) (apart (Some (whole_of old by)) (Some (whole_of new by)))
    (Some (whole_of old by)) (Some (whole_of new by)) (Some (whole_of old by)) (Some (whole_of new by)) (codes "all")

abbrev pub name_row : (old new : View) → Measure → (name : List ℕ) → LineCells
name_row old new by name =
    compared_line (whole_of old by) (difference old new by name)
    (own_named old by name) (own_named new by name) (total_named old by name) (total_named new by name) name

abbrev pub compare_heading : LineCells
compare_heading = line_of (codes "old own" ∷ codes "new own" ∷ codes "change" ∷ codes "old total" ∷ codes "new total" ∷ codes "change" ∷ codes "%" ∷ []) (codes "procedure")

abbrev pub compare_table : (old new : View) → Measure → (least : ℕ) → TableCells
compare_table old new by least = record { heading = compare_heading; rows = whole_row old new by ∷ map (name_row old new by) (told_names old new by least) }

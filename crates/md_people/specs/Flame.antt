-- The text of a flame graph: a line for each context with own counts, which names its stations from clique 0 on.
use Rattle.std.specs.Prelude.{ℕ, ◌-◌, ◌==◌, nat_le, not, List, [], ◌∷◌, ◌++◌, length, map, take, drop, codes, if◌then◌else◌}
use Rattle.std.specs.List.{filter, flat_map, range_with_len}
use Rattle.std.specs.Fmt.{decimal}
use Rattle.md_base.specs.declared.measure.Measure.{Measure}
use Rattle.md_cost.specs.View.{View, OfContext}
use Rattle.md_people.specs.Context.{stations}
use Rattle.md_people.specs.Counts.{own_counts}
use Rattle.md_people.specs.Words.{full_name, proc_at}

-- names one after the other, with `;` between them
abbrev pub joined_from : (name : List ℕ) (names : List (List ℕ)) → List ℕ
joined_from name [] = name
joined_from name (next ∷ names) = name ++ (codes ";" ++ joined_from next names)

abbrev pub joined : List (List ℕ) → List ℕ
joined [] = []
joined (name ∷ names) = joined_from name names

-- what stands before a name, by its place
abbrev pub between : (place : ℕ) → List ℕ
between place = if place == 0 then [] else codes ";"

-- of more than 200 names the first 100 and the last 100, with `..` between them
abbrev pub shortened : List (List ℕ) → List (List ℕ)
shortened names = if nat_le (length names) 200 then names else take 100 names ++ codes ".." ∷ drop (length names - 100) names

-- the name of a context's procedure
abbrev pub name_at : View → ℕ → List ℕ
name_at v d = full_name v.statics (proc_at v d)

-- the names of the stations of a context, from clique 0 on
abbrev pub station_names : View → ℕ → List (List ℕ)
station_names v c = map (name_at v) (stations v c)

-- the contexts with own counts, in rising order
abbrev pub burning : View → Measure → List ℕ
burning v by = filter (λ c. not (own_counts v (OfContext c) by == 0)) (range_with_len 0 (length v.nodes))

abbrev pub flame_line : View → Measure → ℕ → List ℕ
flame_line v by c = joined (shortened (station_names v c)) ++ (codes " " ++ (decimal (own_counts v (OfContext c) by) ++ codes "\n"))

abbrev pub flame_text : View → Measure → List ℕ
flame_text v by = flat_map (flame_line v by) (burning v by)

-- the line of a context, where it has one
abbrev pub flame_of : View → Measure → ℕ → List ℕ
flame_of v by c = if own_counts v (OfContext c) by == 0 then [] else flame_line v by c

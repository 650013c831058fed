-- What a procedure costs by a measure: its own count and its total.
use Rattle.std.specs.Prelude.{ℕ, max, List, Option}
use Rattle.std.specs.Option.{option_map}
use Rattle.md_base.specs.declared.measure.Measure.{Measure}
use Rattle.md_cost.specs.View.{View, OfProcedure}
use Rattle.md_people.specs.Compare.{apart}
use Rattle.md_people.specs.Counts.{own_counts, total_counts}
use Rattle.md_people.specs.Words.{proc_named}
use Rattle.md_compare.specs.declared.cost.Cost.{Cost}

abbrev pub cost_of : View → Measure → (procedure : ℕ) → Cost
cost_of v by q = record { own = own_counts v (OfProcedure q) by; total = total_counts v (OfProcedure q) by }

-- what the procedure of a name costs, if one has it
abbrev pub cost_named : View → Measure → (name : List ℕ) → Option Cost
cost_named v by name = option_map (cost_of v by) (proc_named v.statics name)

abbrev pub own_in : Option Cost → Option ℕ
own_in cost = option_map (λ c. c.own) cost

abbrev pub total_in : Option Cost → Option ℕ
total_in cost = option_map (λ c. c.total) cost

-- the greater difference, that of own counts or that of totals
abbrev pub difference_of : Option Cost → Option Cost → ℕ
difference_of old new = max (apart (own_in old) (own_in new)) (apart (total_in old) (total_in new))

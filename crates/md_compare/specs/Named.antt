-- What procedures cost, by their full names.
use Rattle.std.specs.Prelude.{ℕ, ◌≡◌, List, Option, Vec}
use Rattle.std.specs.BTreeMap.{BTreeMap, get_by}
use Rattle.std.specs.Cmp.Lexicographic.{slice_cmp}
use Rattle.std.specs.Ordering.{nat_cmp}
use Rattle.std.specs.declared.alloc.Global.{Global}
use Rattle.md_base.specs.declared.measure.Measure.{Measure}
use Rattle.md_cost.specs.View.{View}
use Rattle.md_compare.specs.Cost.{cost_named}
use Rattle.md_compare.specs.declared.cost.Cost.{Cost}

-- what is kept under a name
abbrev pub cost_at : BTreeMap (Vec ℕ Global) Cost → (name : List ℕ) → Option Cost
cost_at costs name = get_by (λ key. slice_cmp nat_cmp name key.items) costs

-- under each name there is what the procedure of the name costs
abbrev pub AreCostsOf : View → Measure → BTreeMap (Vec ℕ Global) Cost → Type 0
AreCostsOf v by costs = (name : List ℕ) → cost_at costs name ≡ cost_named v by name

use Rattle.std.proofs.Common.{◌≡◌, ◌∷◌, codes}
use Rattle.std.specs.List.{flat_map, range_with_len}
use Rattle.md_cost.specs.FileView.{IsFileView}
use Rattle.md_cost.specs.View.{View}
use Rattle.md_people.specs.Costs.{costs_heading}
use Rattle.md_people.specs.Find.{module_rows}
use Rattle.md_people.proofs.find.found_modules_table.Given as goal

abbrev pub invariant-loop-id : goal.invariant-loop-id
invariant-loop-id l = (v : View) → IsFileView l.loaded.profile v → l.rows.ended ≡ costs_heading l.by (codes "module") ∷ flat_map (module_rows v l.by l.text) (range_with_len 0 l.id)

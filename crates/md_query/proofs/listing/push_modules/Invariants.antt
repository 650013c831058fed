use Rattle.std.proofs.Common.{◌≡◌, ◌++◌, map}
use Rattle.std.specs.List.{range_with_len}
use Rattle.md_cost.specs.FileView.{IsFileView}
use Rattle.md_cost.specs.View.{View}
use Rattle.md_query.specs.PageOf.{module_row}
use Rattle.md_query.proofs.listing.push_modules.Given as goal

abbrev pub invariant-loop-id : goal.invariant-loop-id
invariant-loop-id l = (v : View) → IsFileView l.loaded.profile v → l.rows.items ≡ l.fn.rows.items ++ map (module_row v) (range_with_len 0 l.id)

use Rattle.std.proofs.Common.{◌≡◌, ◌++◌, map, take}
use Rattle.md_cost.specs.FileView.{IsFileView}
use Rattle.md_cost.specs.View.{View}
use Rattle.md_query.specs.PageOf.{site_row}
use Rattle.md_query.proofs.listing.push_sites.Given as goal

abbrev pub invariant-loop-id : goal.invariant-loop-id
invariant-loop-id l = (v : View) → IsFileView l.loaded.profile v → l.rows.items ≡ l.fn.rows.items ++ map (site_row v) (take l.id-index l.ids)

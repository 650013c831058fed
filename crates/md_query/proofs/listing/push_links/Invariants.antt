use Rattle.std.proofs.Common.{◌≡◌, ◌++◌, map, take}
use Rattle.md_cost.specs.FileView.{IsFileView}
use Rattle.md_cost.specs.View.{View}
use Rattle.md_query.specs.PageOf.{link_row}
use Rattle.md_query.proofs.listing.push_links.Given as goal

abbrev pub invariant-loop-link : goal.invariant-loop-link
invariant-loop-link l = (v : View) → IsFileView l.loaded.profile v → l.rows.items ≡ l.fn.rows.items ++ map (link_row v) (take l.link-index l.links)

use Rattle.std.proofs.Common.{◌≡◌, ◌++◌, None, codes}
use Rattle.std.specs.List.{flat_map, range_with_len}
use Rattle.md_cost.specs.FileView.{IsFileView}
use Rattle.md_cost.specs.View.{View}
use Rattle.md_people.specs.Callers.{caller_rows_at, links_to, row_if_any}
use Rattle.md_people.proofs.caller.caller_rows.Given as goal

-- the row of the root, and those of the sites so far
abbrev pub invariant-loop-site : goal.invariant-loop-site
invariant-loop-site l = (v : View) → IsFileView l.loaded.profile v → l.rows.items ≡ row_if_any v l.fn.by (links_to v l.fn.id None) (codes "root") ++ flat_map (caller_rows_at v l.fn.by l.fn.id) (range_with_len 0 l.site)

use Rattle.std.proofs.Common.{◌≡◌, map, take}
use Rattle.md_cost.specs.FileView.{IsFileView}
use Rattle.md_cost.specs.View.{View}
use Rattle.md_people.specs.Context.{callee_row}
use Rattle.md_people.proofs.callee.callee_rows.Given as goal

-- the rows of the links so far
abbrev pub invariant-loop-place : goal.invariant-loop-place
invariant-loop-place l = (v : View) → IsFileView l.loaded.profile v → l.rows.items ≡ map (callee_row v l.by) (take l.place l.links)

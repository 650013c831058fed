use Rattle.std.proofs.Common.{◌≡◌, ◌++◌, map, take}
use Rattle.md_cost.specs.FileView.{IsFileView}
use Rattle.md_cost.specs.View.{View}
use Rattle.md_people.specs.Hot.{proc_line}
use Rattle.md_people.proofs.hot.push_procs.Given as goal

abbrev pub invariant-loop-id : goal.invariant-loop-id
invariant-loop-id l = (v : View) → IsFileView l.loaded.profile v → l.rows.ended ≡ l.fn.rows.ended ++ map (proc_line v l.by) (take l.id-index l.ids)

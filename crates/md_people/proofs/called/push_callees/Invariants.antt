use Rattle.std.proofs.Common.{◌≡◌, ◌++◌}
use Rattle.std.specs.List.{flat_map, range_with_len}
use Rattle.md_cost.specs.FileView.{IsFileView}
use Rattle.md_cost.specs.View.{View}
use Rattle.md_people.specs.Callers.{callee_rows_at}
use Rattle.md_people.proofs.called.push_callees.Given as goal

-- the rows of the procedures so far
abbrev pub invariant-loop-proc : goal.invariant-loop-proc
invariant-loop-proc l = (v : View) → IsFileView l.loaded.profile v → l.rows.items ≡ l.fn.rows.items ++ flat_map (callee_rows_at v l.fn.by l.site) (range_with_len 0 l.proc)

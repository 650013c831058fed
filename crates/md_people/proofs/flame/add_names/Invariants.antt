use Rattle.std.proofs.Common.{◌≡◌, ◌++◌, map, take}
use Rattle.md_cost.specs.FileView.{IsFileView}
use Rattle.md_cost.specs.View.{View}
use Rattle.md_people.specs.Flame.{joined, name_at}
use Rattle.md_people.proofs.flame.add_names.Given as goal

-- the names so far
abbrev pub invariant-loop-place : goal.invariant-loop-place
invariant-loop-place l = (v : View) → IsFileView l.loaded.profile v → l.out.items ≡ l.fn.out.items ++ joined (map (name_at v) (take l.place l.nodes))

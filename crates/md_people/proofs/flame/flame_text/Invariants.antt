use Rattle.std.proofs.Common.{◌≡◌}
use Rattle.std.specs.List.{flat_map, range_with_len}
use Rattle.md_cost.specs.FileView.{IsFileView}
use Rattle.md_cost.specs.View.{View}
use Rattle.md_people.specs.Flame.{flame_of}
use Rattle.md_people.proofs.flame.flame_text.Given as goal

-- the lines so far
abbrev pub invariant-loop-node : goal.invariant-loop-node
invariant-loop-node l = (v : View) → IsFileView l.loaded.profile v → l.text.items ≡ flat_map (flame_of v l.by) (range_with_len 0 l.node)

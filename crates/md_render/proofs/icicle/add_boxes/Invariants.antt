use Rattle.std.proofs.Common.{◌≡◌, ◌++◌, take}
use Rattle.std.specs.List.{flat_map}
use Rattle.md_cost.specs.FileView.{IsFileView}
use Rattle.md_cost.specs.View.{View}
use Rattle.md_render.specs.Icicle.{box_words}
use Rattle.md_render.proofs.icicle.add_boxes.Given as goal

-- the boxes so far are added
abbrev pub invariant-loop-it : goal.invariant-loop-it
invariant-loop-it l = (v : View) → IsFileView l.loaded.profile v → l.out.items ≡ l.fn.out.items ++ flat_map (box_words v l.by) (take l.it-index l.boxes)

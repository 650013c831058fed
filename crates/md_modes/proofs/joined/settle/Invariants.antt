use Rattle.std.proofs.Common.{◌≡◌, ◌<◌, ℕ, length, take}
use Rattle.md_inst.specs.Kinds.{inst_map_of}
use Rattle.md_modes.specs.Joins.{IsSettled}
use Rattle.md_modes.specs.Views.{Rising}
use Rattle.md_modes.proofs.joined.settle.Given as goal

abbrev pub invariant-loop-place : goal.invariant-loop-place
invariant-loop-place l =
    (length (inst_map_of l.common.items) ≡ length (inst_map_of l.fn.common.items))
    × (Rising 0 l.end.view.outside.local.now.places.items → length (inst_map_of l.fn.common.items) ≡ length l.end.view.outside.local.now.places.items
    → (x : ℕ) → x < length l.end.view.outside.local.now.places.items
    → IsSettled l.end (inst_map_of l.fn.common.items) (inst_map_of l.common.items) (take l.place-index l.end.own.now) x)

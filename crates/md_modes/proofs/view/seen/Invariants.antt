use Rattle.std.proofs.Common.{◌≡◌, ◌++◌, drop, length}
use Rattle.md_inst.specs.Kinds.{inst_map_of}
use Rattle.md_modes.specs.Views.{seen}
use Rattle.md_modes.proofs.view.seen.Given as goal

abbrev pub invariant-loop-place : goal.invariant-loop-place
invariant-loop-place l =
    (inst_map_of l.view.items ++ seen (drop l.place-index l.places) (inst_map_of l.insts) ≡ seen l.places (inst_map_of l.insts))
    × (length l.view.items ≡ l.place-index)

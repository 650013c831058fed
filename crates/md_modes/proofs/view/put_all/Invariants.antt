use Rattle.std.proofs.Common.{◌≡◌, drop}
use Rattle.md_inst.specs.Kinds.{inst_map_of}
use Rattle.md_modes.specs.Views.{put_all}
use Rattle.md_modes.proofs.view.put_all.Given as goal

abbrev pub invariant-loop-number : goal.invariant-loop-number
invariant-loop-number l =
    put_all (drop l.number l.places) (drop l.number (inst_map_of l.view)) (inst_map_of l.insts.items)
    ≡ put_all l.places (inst_map_of l.view) (inst_map_of l.fn.insts.items)

use Rattle.std.proofs.Common.{◌≡◌, ◌≢◌, ◌<◌, ℕ, false, length, take, slice_index}
use Rattle.md_inst.specs.Instantiation.{times}
use Rattle.md_inst.specs.Kinds.{inst_map_of}
use Rattle.md_modes.specs.Joins.{end_of, occurs}
use Rattle.md_modes.specs.Shares.{gained}
use Rattle.md_modes.specs.Views.{Rising}
use Rattle.md_modes.proofs.end.End.gains.Given as goal

-- of the arm's variables so far none is gained
abbrev pub invariant-loop-place : goal.invariant-loop-place
invariant-loop-place l =
    Rising 0 l.self.view.outside.local.now.places.items → (x : ℕ) → x < length l.self.view.outside.local.now.places.items
    → times (slice_index l.self.view.outside.local.now.places.items x) (take l.place-index l.self.own.now) ≢ 0
    → gained (occurs l.self.view.outside) (inst_map_of l.self.view.before.now) (inst_map_of l.first) (end_of l.self) x ≡ false

use Rattle.std.proofs.Common.{◌≡◌, drop}
use Rattle.md_hlds.specs.Hlds.{hlds_of}
use Rattle.md_switch.specs.Keys.{keys_told}
use Rattle.md_code.specs.Blocks.{least_functor}
use Rattle.md_code.proofs.switch.least_functor.Given as goal

abbrev pub invariant-loop-key : goal.invariant-loop-key
invariant-loop-key l =
    least_functor (hlds_of l.tables.source.checked.now) l.low (keys_told (drop l.key-index l.keys)) ≡ least_functor (hlds_of l.tables.source.checked.now) l.fn.low (keys_told l.keys)

use Rattle.std.proofs.Common.{◌≡◌, drop}
use Rattle.md_hlds.specs.Hlds.{hlds_of}
use Rattle.md_switch.specs.Keys.{keys_told}
use Rattle.md_code.specs.Details.{greatest_functor}
use Rattle.md_code.proofs.cases.greatest_functor.Given as goal

abbrev pub invariant-loop-key : goal.invariant-loop-key
invariant-loop-key l =
    greatest_functor (hlds_of l.tables.source.checked.now) l.high (keys_told (drop l.key-index l.keys)) ≡ greatest_functor (hlds_of l.tables.source.checked.now) l.fn.high (keys_told l.keys)

use Rattle.std.proofs.Common.{◌≡◌, drop}
use Rattle.md_hlds.specs.Hlds.{hlds_functors_of}
use Rattle.md_det.specs.Switches.{all_have_keys}
use Rattle.md_switch.specs.Keys.{keys_told}
use Rattle.md_det.proofs.switch.all_have_keys.Given as goal

abbrev pub invariant-loop-functor : goal.invariant-loop-functor
invariant-loop-functor l = all_have_keys (keys_told l.keys.keys) (hlds_functors_of l.functors) ≡ all_have_keys (keys_told l.keys.keys) (hlds_functors_of (drop l.functor-index l.functors))

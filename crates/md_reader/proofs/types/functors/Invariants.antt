use Rattle.std.proofs.Common.{◌≡◌, ◌-◌}
use Rattle.md_hlds.specs.Hlds.{hlds_functors_of}
use Rattle.md_reader.specs.Input.{input_of}
use Rattle.md_reader.specs.Rules as spec
use Rattle.md_reader.proofs.types.functors.Given as goal

-- what is left to be read gives what the whole gives
abbrev pub invariant-loop-turn : goal.invariant-loop-turn
invariant-loop-turn l = spec.functors (input_of l.fn.input) ≡ spec.functors_from (l._turn-end - l._turn) (hlds_functors_of l.found.items) (input_of l.input)

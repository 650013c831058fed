use Rattle.std.proofs.Common.{◌≡◌, ◌-◌, []}
use Rattle.md_hlds.specs.Hlds.{hlds_types_of}
use Rattle.md_reader.specs.Input.{input_of}
use Rattle.md_reader.specs.Rules as spec
use Rattle.md_reader.proofs.types.simple_types_at_most.Given as goal

-- what is left to be read gives what the whole gives
abbrev pub invariant-loop-turn : goal.invariant-loop-turn
invariant-loop-turn l = spec.simple_types_from l.count [] (input_of l.fn.input) ≡ spec.simple_types_from (l.count - l._turn) (hlds_types_of l.found.items) (input_of l.input)

use Rattle.std.proofs.Common.{◌≡◌, ◌-◌, []}
use Rattle.md_reader.specs.Input.{input_of}
use Rattle.md_reader.specs.Rules as spec
use Rattle.md_reader.proofs.procedure.head_variables.Given as goal

-- what is left to be read gives what the whole gives
abbrev pub invariant-loop-turn : goal.invariant-loop-turn
invariant-loop-turn l = spec.head_from l.more [] (input_of l.fn.input) ≡ spec.head_from (l.more - l._turn) l.seen.items (input_of l.input)

use Rattle.std.proofs.Common.{◌≡◌, ◌-◌, []}
use Rattle.md_reader.specs.Input.{input_of}
use Rattle.md_reader.specs.Rules.{variables_from}
use Rattle.md_reader.proofs.variables.at_most.Given as goal

-- what is left to be read gives what the whole gives
abbrev pub invariant-loop-turn : goal.invariant-loop-turn
invariant-loop-turn l = variables_from l.closing l.count l.fn.seen.items [] (input_of l.fn.input) ≡ variables_from l.closing (l.count - l._turn) l.seen.items l.found (input_of l.input)

use Rattle.std.proofs.Common.{◌≡◌, ◌-◌, ◌+◌, ◌<◌, length}
use Rattle.md_reader.specs.Views.{draft_of}
use Rattle.md_reader.specs.Input.{input_of}
use Rattle.md_reader.specs.Rules as spec
use Rattle.md_reader.proofs.program.declarations.Given as goal

-- what is left to be read gives what the whole gives, and each predicate took a token
abbrev pub invariant-loop-turn : goal.invariant-loop-turn
invariant-loop-turn l = record {
  whole : spec.declarations (draft_of l.fn.draft) (input_of l.fn.input) ≡ spec.declarations_from (l._turn-end - l._turn) (draft_of l.draft) (input_of l.input);
  few : length l.draft.preds.items + length l.input.rest.now < 4294967296;
}

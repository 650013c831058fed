use Rattle.law_turns.proofs.TurnLaws.{derived_entries_are_turns}
use Rattle.law_turns.proofs.laws.derived_entries_are_turns.Goals as goal

pub returns : goal.returns
returns c = derived_entries_are_turns

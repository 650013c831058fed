use Rattle.law_turns.proofs.TurnLaws.{derived_is_determined}
use Rattle.law_turns.proofs.laws.derived_quantities_are_determined.Goals as goal

pub returns : goal.returns
returns c = derived_is_determined

use Rattle.law_safety.proofs.FoundGoals.{pairs_are_found}
use Rattle.law_safety.proofs.goals.pairs_are_found.Goals as goal

pub returns : goal.returns
returns c = pairs_are_found

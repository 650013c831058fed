use Rattle.law_safety.proofs.RoleLemmas.{unification_met}
use Rattle.law_safety.proofs.turns.unifications_meet_their_class.Goals as goal

pub returns : goal.returns
returns c = unification_met

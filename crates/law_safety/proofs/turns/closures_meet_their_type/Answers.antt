use Rattle.law_safety.proofs.RoleLemmas.{closure_met}
use Rattle.law_safety.proofs.turns.closures_meet_their_type.Goals as goal

pub returns : goal.returns
returns c = closure_met

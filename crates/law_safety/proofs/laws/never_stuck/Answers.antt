use Rattle.law_safety.proofs.Whole.{never_stuck}
use Rattle.law_safety.proofs.laws.never_stuck.Goals as goal

pub returns : goal.returns
returns c = never_stuck

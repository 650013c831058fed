use Rattle.law_safety.proofs.GoalLaws.{whole_switches_take_an_arm}
use Rattle.law_safety.proofs.goals.whole_switches_take_an_arm.Goals as goal

pub returns : goal.returns
returns c = whole_switches_take_an_arm

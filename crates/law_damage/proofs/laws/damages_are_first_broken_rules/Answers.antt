use Rattle.law_damage.proofs.First.{damaged_first}
use Rattle.law_damage.proofs.laws.damages_are_first_broken_rules.Goals as goal

pub returns : goal.returns
returns c = damaged_first

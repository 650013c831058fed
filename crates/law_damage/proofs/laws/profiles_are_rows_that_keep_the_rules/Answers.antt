use Rattle.law_damage.proofs.First.{spelled_whole}
use Rattle.law_damage.proofs.laws.profiles_are_rows_that_keep_the_rules.Goals as goal

pub returns : goal.returns
returns c = spelled_whole

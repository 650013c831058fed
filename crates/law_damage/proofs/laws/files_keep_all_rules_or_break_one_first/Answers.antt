use Rattle.law_damage.proofs.First.{whole_or_first, one_first, never_both}
use Rattle.law_damage.proofs.laws.files_keep_all_rules_or_break_one_first.Goals as goal

pub returns-clause-either : goal.returns-clause-either
returns-clause-either c = whole_or_first

pub returns-clause-one : goal.returns-clause-one
returns-clause-one c = one_first

pub returns-clause-never_both : goal.returns-clause-never_both
returns-clause-never_both c = never_both

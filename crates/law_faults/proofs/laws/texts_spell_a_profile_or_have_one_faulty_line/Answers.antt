use Rattle.law_faults.proofs.First.{either, one_faulty, never_both}
use Rattle.law_faults.proofs.laws.texts_spell_a_profile_or_have_one_faulty_line.Goals as goal

pub returns-clause-either : goal.returns-clause-either
returns-clause-either c = either

pub returns-clause-one : goal.returns-clause-one
returns-clause-one c = one_faulty

pub returns-clause-never_both : goal.returns-clause-never_both
returns-clause-never_both c = never_both

use Rattle.law_files.proofs.SpelledTexts.{one_profile}
use Rattle.law_files.proofs.spelled.texts_spell_one_profile.Goals as goal

pub returns : goal.returns
returns c = one_profile

use Rattle.law_files.proofs.SpelledFiles.{one_profile}
use Rattle.law_files.proofs.spelled.files_spell_one_profile.Goals as goal

pub returns : goal.returns
returns c = one_profile

use Rattle.law_files.proofs.SpelledTexts.{dumped}
use Rattle.law_files.proofs.spelled.dumped_profiles_are_spelled.Goals as goal

pub returns : goal.returns
returns c = dumped

use Rattle.law_files.proofs.SpelledTexts.{whole_or_faulty}
use Rattle.law_files.proofs.spelled.texts_are_whole_or_faulty.Goals as goal

pub returns : goal.returns
returns c = whole_or_faulty

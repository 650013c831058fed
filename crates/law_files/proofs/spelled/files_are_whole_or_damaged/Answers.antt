use Rattle.law_files.proofs.SpelledFiles.{whole_or_damaged}
use Rattle.law_files.proofs.spelled.files_are_whole_or_damaged.Goals as goal

pub returns : goal.returns
returns c = whole_or_damaged

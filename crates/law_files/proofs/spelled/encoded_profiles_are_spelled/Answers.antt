use Rattle.law_files.proofs.SpelledFiles.{encoded, encoded_before}
use Rattle.law_files.proofs.spelled.encoded_profiles_are_spelled.Goals as goal

pub returns-clause-newer : goal.returns-clause-newer
returns-clause-newer c = encoded

pub returns-clause-older : goal.returns-clause-older
returns-clause-older c = encoded_before

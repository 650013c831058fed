use Rattle.law_spelled.proofs.TextLaws.{texts_have_short_names}
use Rattle.law_spelled.proofs.laws.texts_have_short_names.Goals as goal

pub returns : goal.returns
returns c = texts_have_short_names

use Rattle.law_spelled.proofs.TextLaws.{texts_have_sites}
use Rattle.law_spelled.proofs.laws.texts_have_sites.Goals as goal

pub returns : goal.returns
returns c = texts_have_sites

use Rattle.law_spelled.proofs.TextLaws.{accepted_texts_are_within_bounds}
use Rattle.law_spelled.proofs.laws.accepted_texts_are_within_bounds.Goals as goal

pub returns : goal.returns
returns c = accepted_texts_are_within_bounds

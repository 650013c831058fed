use Rattle.law_spelled.proofs.TextLaws.{main_is_called, accepted_texts_have_mains}
use Rattle.law_spelled.proofs.laws.accepted_texts_have_mains.Goals as goal

pub returns-clause-called : goal.returns-clause-called
returns-clause-called c = main_is_called

pub returns-clause-variable : goal.returns-clause-variable
returns-clause-variable c = accepted_texts_have_mains

use Rattle.md_feedback.proofs.FaultLemmas.{one_feedback, own_feedback}
use Rattle.md_feedback.proofs.laws.a_text_spells_one_feedback.Goals as goal

pub returns-clause-one : goal.returns-clause-one
returns-clause-one c = one_feedback

pub returns-clause-own : goal.returns-clause-own
returns-clause-own c = own_feedback

use Rattle.md_feedback.proofs.FaultLemmas.{fault_spells_nothing}
use Rattle.md_feedback.proofs.laws.a_text_at_fault_spells_nothing.Goals as goal

pub returns : goal.returns
returns c = fault_spells_nothing

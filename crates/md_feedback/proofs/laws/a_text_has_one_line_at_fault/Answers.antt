use Rattle.md_feedback.proofs.FaultLemmas.{one_fault}
use Rattle.md_feedback.proofs.laws.a_text_has_one_line_at_fault.Goals as goal

pub returns : goal.returns
returns c = one_fault

use Rattle.md_trace.proofs.Ends.{activations-end, cut-ones-have-exited}
use Rattle.md_trace.proofs.balance.activations_end.Goals as goal

pub returns-clause-ended : goal.returns-clause-ended
returns-clause-ended c = activations-end

pub returns-clause-cut : goal.returns-clause-cut
returns-clause-cut c = cut-ones-have-exited

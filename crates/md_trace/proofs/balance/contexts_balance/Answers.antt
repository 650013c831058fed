use Rattle.md_trace.proofs.ContextBalance.{contexts-balanced}
use Rattle.md_trace.proofs.balance.contexts_balance.Goals as goal

pub returns : goal.returns
returns c = contexts-balanced

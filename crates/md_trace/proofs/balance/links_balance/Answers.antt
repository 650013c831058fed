use Rattle.md_trace.proofs.Balanced.{links-balanced}
use Rattle.md_trace.proofs.balance.links_balance.Goals as goal

pub returns : goal.returns
returns c = links-balanced

use Rattle.md_hlds.proofs.BudgetLemmas.{depths}
use Rattle.md_hlds.proofs.laws.depths_suffice.Goals as goal

pub returns : goal.returns
returns c = depths

use Rattle.md_hlds.proofs.BudgetLemmas.{budgets}
use Rattle.md_hlds.proofs.laws.budgets_agree.Goals as goal

pub returns : goal.returns
returns c = budgets

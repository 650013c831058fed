use Rattle.std.proofs.Common.{arith}
use Rattle.std.proofs.lemmas.Grind.{common_steps}
use Rattle.md_record.proofs.leads.lead_plain.Goals as goal

pub returns-clause-cost : goal.returns-clause-cost
returns-clause-cost g c = grind (arith, common_steps)

pub returns-clause-cost_refused : goal.returns-clause-cost_refused
returns-clause-cost_refused g c = grind (arith, common_steps)

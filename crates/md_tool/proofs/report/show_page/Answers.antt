use Rattle.std.proofs.Common.{arith}
use Rattle.std.proofs.lemmas.Grind.{common_steps}
use Rattle.md_tool.proofs.report.show_page.Goals as goal

pub load_run-requires-clause-of_run : goal.load_run-requires-clause-of_run
load_run-requires-clause-of_run g c = grind (arith, common_steps)

pub load_run-requires-clause-valid : goal.load_run-requires-clause-valid
load_run-requires-clause-valid g c = grind (arith, common_steps)

pub returns-in-Err-clause-ends : goal.returns-in-Err-clause-ends
returns-in-Err-clause-ends g c = grind (arith, common_steps)

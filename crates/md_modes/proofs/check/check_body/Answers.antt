use Rattle.std.proofs.Common.{arith}
use Rattle.std.proofs.lemmas.Grind.{common_steps}
use Rattle.md_modes.proofs.check.check_body.Goals as goal

pub returns-clause-checked : goal.returns-clause-checked
returns-clause-checked c = grind (arith, common_steps)

pub returns-clause-notes : goal.returns-clause-notes
returns-clause-notes c = grind (arith, common_steps)

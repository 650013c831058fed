use Rattle.std.proofs.Common.{arith}
use Rattle.std.proofs.lemmas.Grind.{common_steps}
use Rattle.md_modes.proofs.tally.add_variable.Goals as goal

pub returns-in_err-reach : goal.returns-in_err-reach
returns-in_err-reach c = grind (arith, common_steps)

pub returns : goal.returns
returns c = grind (arith, common_steps)

use Rattle.std.proofs.Common.{arith}
use Rattle.std.proofs.lemmas.Grind.{common_steps}
use Rattle.md_render.proofs.line.add_called.Goals as goal

pub returns-in-HigherOrder : goal.returns-in-HigherOrder
returns-in-HigherOrder c = grind (arith, common_steps)

pub returns-in_err-add-in-Plain : goal.returns-in_err-add-in-Plain
returns-in_err-add-in-Plain c = grind (arith, common_steps)

pub returns-in_ok-add-in-Plain : goal.returns-in_ok-add-in-Plain
returns-in_ok-add-in-Plain c = grind (arith, common_steps)

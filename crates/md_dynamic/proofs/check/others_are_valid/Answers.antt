use Rattle.std.proofs.Common.{arith}
use Rattle.std.proofs.lemmas.Grind.{common_steps}
use Rattle.md_dynamic.proofs.check.others_are_valid.Goals as goal

pub returns-then-not-links_fit : goal.returns-then-not-links_fit
returns-then-not-links_fit c = grind (arith, common_steps)

pub returns : goal.returns
returns c = grind (arith, common_steps)

use Rattle.std.proofs.Common.{arith}
use Rattle.std.proofs.lemmas.Grind.{common_steps}
use Rattle.md_inst.proofs.argument.+arguments.Goals as goal

pub returns-in-empty : goal.returns-in-empty
returns-in-empty t c = grind (arith, common_steps)

pub returns-in-empty-places : goal.returns-in-empty-places
returns-in-empty-places t c = grind (arith, common_steps)

pub returns-in_ok-argument-in-len1-up-places : goal.returns-in_ok-argument-in-len1-up-places
returns-in_ok-argument-in-len1-up-places t c = grind (arith, common_steps)

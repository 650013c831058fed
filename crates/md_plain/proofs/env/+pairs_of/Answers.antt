use Rattle.std.proofs.Common.{arith}
use Rattle.std.proofs.lemmas.Grind.{common_steps}
use Rattle.md_plain.proofs.env.+pairs_of.Goals as goal

pub returns-in-empty : goal.returns-in-empty
returns-in-empty t c = grind (arith, common_steps)

pub returns-in-empty-arguments : goal.returns-in-empty-arguments
returns-in-empty-arguments t c = grind (arith, common_steps)

pub returns-in_ok-pairs_of-in-len1-up-arguments : goal.returns-in_ok-pairs_of-in-len1-up-arguments
returns-in_ok-pairs_of-in-len1-up-arguments t c = grind (arith, common_steps)

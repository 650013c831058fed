use Rattle.std.proofs.Common.{arith}
use Rattle.std.proofs.lemmas.Grind.{common_steps}
use Rattle.md_plain.proofs.env.+values_at.Goals as goal

pub returns-in_default : goal.returns-in_default
returns-in_default t c = grind (arith, common_steps)

pub returns-in_default-2 : goal.returns-in_default-2
returns-in_default-2 t c = grind (arith, common_steps)

pub returns-in_ok-keep-in-empty : goal.returns-in_ok-keep-in-empty
returns-in_ok-keep-in-empty t c = grind (arith, common_steps)

pub returns-in_ok-keep-in-len1-up : goal.returns-in_ok-keep-in-len1-up
returns-in_ok-keep-in-len1-up t c = grind (arith, common_steps)

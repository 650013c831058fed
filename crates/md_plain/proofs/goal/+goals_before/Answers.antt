use Rattle.std.proofs.Common.{arith}
use Rattle.std.proofs.lemmas.Grind.{common_steps}
use Rattle.md_plain.proofs.goal.+goals_before.Goals as goal

pub returns-in-empty : goal.returns-in-empty
returns-in-empty t c = grind (arith, common_steps)

pub returns-in_ok-goals_before-in-len1-up : goal.returns-in_ok-goals_before-in-len1-up
returns-in_ok-goals_before-in-len1-up t c = grind (arith, common_steps)

pub returns-then-procedure-eq0 : goal.returns-then-procedure-eq0
returns-then-procedure-eq0 t c = grind (arith, common_steps)

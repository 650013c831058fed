use Rattle.std.proofs.Common.{arith}
use Rattle.std.proofs.lemmas.Grind.{common_steps}
use Rattle.test_replay.proofs.history.Past.may_follow.Goals as goal

pub returns-else-same : goal.returns-else-same
returns-else-same c = grind (arith, common_steps)

pub returns-in-Exit : goal.returns-in-Exit
returns-in-Exit c = grind (arith, common_steps)

pub returns-in-Redo : goal.returns-in-Redo
returns-in-Redo c = grind (arith, common_steps)

pub returns-then-same : goal.returns-then-same
returns-then-same c = grind (arith, common_steps)

use Rattle.std.proofs.Common.{arith}
use Rattle.std.proofs.lemmas.Grind.{common_steps}
use Rattle.md_feedback.proofs.search.calls_det.Goals as goal

pub returns-in-Functor : goal.returns-in-Functor
returns-in-Functor c = grind (arith, common_steps)

pub returns-in-Some : goal.returns-in-Some
returns-in-Some c = grind (arith, common_steps)

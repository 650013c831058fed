use Rattle.std.proofs.Common.{arith}
use Rattle.std.proofs.lemmas.Grind.{common_steps}
use Rattle.md_inst.proofs.unify.capture.Goals as goal

pub returns-then-not-can_close : goal.returns-then-not-can_close
returns-then-not-can_close c = grind (arith, common_steps)

pub returns-in_err-captures : goal.returns-in_err-captures
returns-in_err-captures c = grind (arith, common_steps)

pub returns : goal.returns
returns c = grind (arith, common_steps)

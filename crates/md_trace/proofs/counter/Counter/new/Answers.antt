use Rattle.std.proofs.Common.{arith}
use Rattle.std.proofs.lemmas.Grind.{common_steps}
use Rattle.md_trace.proofs.counter.Counter.new.Goals as goal

pub returns-clause-chain : goal.returns-clause-chain
returns-clause-chain c = grind (arith, common_steps)

pub returns-clause-own : goal.returns-clause-own
returns-clause-own c = grind (arith, common_steps)

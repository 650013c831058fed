use Rattle.std.proofs.Common.{arith}
use Rattle.std.proofs.lemmas.Grind.{common_steps}
use Rattle.md_names.proofs.names.Names.new.Goals as goal

pub returns : goal.returns
returns c = grind (arith, common_steps)

pub returns-in_err-functors : goal.returns-in_err-functors
returns-in_err-functors c = grind (arith, common_steps)

pub returns-in_err-predicates : goal.returns-in_err-predicates
returns-in_err-predicates c = grind (arith, common_steps)

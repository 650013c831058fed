use Rattle.std.proofs.Common.{arith}
use Rattle.std.proofs.lemmas.Grind.{common_steps}
use Rattle.md_reader.specs.Rules.{relation}
use Rattle.md_reader.proofs.call.relation.Goals as goal

pub returns-in_err-x : goal.returns-in_err-x
unfolding relation
returns-in_err-x c = grind (arith, common_steps)

pub returns-in-Equals : goal.returns-in-Equals
unfolding relation
returns-in-Equals c = grind (arith, common_steps)

pub returns-in_default : goal.returns-in_default
unfolding relation
returns-in_default c = grind (arith, common_steps)

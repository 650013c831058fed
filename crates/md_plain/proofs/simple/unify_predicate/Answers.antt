use Rattle.std.proofs.Common.{arith}
use Rattle.std.proofs.lemmas.Grind.{common_steps}
use Rattle.md_plain.proofs.simple.unify_predicate.Goals as goal

pub returns-in-None-called : goal.returns-in-None-called
returns-in-None-called c = grind (arith, common_steps)

pub returns-in-Some : goal.returns-in-Some
returns-in-Some c = grind (arith, common_steps)

pub returns-in-Some-called : goal.returns-in-Some-called
returns-in-Some-called c = grind (arith, common_steps)

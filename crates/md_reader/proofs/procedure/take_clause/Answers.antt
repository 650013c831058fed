use Rattle.std.proofs.Common.{arith}
use Rattle.std.proofs.lemmas.Grind.{common_steps}
use Rattle.md_reader.specs.Rules.{clause}
use Rattle.md_reader.proofs.procedure.take_clause.Goals as goal

pub returns : goal.returns
unfolding clause
returns c = grind (arith, common_steps)

use Rattle.std.proofs.Common.{arith}
use Rattle.std.proofs.lemmas.Grind.{common_steps}
use Rattle.md_reader.specs.Rules.{declaration}
use Rattle.md_reader.proofs.procedure.take_declaration.Goals as goal

pub returns : goal.returns
unfolding declaration
returns c = grind (arith, common_steps)

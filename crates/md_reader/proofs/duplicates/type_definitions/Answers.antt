use Rattle.std.proofs.Common.{arith}
use Rattle.std.proofs.lemmas.Grind.{common_steps}
use Rattle.md_reader.proofs.duplicates.type_definitions.Goals as goal

pub loop-type_definition-preserved : goal.loop-type_definition-preserved
loop-type_definition-preserved c = grind (arith, common_steps)

pub returns : goal.returns
returns c = grind (arith, common_steps)

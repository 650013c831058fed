use Rattle.std.proofs.Common.{arith}
use Rattle.std.proofs.lemmas.Grind.{common_steps}
use Rattle.md_reader.specs.Rules.{type_definition}
use Rattle.md_reader.proofs.types.type_definition.Goals as goal

pub returns : goal.returns
unfolding type_definition
returns c = grind (arith, common_steps)

pub returns-in_err-word : goal.returns-in_err-word
unfolding type_definition
returns-in_err-word c = grind (arith, common_steps)

pub returns-in_err-name : goal.returns-in_err-name
unfolding type_definition
returns-in_err-name c = grind (arith, common_steps)

pub returns-in_err-expect : goal.returns-in_err-expect
unfolding type_definition
returns-in_err-expect c = grind (arith, common_steps)

pub returns-in_err-functors : goal.returns-in_err-functors
unfolding type_definition
returns-in_err-functors c = grind (arith, common_steps)

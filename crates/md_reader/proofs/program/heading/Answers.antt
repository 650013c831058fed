use Rattle.std.proofs.Common.{arith}
use Rattle.std.proofs.lemmas.Grind.{common_steps}
use Rattle.md_reader.specs.Rules.{heading}
use Rattle.md_reader.proofs.program.heading.Goals as goal

pub returns-clause-read : goal.returns-clause-read
unfolding heading
returns-clause-read c = grind (arith, common_steps)

pub returns-in_err-module-clause-read : goal.returns-in_err-module-clause-read
unfolding heading
returns-in_err-module-clause-read c = grind (arith, common_steps)

pub returns-in_err-word-clause-read : goal.returns-in_err-word-clause-read
unfolding heading
returns-in_err-word-clause-read c = grind (arith, common_steps)

pub returns-in_err-expect-clause-read : goal.returns-in_err-expect-clause-read
unfolding heading
returns-in_err-expect-clause-read c = grind (arith, common_steps)

pub returns-in_err-module_line-clause-read : goal.returns-in_err-module_line-clause-read
unfolding heading
returns-in_err-module_line-clause-read c = grind (arith, common_steps)

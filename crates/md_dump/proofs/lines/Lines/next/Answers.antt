use Rattle.std.proofs.Common.{ap, ◌∙◌, arith}
use Rattle.std.proofs.lemmas.Grind.{common_steps}
use Rattle.md_dump.specs.Due.{line, read}
use Rattle.md_dump.proofs.Steps.{line_read}
use Rattle.md_dump.proofs.lines.Lines.next.Goals as goal

pub returns-clause-line : goal.returns-clause-line
returns-clause-line c = λ next. ap (read (line next) c.args.self.now.before) c.in-Some.ensures.parts ∙ line_read next c.args.self.now.before c.in-Some.line.now c.in-Some.after.now

pub returns-in_default-clause-fault : goal.returns-in_default-clause-fault
returns-in_default-clause-fault c = grind (arith, common_steps)

pub returns-in_default-clause-line : goal.returns-in_default-clause-line
returns-in_default-clause-line c = grind (arith, common_steps)

pub returns-in_default-clause-short : goal.returns-in_default-clause-short
returns-in_default-clause-short c = grind (arith, common_steps)

pub returns-clause-fault : goal.returns-clause-fault
returns-clause-fault c = grind (arith, common_steps)

pub returns-clause-short : goal.returns-clause-short
returns-clause-short c = grind (arith, common_steps)

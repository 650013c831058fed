use Rattle.std.proofs.Common.{arith}
use Rattle.std.proofs.lemmas.Grind.{common_steps}
use Rattle.md_deepfile.proofs.reader.Reader.link_told.Goals as goal

pub returns-then-not-branch-clause-follows : goal.returns-then-not-branch-clause-follows
returns-then-not-branch-clause-follows c = grind (arith, common_steps)

pub returns-then-not-branch-clause-ready : goal.returns-then-not-branch-clause-ready
returns-then-not-branch-clause-ready c = grind (arith, common_steps)

pub returns-clause-follows : goal.returns-clause-follows
returns-clause-follows c = grind (arith, common_steps)

pub returns-clause-ready : goal.returns-clause-ready
returns-clause-ready c = grind (arith, common_steps)

pub returns-then-not-fits-clause-follows : goal.returns-then-not-fits-clause-follows
returns-then-not-fits-clause-follows c = grind (arith, common_steps)

pub returns-then-not-fits-clause-ready : goal.returns-then-not-fits-clause-ready
returns-then-not-fits-clause-ready c = grind (arith, common_steps)

use Rattle.std.proofs.Common.{arith}
use Rattle.std.proofs.lemmas.Grind.{common_steps}
use Rattle.md_deepfile.proofs.loading.read_through.Goals as goal

pub returns-clause-fault : goal.returns-clause-fault
returns-clause-fault g c = grind (arith, common_steps)

pub returns-clause-kept : goal.returns-clause-kept
returns-clause-kept g c = grind (arith, common_steps)

pub returns-clause-whole : goal.returns-clause-whole
returns-clause-whole g c = grind (arith, common_steps)

pub returns-clause-writes : goal.returns-clause-writes
returns-clause-writes g c = grind (arith, common_steps)

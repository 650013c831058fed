use Rattle.std.proofs.Common.{arith}
use Rattle.std.proofs.lemmas.Grind.{common_steps}
use Rattle.md_deepfile.proofs.loading.load.Goals as goal

pub returns-in_err-decoder-clause-fault : goal.returns-in_err-decoder-clause-fault
returns-in_err-decoder-clause-fault g c = grind (arith, common_steps)

pub returns-in_err-decoder-clause-found : goal.returns-in_err-decoder-clause-found
returns-in_err-decoder-clause-found g c = grind (arith, common_steps)

pub returns-in_err-decoder-clause-kept : goal.returns-in_err-decoder-clause-kept
returns-in_err-decoder-clause-kept g c = grind (arith, common_steps)

pub returns-in_err-decoder-clause-valid : goal.returns-in_err-decoder-clause-valid
returns-in_err-decoder-clause-valid g c = grind (arith, common_steps)

pub returns-in_err-decoder-clause-writes : goal.returns-in_err-decoder-clause-writes
returns-in_err-decoder-clause-writes g c = grind (arith, common_steps)

pub returns-clause-fault : goal.returns-clause-fault
returns-clause-fault g c = grind (arith, common_steps)

pub returns-clause-found : goal.returns-clause-found
returns-clause-found g c = grind (arith, common_steps)

pub returns-clause-kept : goal.returns-clause-kept
returns-clause-kept g c = grind (arith, common_steps)

pub returns-clause-valid : goal.returns-clause-valid
returns-clause-valid g c = grind (arith, common_steps)

pub returns-clause-writes : goal.returns-clause-writes
returns-clause-writes g c = grind (arith, common_steps)

pub returns-in_err-read_through-clause-fault : goal.returns-in_err-read_through-clause-fault
returns-in_err-read_through-clause-fault g c = grind (arith, common_steps)

pub returns-in_err-read_through-clause-found : goal.returns-in_err-read_through-clause-found
returns-in_err-read_through-clause-found g c = grind (arith, common_steps)

pub returns-in_err-read_through-clause-kept : goal.returns-in_err-read_through-clause-kept
returns-in_err-read_through-clause-kept g c = grind (arith, common_steps)

pub returns-in_err-read_through-clause-valid : goal.returns-in_err-read_through-clause-valid
returns-in_err-read_through-clause-valid g c = grind (arith, common_steps)

pub returns-in_err-read_through-clause-writes : goal.returns-in_err-read_through-clause-writes
returns-in_err-read_through-clause-writes g c = grind (arith, common_steps)

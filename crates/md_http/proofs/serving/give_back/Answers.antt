use Rattle.std.proofs.Common.{arith}
use Rattle.std.proofs.lemmas.Grind.{common_steps}
use Rattle.md_http.proofs.serving.give_back.Goals as goal

pub returns-clause-served : goal.returns-clause-served
returns-clause-served g c = grind (arith, common_steps)

pub returns-clause-stays : goal.returns-clause-stays
returns-clause-stays g c = grind (arith, common_steps)

pub returns-clause-count : goal.returns-clause-count
returns-clause-count g c = grind (arith, common_steps)

pub returns-in_err-done-clause-kept : goal.returns-in_err-done-clause-kept
returns-in_err-done-clause-kept g c = grind (arith, common_steps)

pub returns-in_err-done-clause-memory : goal.returns-in_err-done-clause-memory
returns-in_err-done-clause-memory g c = grind (arith, common_steps)

pub returns-in_err-done-clause-stays : goal.returns-in_err-done-clause-stays
returns-in_err-done-clause-stays g c = grind (arith, common_steps)

pub returns-in_err-done-clause-count : goal.returns-in_err-done-clause-count
returns-in_err-done-clause-count g c = grind (arith, common_steps)

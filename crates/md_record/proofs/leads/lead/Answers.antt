use Rattle.std.proofs.Common.{arith}
use Rattle.std.proofs.lemmas.Grind.{common_steps}
use Rattle.md_record.proofs.leads.lead.Goals as goal

pub returns-in-HigherOrder-clause-cost : goal.returns-in-HigherOrder-clause-cost
returns-in-HigherOrder-clause-cost g c = grind (arith, common_steps)

pub returns-in-HigherOrder-clause-cost_refused : goal.returns-in-HigherOrder-clause-cost_refused
returns-in-HigherOrder-clause-cost_refused g c = grind (arith, common_steps)

pub returns-in-HigherOrder-clause-err : goal.returns-in-HigherOrder-clause-err
returns-in-HigherOrder-clause-err g c = grind (arith, common_steps)

pub returns-in-HigherOrder-clause-fresh : goal.returns-in-HigherOrder-clause-fresh
returns-in-HigherOrder-clause-fresh g c = grind (arith, common_steps)

pub returns-in-HigherOrder-clause-ok : goal.returns-in-HigherOrder-clause-ok
returns-in-HigherOrder-clause-ok g c = grind (arith, common_steps)

pub returns-in-HigherOrder-clause-statics : goal.returns-in-HigherOrder-clause-statics
returns-in-HigherOrder-clause-statics g c = grind (arith, common_steps)

pub returns-in-Plain-clause-cost : goal.returns-in-Plain-clause-cost
returns-in-Plain-clause-cost g c = grind (arith, common_steps)

pub returns-in-Plain-clause-cost_refused : goal.returns-in-Plain-clause-cost_refused
returns-in-Plain-clause-cost_refused g c = grind (arith, common_steps)

pub returns-in-Plain-clause-err : goal.returns-in-Plain-clause-err
returns-in-Plain-clause-err g c = grind (arith, common_steps)

pub returns-in-Plain-clause-fresh : goal.returns-in-Plain-clause-fresh
returns-in-Plain-clause-fresh g c = grind (arith, common_steps)

pub returns-in-Plain-clause-ok : goal.returns-in-Plain-clause-ok
returns-in-Plain-clause-ok g c = grind (arith, common_steps)

pub returns-in-Plain-clause-statics : goal.returns-in-Plain-clause-statics
returns-in-Plain-clause-statics g c = grind (arith, common_steps)

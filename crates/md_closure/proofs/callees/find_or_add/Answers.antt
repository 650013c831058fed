use Rattle.std.proofs.Common.{sym, ◌∙◌, arith}
use Rattle.std.proofs.lemmas.Grind.{common_steps}
use Rattle.md_closure.proofs.Fresh.{fresh-after}
use Rattle.md_closure.proofs.callees.find_or_add.Goals as goal

pub add-requires-clause-fresh : goal.add-requires-clause-fresh
add-requires-clause-fresh g c = fresh-after c.find_again.new.self c.args.tables.now c.args.node c.args.site c.args.callee c.find_again.ensures.same c.requires.higher_order (sym c.find_again.ensures.value ∙ c.in_default.is)

pub returns-in-Some-clause-cost_refused : goal.returns-in-Some-clause-cost_refused
returns-in-Some-clause-cost_refused g c = grind (arith, common_steps)

pub returns-in-Some-clause-err : goal.returns-in-Some-clause-err
returns-in-Some-clause-err g c = grind (arith, common_steps)

pub returns-in-Some-clause-forward : goal.returns-in-Some-clause-forward
returns-in-Some-clause-forward g c = grind (arith, common_steps)

pub returns-in-Some-clause-fresh : goal.returns-in-Some-clause-fresh
returns-in-Some-clause-fresh g c = grind (arith, common_steps)

pub returns-in-Some-clause-ok : goal.returns-in-Some-clause-ok
returns-in-Some-clause-ok g c = grind (arith, common_steps)

pub returns-in-Some-clause-statics : goal.returns-in-Some-clause-statics
returns-in-Some-clause-statics g c = grind (arith, common_steps)

pub returns-clause-cost_refused : goal.returns-clause-cost_refused
returns-clause-cost_refused g c = grind (arith, common_steps)

pub returns-clause-err : goal.returns-clause-err
returns-clause-err g c = grind (arith, common_steps)

pub returns-clause-forward : goal.returns-clause-forward
returns-clause-forward g c = grind (arith, common_steps)

pub returns-clause-fresh : goal.returns-clause-fresh
returns-clause-fresh g c = grind (arith, common_steps)

pub returns-clause-ok : goal.returns-clause-ok
returns-clause-ok g c = grind (arith, common_steps)

pub returns-clause-statics : goal.returns-clause-statics
returns-clause-statics g c = grind (arith, common_steps)

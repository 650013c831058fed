use Rattle.std.proofs.Common.{sym, ◌∙◌}
use Rattle.md_closure.proofs.Fresh.{fresh-after}
use Rattle.md_closure.proofs.callees.find_or_add_to.Goals as goal

pub add-requires-clause-fresh : goal.add-requires-clause-fresh
add-requires-clause-fresh g c = fresh-after c.find_again.new.self c.args.tables.now c.args.node c.args.site c.args.callee c.find_again.ensures.same c.requires.higher_order (sym c.find_again.ensures.value ∙ c.in-None.is)

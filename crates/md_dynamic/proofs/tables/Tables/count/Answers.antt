use Rattle.std.proofs.Common.{◌≡◌, Some, slice_get, refl, rules, arith}
use Rattle.std.proofs.lemmas.Grind.{common_steps}
use Rattle.std.proofs.lemmas.Option.{slice_get_read}
use Rattle.md_dynamic.proofs.Growth.{count-tables}
use Rattle.md_dynamic.proofs.tables.Tables.count.Goals as goal

pub invariant_of-self : goal.invariant_of-self
invariant_of-self g c =
    let t = c.self.inside in
    let at : slice_get t.links.items c.number.result ≡ Some c.index_mut.result.now = search (rules, slice_get_read) in
    count-tables t.statics t.spans.items t.nodes.items t.bases.items t.slots.items t.callees.entries t.links.items t.active.items c.number.result c.index_mut.result.now _ c.self.invariant at refl refl refl

pub returns-clause-statics : goal.returns-clause-statics
returns-clause-statics g c = grind (arith, common_steps)

pub returns-clause-cost : goal.returns-clause-cost
returns-clause-cost g c = grind (arith, common_steps)

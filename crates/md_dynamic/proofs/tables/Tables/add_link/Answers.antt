use Rattle.std.proofs.Common.{◌<◌, ◌≡◌, ◌++◌, ◌∷◌, [], Some, length, slice_get, ap, ◌∙◌, arith}
use Rattle.std.proofs.lemmas.Grind.{common_steps}
use Rattle.md_dynamic.specs.declared.link.LinkRow.{LinkRow}
use Rattle.md_dynamic.specs.Rows.{Rows}
use Rattle.md_dynamic.proofs.Growth.{place-bound, adding, link-tables}
use Rattle.md_dynamic.proofs.tables.Tables.add_link.Goals as goal

pub enter-requires : goal.enter-requires
enter-requires g c =
    let t = c.self.inside in
    let r : Rows = record { statics = t.statics; nodes = t.nodes.items; links = t.links.items; active = t.active.items } in
    place-bound r t.spans.items t.bases.items t.slots.items t.callees.entries c.self.invariant c.args.self.now c.self.view_is c.args.node c.args.site c.requires.owned c.place-place.result c.place-place.ensures

pub invariant_of-self-2 : goal.invariant_of-self-2
invariant_of-self-2 g c =
    let t = c.self.inside in
    let r : Rows = record { statics = t.statics; nodes = t.nodes.items; links = t.links.items; active = t.active.items } in
    let number : c.new-link.result ≡ length t.links.items = omega (arith, c.new-link.ensures, c.len.ensures, t.links.ok.0) in
    let a = adding r t.spans.items t.bases.items t.slots.items t.callees.entries c.self.invariant c.args.self.now c.self.view_is c.args.node c.args.site c.requires.owned c.enter.new.slots.items c.enter.new.callees.entries c.args.callee c.place-place.result c.new-link.result
    c.site-kind.result c.requires.fresh c.site-kind.ensures c.place-place.ensures number c.in_ok-enter.ensures.slots c.in_ok-enter.ensures.callees in
    let few : length t.links.items < 4294967295 = omega (arith, c.requires.room, ap (λ (z : Rows). length z.links) c.self.view_is) in
    let end : slice_get t.nodes.items c.args.to ≡ Some c.args.callee = ap (λ (z : Rows). slice_get z.nodes c.args.to) c.self.view_is ∙ c.requires.of_callee in
    link-tables t.statics t.spans.items t.nodes.items t.bases.items t.slots.items c.enter.new.slots.items t.callees.entries c.enter.new.callees.entries t.links.items c.push_reserved.new.self.items t.active.items c.args.node c.args.site c.args.callee c.args.to c.args.calls
    c.self.invariant a end
    (c.push_reserved.ensures.items ∙ ap (λ xs. xs ++ c.row.result ∷ []) c.in_ok-reserve.ensures.items ∙ ap (λ (x : LinkRow). t.links.items ++ x ∷ []) c.row.ensures)
    few

pub returns-clause-ok : goal.returns-clause-ok
returns-clause-ok g c = grind (arith, common_steps)

pub returns-clause-err : goal.returns-clause-err
returns-clause-err g c = grind (arith, common_steps)

pub returns-clause-statics : goal.returns-clause-statics
returns-clause-statics g c = grind (arith, common_steps)

pub returns-clause-cost : goal.returns-clause-cost
returns-clause-cost g c = grind (arith, common_steps)

pub returns-clause-cost_refused : goal.returns-clause-cost_refused
returns-clause-cost_refused g c = grind (arith, common_steps)

pub returns-clause-forward : goal.returns-clause-forward
returns-clause-forward g c = grind (arith, common_steps)

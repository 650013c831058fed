use Rattle.std.proofs.Common.{set, sym, ap, ◌∙◌, arith}
use Rattle.md_dynamic.specs.declared.slot.Slot.{Slot}
use Rattle.md_dynamic.specs.Rows.{Rows}
use Rattle.md_dynamic.proofs.Growth.{place-bound, use-tables}
use Rattle.md_dynamic.proofs.tables.Tables.find_again.Goals as goal

pub index_mut-requires : goal.index_mut-requires
index_mut-requires g c =
    let t = c.self.inside in
    let r : Rows = record { statics = t.statics; nodes = t.nodes.items; links = t.links.items; active = t.active.items } in
    let below = place-bound r t.spans.items t.bases.items t.slots.items t.callees.entries c.self.invariant c.args.self.now c.self.view_is c.args.node c.args.site c.requires.owned c.place-place.result c.place-place.ensures in
    omega (arith, below, t.slots.ok.0)

pub invariant_of-self : goal.invariant_of-self
invariant_of-self g c =
    let t = c.self.inside in
    let r : Rows = record { statics = t.statics; nodes = t.nodes.items; links = t.links.items; active = t.active.items } in
    use-tables r t.spans.items t.bases.items t.slots.items t.callees.entries c.self.invariant c.args.self.now c.self.view_is c.args.node c.args.site c.requires.owned c.args.callee c.place-place.result c.in-Some.link _
    c.requires.higher_order c.place-place.ensures (sym c.look_up-found.ensures ∙ c.in-Some.is) (ap (λ (z : Slot). set t.slots.items c.place-place.result z) c.of.ensures)

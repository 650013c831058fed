use Rattle.std.proofs.Common.{arith, ◌∙◌}
use Rattle.md_dynamic.specs.Rows.{Rows}
use Rattle.md_dynamic.proofs.Growth.{place-bound, link-read}
use Rattle.md_dynamic.proofs.tables.Tables.slot.Goals as goal

pub index-requires : goal.index-requires
index-requires g c =
    let t = c.self.inside in
    let r : Rows = record { statics = t.statics; nodes = t.nodes.items; links = t.links.items; active = t.active.items } in
    let below = place-bound r t.spans.items t.bases.items t.slots.items t.callees.entries c.self.invariant c.args.self.now c.self.view_is c.args.node c.args.site c.requires.owned c.place.result c.place.ensures in
    omega (arith, below, t.slots.ok.0)

pub returns-clause-value : goal.returns-clause-value
returns-clause-value g c =
    let t = c.self.inside in
    let r : Rows = record { statics = t.statics; nodes = t.nodes.items; links = t.links.items; active = t.active.items } in
    c.link.ensures ∙ link-read r t.spans.items t.bases.items t.slots.items t.callees.entries c.self.invariant c.args.self.now c.self.view_is c.args.node c.args.site c.requires.owned c.place.result c.index.result.now c.requires.plain c.place.ensures c.index.ensures

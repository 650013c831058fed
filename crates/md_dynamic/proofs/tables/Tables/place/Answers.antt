use Rattle.std.proofs.Common.{arith}
use Rattle.md_dynamic.specs.Rows.{Rows}
use Rattle.md_dynamic.proofs.Growth.{base-there, place-read}
use Rattle.md_dynamic.proofs.tables.Tables.place.Goals as goal

pub index-base-requires : goal.index-base-requires
index-base-requires c =
    let t = c.self.inside in
    let r : Rows = record { statics = t.statics; nodes = t.nodes.items; links = t.links.items; active = t.active.items } in
    omega (arith, base-there r t.spans.items t.bases.items t.slots.items t.callees.entries c.self.invariant c.args.self.now c.self.view_is c.args.node c.args.site c.requires c.number.result c.number.ensures, t.bases.ok.0)

pub returns : goal.returns
returns c =
    let t = c.self.inside in
    let r : Rows = record { statics = t.statics; nodes = t.nodes.items; links = t.links.items; active = t.active.items } in
    place-read r t.spans.items t.bases.items t.slots.items t.callees.entries c.self.invariant c.args.self.now c.self.view_is c.args.node c.args.site c.requires c.number-2.result c.number.result c.index-base.result.now c.number-2.ensures c.number.ensures c.index-base.ensures

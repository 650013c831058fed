use Rattle.std.proofs.Common.{sym, ◌∙◌, arith}
use Rattle.md_dynamic.specs.Rows.{Rows}
use Rattle.md_dynamic.proofs.Growth.{place-bound, used-link, used-callee}
use Rattle.md_dynamic.proofs.tables.Tables.look_up.Goals as goal

pub index-requires : goal.index-requires
index-requires c =
    let t = c.self.inside in
    let r : Rows = record { statics = t.statics; nodes = t.nodes.items; links = t.links.items; active = t.active.items } in
    let below = place-bound r t.spans.items t.bases.items t.slots.items t.callees.entries c.self.invariant c.args.self.now c.self.view_is c.args.key.node c.args.key.site c.requires.owned c.args.place c.requires.place in
    omega (arith, below, t.slots.ok.0)

pub leads_to-requires : goal.leads_to-requires
leads_to-requires c =
    let t = c.self.inside in
    let r : Rows = record { statics = t.statics; nodes = t.nodes.items; links = t.links.items; active = t.active.items } in
    used-link r t.spans.items t.bases.items t.slots.items t.callees.entries c.self.invariant c.args.self.now c.self.view_is c.args.key.node c.args.key.site c.requires.owned c.args.place c.index.result.now c.in-Some.link c.requires.higher_order c.requires.place c.index.ensures (sym c.link.ensures ∙ c.in-Some.is)

pub returns-in-Some : goal.returns-in-Some
returns-in-Some c =
    let t = c.self.inside in
    let r : Rows = record { statics = t.statics; nodes = t.nodes.items; links = t.links.items; active = t.active.items } in
    used-callee r t.spans.items t.bases.items t.slots.items t.callees.entries c.self.invariant c.args.self.now c.self.view_is c.args.key.node c.args.key.site c.requires.owned c.args.place c.index.result.now c.in-Some.link c.requires.higher_order c.requires.place c.index.ensures (sym c.link.ensures ∙ c.in-Some.is) c.args.key.callee c.leads_to.result c.leads_to.ensures c.if-leads_to.true

use Rattle.std.proofs.Common.{◌≡◌, ◌↔◌, IfSome, IsTrue, Some, slice_get, subst, sym, arith}
use Rattle.md_dynamic.specs.declared.link.LinkRow.{LinkRow}
use Rattle.md_dynamic.specs.Rows.{Rows}
use Rattle.md_dynamic.proofs.Growth.{end-read, end-told}
use Rattle.md_dynamic.proofs.tables.Tables.leads_to.Goals as goal

pub index-requires-2 : goal.index-requires-2
index-requires-2 c =
    let t = c.self.inside in
    let r : Rows = record { statics = t.statics; nodes = t.nodes.items; links = t.links.items; active = t.active.items } in
    let at = end-read r t.spans.items t.bases.items t.slots.items t.callees.entries c.self.invariant c.args.self.now c.self.view_is c.args.link c.number.result c.index.result.now c.requires c.number.ensures c.index.ensures in
    omega (arith, at.0, c.number-2.ensures, t.nodes.ok.0)

pub returns : goal.returns
returns c =
    let t = c.self.inside in
    let r : Rows = record { statics = t.statics; nodes = t.nodes.items; links = t.links.items; active = t.active.items } in
    let at = end-read r t.spans.items t.bases.items t.slots.items t.callees.entries c.self.invariant c.args.self.now c.self.view_is c.args.link c.number.result c.index.result.now c.requires c.number.ensures c.index.ensures in
    let told = end-told r.nodes c.number-2.result c.index.result.now.callee c.index-2.result.now c.args.callee c.eq.result at.0 c.number-2.ensures c.index-2.ensures c.eq.ensures in
    subst (λ o. IfSome o (λ (row : LinkRow). IsTrue c.eq.result ↔ slice_get c.args.self.now.nodes row.callee ≡ Some c.args.callee)) (sym at.1) (subst (λ (z : Rows). IsTrue c.eq.result ↔ slice_get z.nodes c.index.result.now.callee ≡ Some c.args.callee) c.self.view_is told)

use Rattle.std.proofs.Common.{All, IfSome, List, ◌<◌, ◌≡◌, ◌++◌, ◌∷◌, [], None, Some, replicate, length, set, sym, ap, subst, ◌∙◌, arith, ◌+◌, ◌-◌, ◌%◌}
use Rattle.std.proofs.lemmas.Grind.{common_steps}
use Rattle.std.proofs.lemmas.List.{length-append, length-replicate}
use Rattle.md_static.specs.declared.entry.Site.{Site}
use Rattle.md_static.specs.Tables.{callee_of}
use Rattle.md_static.specs.Sites.{first_site, sites_of}
use Rattle.md_dynamic.specs.declared.link.LinkRow.{LinkRow}
use Rattle.md_dynamic.specs.declared.slot.Slot.{Slot}
use Rattle.md_dynamic.specs.Links.{link_row}
use Rattle.md_dynamic.specs.Rows.{Rows}
use Rattle.md_dynamic.specs.declared.span.Span.{Span}
use Rattle.md_dynamic.specs.Spans.{span_of}
use Rattle.md_dynamic.specs.Slots.{slot_of}
use Rattle.md_dynamic.proofs.Growth.{place-bound, adding, context-tables, callee-there}
use Rattle.md_dynamic.proofs.tables.Tables.add_context.Goals as goal

pub span-own-requires : goal.span-own-requires
span-own-requires g c =
    let t = c.self.inside in
    let r : Rows = record { statics = t.statics; nodes = t.nodes.items; links = t.links.items; active = t.active.items } in
    callee-there c.args.self.now c.args.site c.args.callee (subst (λ (z : Rows). All (λ (x : Site). IfSome (callee_of x.kind) (λ p. p < length z.statics.procs)) z.statics.sites) c.self.view_is c.self.invariant.sound.callees_there) c.requires.may_lead

pub enter-requires : goal.enter-requires
enter-requires g c =
    let t = c.self.inside in
    let r : Rows = record { statics = t.statics; nodes = t.nodes.items; links = t.links.items; active = t.active.items } in
    let below = place-bound r t.spans.items t.bases.items t.slots.items t.callees.entries c.self.invariant c.args.self.now c.self.view_is c.args.node c.args.site c.requires.owned c.place-place.result c.place-place.ensures in
    omega (arith, below, ap length c.in_ok-take_room.ensures.slots)

pub push_empty-requires : goal.push_empty-requires
push_empty-requires g c =
    let own : c.span-own.result.count ≡ length (sites_of c.args.callee c.args.self.now.statics.sites) = ap (λ (z : Span). z.count) c.span-own.ensures in
    omega (arith, c.in_ok-take_room.ensures.slot_room, c.in_ok-enter.ensures.len, c.in_ok-enter.ensures.room, c.take_room.new.slots.ok.0, c.enter.new.slots.ok.0)

pub invariant_of-self-2 : goal.invariant_of-self-2
invariant_of-self-2 g c =
    let t = c.self.inside in
    let r : Rows = record { statics = t.statics; nodes = t.nodes.items; links = t.links.items; active = t.active.items } in
    let number : c.new-link.result ≡ length t.links.items = omega (arith, c.new-link.ensures, c.len.ensures, t.links.ok.0) in
    let S : List Slot → Type 0 = λ xs. c.enter.new.slots.items ≡ set xs c.place-place.result (slot_of (Some c.new-link.result)) in
    let entered = subst S c.in_ok-take_room.ensures.slots c.in_ok-enter.ensures.slots in
    let a = adding r t.spans.items t.bases.items t.slots.items t.callees.entries c.self.invariant c.args.self.now c.self.view_is c.args.node c.args.site c.requires.owned c.enter.new.slots.items c.enter.new.callees.entries c.args.callee c.place-place.result c.new-link.result
    c.site-kind.result c.requires.fresh c.site-kind.ensures c.place-place.ensures number entered c.in_ok-enter.ensures.callees in
    let few : length t.links.items < 4294967295 = omega (arith, c.requires.room, ap (λ (z : Rows). length z.links) c.self.view_is) in
    let below : c.args.callee < length t.statics.procs =
    omega (arith, callee-there c.args.self.now c.args.site c.args.callee (subst (λ (z : Rows). All (λ (x : Site). IfSome (callee_of x.kind) (λ p. p < length z.statics.procs)) z.statics.sites) c.self.view_is c.self.invariant.sound.callees_there) c.requires.may_lead, ap (λ (z : Rows). length z.statics.procs) c.self.view_is) in
    let span : c.span-own.result ≡ span_of t.statics.sites c.args.callee = c.span-own.ensures ∙ ap (λ (z : Rows). span_of z.statics.sites c.args.callee) (sym c.self.view_is) in
    let own : c.span-own.result.count ≡ length (sites_of c.args.callee t.statics.sites) = ap (λ (z : Span). z.count) span in
    let end : c.new-end.result ≡ length t.nodes.items = omega (arith, c.new-end.ensures, c.len-3.ensures, c.take_room.new.nodes.ok.0, ap length c.in_ok-take_room.ensures.nodes) in
    let first : c.len-2.result ≡ length t.slots.items = omega (arith, c.len-2.ensures, c.take_room.new.slots.ok.0, ap length c.in_ok-take_room.ensures.slots) in
    let base = (c.len-2.result + (4294967296 - c.span-own.result.first)) % 4294967296 in
    let base_is : base ≡ (length t.slots.items + (4294967296 - first_site c.args.callee t.statics.sites)) % 4294967296 =
    ap (λ n. (n + (4294967296 - c.span-own.result.first)) % 4294967296) first ∙ ap (λ (z : Span). (length t.slots.items + (4294967296 - z.first)) % 4294967296) span in
    let few_slots : length c.push_empty.new.slots.items < 4294967296 =
    omega (arith, ap length c.push_empty.ensures.slots, length-append c.enter.new.slots.items (replicate c.span-own.result.count (slot_of None)), length-replicate c.span-own.result.count (slot_of None), c.in_ok-enter.ensures.len, c.take_room.new.slots.ok.0, c.enter.new.slots.ok.0, c.in_ok-take_room.ensures.few_slots) in
    context-tables t.statics t.spans.items t.nodes.items c.push_reserved.new.self.items t.bases.items c.push_reserved-2.new.self.items t.slots.items c.enter.new.slots.items c.push_empty.new.slots.items t.callees.entries c.enter.new.callees.entries t.links.items c.push_reserved-3.new.self.items t.active.items
    c.args.node c.args.site c.args.callee c.args.calls base c.self.invariant a below
    (c.push_reserved.ensures.items ∙ ap (λ xs. xs ++ c.args.callee ∷ []) c.in_ok-take_room.ensures.nodes)
    (c.push_reserved-2.ensures.items ∙ ap (λ xs. xs ++ base ∷ []) c.in_ok-take_room.ensures.bases)
    base_is few_slots
    (c.push_empty.ensures.slots ∙ ap (λ n. c.enter.new.slots.items ++ replicate n (slot_of None)) own)
    (c.push_reserved-3.ensures.items ∙ ap (λ xs. xs ++ c.row.result ∷ []) c.in_ok-take_room.ensures.links ∙ ap (λ (x : LinkRow). t.links.items ++ x ∷ []) (c.row.ensures ∙ ap (λ n. link_row c.args.node c.args.site n c.args.calls) end))
    few

pub returns-clause-ok : goal.returns-clause-ok
returns-clause-ok g c = grind (arith, common_steps)

pub returns-clause-err : goal.returns-clause-err
returns-clause-err g c = grind (arith, common_steps)

pub returns-clause-statics : goal.returns-clause-statics
returns-clause-statics g c = grind (arith, common_steps)

pub returns-clause-cost : goal.returns-clause-cost
returns-clause-cost g c = grind (arith, common_steps)

pub returns-clause-cost_refused : goal.returns-clause-cost_refused
returns-clause-cost_refused g c = grind (arith, common_steps)

pub returns-clause-forward : goal.returns-clause-forward
returns-clause-forward g c = grind (arith, common_steps)

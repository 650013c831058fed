use Rattle.std.proofs.Common.{arith, List, ℕ, [], ◌++◌, ap, ◌∙◌}
use Rattle.std.proofs.lemmas.Grind.{common_steps}
use Rattle.std.proofs.lemmas.List.{append-nil}
use Rattle.md_dynamic.specs.declared.link.LinkRow.{LinkRow}
use Rattle.md_deepfile.specs.Bytes.{u32, each, link_bytes}
use Rattle.md_deepfile.specs.Pieces.{row_bytes}
use Rattle.md_deepfile.proofs.Writes.{ok_then, err_then, on_same, then_on, stop_first, stop_later, cause_since}
use Rattle.md_deepfile.proofs.writing.write_rows.Goals as goal

pub returns-in-Err-clause-stops : goal.returns-in-Err-clause-stops
returns-in-Err-clause-stops g c =
    let f = c.args.profile.now in
    stop_first c.args.name.now (each u32 c.nodes.result.now) (each (link_bytes 7) f.links) (row_bytes f) (g.S.Store.held c.args.store.now) (g.S.Store.held c.write_each.new.store) c.args.buffer.now.items c.in-Err.ensures.stops
    (ap (λ (ns : List ℕ). each u32 ns ++ each (link_bytes 7) f.links) c.nodes.ensures)

pub returns-clause-stops : goal.returns-clause-stops
returns-clause-stops g c =
    let f = c.args.profile.now in
    err_then c.write_each-2.result _ _ c.write_each-2.ensures.stops
    (λ stops. stop_later c.args.name.now (each u32 c.nodes.result.now) (each (link_bytes 7) c.links.result.now) [] (row_bytes f) (g.S.Store.held c.args.store.now) (g.S.Store.held c.write_each.new.store) (g.S.Store.held c.write_each-2.new.store)
    c.args.buffer.now.items c.write_each.new.buffer.items c.in_default.ensures.on stops
    (append-nil (each u32 c.nodes.result.now ++ each (link_bytes 7) c.links.result.now)
    ∙ ap (λ (ns : List ℕ). each u32 ns ++ each (link_bytes 7) c.links.result.now) c.nodes.ensures ∙ ap (λ (ls : List LinkRow). each u32 f.nodes ++ each (link_bytes 7) ls) c.links.ensures))

pub returns-in-Err-clause-reads : goal.returns-in-Err-clause-reads
returns-in-Err-clause-reads g c = c.in-Err.ensures.reads

pub returns-clause-reads : goal.returns-clause-reads
returns-clause-reads g c = c.write_each-2.ensures.reads ∙ c.in_default.ensures.reads

pub returns-clause-on : goal.returns-clause-on
returns-clause-on g c =
    let f = c.args.profile.now in
    let nodes = each u32 c.nodes.result.now in
    let links = each (link_bytes 7) c.links.result.now in
    let before = g.S.Store.held c.args.store.now in
    let between = g.S.Store.held c.write_each.new.store in
    let now = g.S.Store.held c.write_each-2.new.store in
    ok_then c.write_each-2.result _ _ c.write_each-2.ensures.on
    (λ on. on_same c.args.name.now (nodes ++ links) (row_bytes f) before now c.args.buffer.now.items c.write_each-2.new.buffer.items
    (ap (λ (ns : List ℕ). each u32 ns ++ links) c.nodes.ensures ∙ ap (λ (ls : List LinkRow). each u32 f.nodes ++ each (link_bytes 7) ls) c.links.ensures)
    (then_on c.args.name.now nodes links before between now c.args.buffer.now.items c.write_each.new.buffer.items c.write_each-2.new.buffer.items c.in_default.ensures.on on))

pub returns-in-Err-clause-on : goal.returns-in-Err-clause-on
returns-in-Err-clause-on g c = grind (arith, common_steps)

pub returns-in-Err-clause-cause : goal.returns-in-Err-clause-cause
returns-in-Err-clause-cause g c = c.in-Err.ensures.cause

pub returns-clause-cause : goal.returns-clause-cause
returns-clause-cause g c = cause_since (c.in_default.ensures.cause.kept (λ is. cc is)) c.write_each-2.ensures.cause

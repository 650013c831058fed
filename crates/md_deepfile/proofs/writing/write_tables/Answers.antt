use Rattle.std.proofs.Common.{arith, ◌++◌, ap, refl, ◌∙◌}
use Rattle.std.proofs.lemmas.Grind.{common_steps}
use Rattle.md_static.specs.Tables.{Static}
use Rattle.md_deepfile.specs.Bytes.{each, name_bytes, proc_bytes, site_bytes}
use Rattle.md_deepfile.specs.Pieces.{table_bytes}
use Rattle.md_deepfile.proofs.Writes.{ok_then, err_then, on_same, stop_same, four_stop1, four_stop2, four_stop3, four_on, front_of, table_same, stops_at_once, cause_since}
use Rattle.md_deepfile.proofs.writing.write_tables.Goals as goal

pub returns-in-Err-write_each-clause-stops : goal.returns-in-Err-write_each-clause-stops
returns-in-Err-write_each-clause-stops g c =
    let f = c.args.profile.now in
    stop_same c.args.name.now (front_of c.finished.result ++ (each name_bytes c.modules.result.now ++ (each proc_bytes f.statics.procs ++ each site_bytes f.statics.sites))) (table_bytes f) (g.S.Store.held c.args.store.now) (g.S.Store.held c.write_each.new.store) c.args.buffer.now.items
    (table_same f c.finished.result c.modules.result.now f.statics.procs f.statics.sites c.finished.ensures (c.modules.ensures ∙ ap (λ (s : Static). s.modules) c.statics.ensures) refl refl)
    (four_stop1 c.args.name.now (front_of c.finished.result) (each name_bytes c.modules.result.now) (each proc_bytes f.statics.procs) (each site_bytes f.statics.sites) (g.S.Store.held c.args.store.now) c.args.buffer.now.items c.put_front.new.out.items c.in_default.ensures (g.S.Store.held c.write_each.new.store) c.in-Err-write_each.ensures.stops)

pub returns-in-Err-write_each-2-clause-stops : goal.returns-in-Err-write_each-2-clause-stops
returns-in-Err-write_each-2-clause-stops g c =
    let f = c.args.profile.now in
    stop_same c.args.name.now (front_of c.finished.result ++ (each name_bytes c.modules.result.now ++ (each proc_bytes c.procs.result.now ++ each site_bytes f.statics.sites))) (table_bytes f) (g.S.Store.held c.args.store.now) (g.S.Store.held c.write_each-2.new.store) c.args.buffer.now.items
    (table_same f c.finished.result c.modules.result.now c.procs.result.now f.statics.sites c.finished.ensures (c.modules.ensures ∙ ap (λ (s : Static). s.modules) c.statics.ensures) (c.procs.ensures ∙ ap (λ (s : Static). s.procs) c.statics-2.ensures) refl)
    (four_stop2 c.args.name.now (front_of c.finished.result) (each name_bytes c.modules.result.now) (each proc_bytes c.procs.result.now) (each site_bytes f.statics.sites) (g.S.Store.held c.args.store.now) c.args.buffer.now.items c.put_front.new.out.items c.in_default.ensures (g.S.Store.held c.write_each.new.store) (g.S.Store.held c.write_each-2.new.store) c.write_each.new.buffer.items c.in_default-write_each.ensures.on c.in-Err-write_each-2.ensures.stops)

pub returns-clause-on : goal.returns-clause-on
returns-clause-on g c =
    let f = c.args.profile.now in
    ok_then c.write_each-3.result _ _ c.write_each-3.ensures.on
    (λ last. on_same c.args.name.now (front_of c.finished.result ++ (each name_bytes c.modules.result.now ++ (each proc_bytes c.procs.result.now ++ each site_bytes c.sites.result.now))) (table_bytes f) (g.S.Store.held c.args.store.now) (g.S.Store.held c.write_each-3.new.store) c.args.buffer.now.items c.write_each-3.new.buffer.items
    (table_same f c.finished.result c.modules.result.now c.procs.result.now c.sites.result.now c.finished.ensures (c.modules.ensures ∙ ap (λ (s : Static). s.modules) c.statics.ensures) (c.procs.ensures ∙ ap (λ (s : Static). s.procs) c.statics-2.ensures) (c.sites.ensures ∙ ap (λ (s : Static). s.sites) c.statics-3.ensures))
    (four_on c.args.name.now (front_of c.finished.result) (each name_bytes c.modules.result.now) (each proc_bytes c.procs.result.now) (each site_bytes c.sites.result.now) (g.S.Store.held c.args.store.now) c.args.buffer.now.items c.put_front.new.out.items c.in_default.ensures (g.S.Store.held c.write_each.new.store) (g.S.Store.held c.write_each-2.new.store) (g.S.Store.held c.write_each-3.new.store) c.write_each.new.buffer.items c.write_each-2.new.buffer.items c.write_each-3.new.buffer.items
    c.in_default-write_each.ensures.on c.in_default-write_each-2.ensures.on last))

pub returns-clause-stops : goal.returns-clause-stops
returns-clause-stops g c =
    let f = c.args.profile.now in
    err_then c.write_each-3.result _ _ c.write_each-3.ensures.stops
    (λ stops. stop_same c.args.name.now (front_of c.finished.result ++ (each name_bytes c.modules.result.now ++ (each proc_bytes c.procs.result.now ++ each site_bytes c.sites.result.now))) (table_bytes f) (g.S.Store.held c.args.store.now) (g.S.Store.held c.write_each-3.new.store) c.args.buffer.now.items
    (table_same f c.finished.result c.modules.result.now c.procs.result.now c.sites.result.now c.finished.ensures (c.modules.ensures ∙ ap (λ (s : Static). s.modules) c.statics.ensures) (c.procs.ensures ∙ ap (λ (s : Static). s.procs) c.statics-2.ensures) (c.sites.ensures ∙ ap (λ (s : Static). s.sites) c.statics-3.ensures))
    (four_stop3 c.args.name.now (front_of c.finished.result) (each name_bytes c.modules.result.now) (each proc_bytes c.procs.result.now) (each site_bytes c.sites.result.now) (g.S.Store.held c.args.store.now) c.args.buffer.now.items c.put_front.new.out.items c.in_default.ensures (g.S.Store.held c.write_each.new.store) (g.S.Store.held c.write_each-2.new.store) (g.S.Store.held c.write_each-3.new.store) c.write_each.new.buffer.items c.write_each-2.new.buffer.items
    c.in_default-write_each.ensures.on c.in_default-write_each-2.ensures.on stops))

pub returns-in-Err-clause-stops : goal.returns-in-Err-clause-stops
returns-in-Err-clause-stops g c = stops_at_once c.args.name.now (table_bytes c.args.profile.now) (g.S.Store.held c.args.store.now) c.args.buffer.now.items

pub returns-in-Err-write_each-clause-reads : goal.returns-in-Err-write_each-clause-reads
returns-in-Err-write_each-clause-reads g c = c.in-Err-write_each.ensures.reads

pub returns-in-Err-write_each-2-clause-reads : goal.returns-in-Err-write_each-2-clause-reads
returns-in-Err-write_each-2-clause-reads g c = c.in-Err-write_each-2.ensures.reads ∙ c.in_default-write_each.ensures.reads

pub returns-clause-reads : goal.returns-clause-reads
returns-clause-reads g c = c.write_each-3.ensures.reads ∙ c.in_default-write_each-2.ensures.reads ∙ c.in_default-write_each.ensures.reads

pub returns-in-Err-write_each-2-clause-on : goal.returns-in-Err-write_each-2-clause-on
returns-in-Err-write_each-2-clause-on g c = grind (arith, common_steps)

pub returns-in-Err-write_each-clause-on : goal.returns-in-Err-write_each-clause-on
returns-in-Err-write_each-clause-on g c = grind (arith, common_steps)

pub returns-in-Err-clause-on : goal.returns-in-Err-clause-on
returns-in-Err-clause-on g c = grind (arith, common_steps)

pub returns-in-Err-clause-reads : goal.returns-in-Err-clause-reads
returns-in-Err-clause-reads g c = grind (arith, common_steps)

pub returns-in-Err-write_each-clause-cause : goal.returns-in-Err-write_each-clause-cause
returns-in-Err-write_each-clause-cause g c = c.in-Err-write_each.ensures.cause

pub returns-in-Err-write_each-2-clause-cause : goal.returns-in-Err-write_each-2-clause-cause
returns-in-Err-write_each-2-clause-cause g c = cause_since (c.in_default-write_each.ensures.cause.kept (λ is. cc is)) c.in-Err-write_each-2.ensures.cause

pub returns-clause-cause : goal.returns-clause-cause
returns-clause-cause g c =
    cause_since (c.in_default-write_each-2.ensures.cause.kept (λ is. cc is) ∙ c.in_default-write_each.ensures.cause.kept (λ is. cc is)) c.write_each-3.ensures.cause

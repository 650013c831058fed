use Rattle.std.proofs.Common.{ℕ, List, subst, arith, [], ◌++◌, ◌∙◌}
use Rattle.std.proofs.lemmas.Grind.{common_steps}
use Rattle.std.proofs.lemmas.List.{append-nil}
use Rattle.md_deepfile.specs.Bytes.{file_bytes}
use Rattle.md_deepfile.specs.Pieces.{WritesOn, table_bytes, row_bytes}
use Rattle.md_deepfile.proofs.Writes.{err_then, ok_both, on_same, stop_first, stop_later, then_on, file_parts, cause_since}
use Rattle.md_deepfile.proofs.writing.write_all.Goals as goal

pub returns-in-Err-clause-stops : goal.returns-in-Err-clause-stops
returns-in-Err-clause-stops g c =
    let f = c.args.profile.now in
    stop_first c.args.name.now (table_bytes f) (row_bytes f) (file_bytes f) (g.S.Store.held c.args.store.now) (g.S.Store.held c.write_tables.new.store) c.args.buffer.now.items c.in-Err.ensures.stops (file_parts f)

pub returns-in-Err-write_rows-clause-stops : goal.returns-in-Err-write_rows-clause-stops
returns-in-Err-write_rows-clause-stops g c =
    let f = c.args.profile.now in
    stop_later c.args.name.now (table_bytes f) (row_bytes f) [] (file_bytes f) (g.S.Store.held c.args.store.now) (g.S.Store.held c.write_tables.new.store) (g.S.Store.held c.write_rows.new.store) c.args.buffer.now.items c.write_tables.new.buffer.items
    c.in_default.ensures.on c.in-Err-write_rows.ensures.stops (append-nil (table_bytes f ++ row_bytes f) ∙ file_parts f)

pub returns-clause-stops : goal.returns-clause-stops
returns-clause-stops g c =
    let f = c.args.profile.now in
    err_then c.empty.result _ _ c.empty.ensures.stops
    (λ stops. stop_later c.args.name.now (table_bytes f ++ row_bytes f) [] [] (file_bytes f) (g.S.Store.held c.args.store.now) (g.S.Store.held c.write_rows.new.store) (g.S.Store.held c.empty.new.store) c.args.buffer.now.items c.write_rows.new.buffer.items
    (then_on c.args.name.now (table_bytes f) (row_bytes f) (g.S.Store.held c.args.store.now) (g.S.Store.held c.write_tables.new.store) (g.S.Store.held c.write_rows.new.store) c.args.buffer.now.items c.write_tables.new.buffer.items c.write_rows.new.buffer.items
    c.in_default.ensures.on c.in_default-write_rows.ensures.on)
    stops (append-nil ((table_bytes f ++ row_bytes f) ++ []) ∙ append-nil (table_bytes f ++ row_bytes f) ∙ file_parts f))

pub returns-in-Err-clause-reads : goal.returns-in-Err-clause-reads
returns-in-Err-clause-reads g c = c.in-Err.ensures.reads

pub returns-in-Err-write_rows-clause-reads : goal.returns-in-Err-write_rows-clause-reads
returns-in-Err-write_rows-clause-reads g c = c.in-Err-write_rows.ensures.reads ∙ c.in_default.ensures.reads

pub returns-clause-reads : goal.returns-clause-reads
returns-clause-reads g c = c.empty.ensures.reads ∙ c.in_default-write_rows.ensures.reads ∙ c.in_default.ensures.reads

pub returns-clause-on : goal.returns-clause-on
returns-clause-on g c =
    let f = c.args.profile.now in
    let name = c.args.name.now in
    let tables = table_bytes f in
    let rows = row_bytes f in
    let before = g.S.Store.held c.args.store.now in
    let now = g.S.Store.held c.empty.new.store in
    let put = c.args.buffer.now.items in
    ok_both c.empty.result _ _ _ c.empty.ensures.on c.empty.ensures.emptied
    (λ on none. subst (λ (xs : List ℕ). WritesOn name (file_bytes f) before put now xs) none
    (on_same name ((tables ++ rows) ++ []) (file_bytes f) before now put c.empty.new.buffer.items (append-nil (tables ++ rows) ∙ file_parts f)
    (then_on name (tables ++ rows) [] before (g.S.Store.held c.write_rows.new.store) now put c.write_rows.new.buffer.items c.empty.new.buffer.items
    (then_on name tables rows before (g.S.Store.held c.write_tables.new.store) (g.S.Store.held c.write_rows.new.store) put c.write_tables.new.buffer.items c.write_rows.new.buffer.items c.in_default.ensures.on c.in_default-write_rows.ensures.on)
    on)))

pub returns-in-Err-clause-on : goal.returns-in-Err-clause-on
returns-in-Err-clause-on g c = grind (arith, common_steps)

pub returns-in-Err-write_rows-clause-on : goal.returns-in-Err-write_rows-clause-on
returns-in-Err-write_rows-clause-on g c = grind (arith, common_steps)

pub returns-in-Err-clause-cause : goal.returns-in-Err-clause-cause
returns-in-Err-clause-cause g c = c.in-Err.ensures.cause

pub returns-in-Err-write_rows-clause-cause : goal.returns-in-Err-write_rows-clause-cause
returns-in-Err-write_rows-clause-cause g c = cause_since (c.in_default.ensures.cause.kept (λ is. cc is)) c.in-Err-write_rows.ensures.cause

pub returns-clause-cause : goal.returns-clause-cause
returns-clause-cause g c = cause_since (c.in_default-write_rows.ensures.cause.kept (λ is. cc is) ∙ c.in_default.ensures.cause.kept (λ is. cc is)) c.empty.ensures.cause

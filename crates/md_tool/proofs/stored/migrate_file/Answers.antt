use Rattle.md_base.specs.Outside.{Rose}
use Rattle.md_deepfile.specs.Bytes.{file_bytes}
use Rattle.md_tool.specs.Stored.{migrated}
use Rattle.md_tool.proofs.StoredLemmas.{migrated_ends, from_before}
use Rattle.md_tool.proofs.stored.migrate_file.Goals as goal

pub returns-clause-ends : goal.returns-clause-ends
returns-clause-ends g c =
    migrated_ends (g.S.Store.held c.args.store.now) (g.S.Store.held c.store_told.new.store) c.args.name.now c.args.new.now (g.O.Sink.held c.args.out.now) (g.O.Sink.held c.store_told.new.out)
    (Rose (g.S.Store.read_faults c.args.store.now) (g.S.Store.read_faults c.store_told.new.store))
    (Rose (g.S.Store.write_faults c.args.store.now) (g.S.Store.write_faults c.store_told.new.store))
    (Rose (g.O.Sink.write_faults c.args.out.now) (g.O.Sink.write_faults c.store_told.new.out))
    c.in_ok-profile.profile c.store_told.result c.in_ok-profile.ensures.read
    (from_before migrated c.args.new.now (file_bytes c.in_ok-profile.profile) (g.S.Store.held c.args.store.now) (g.S.Store.held c.load_profile.new.store) (g.S.Store.held c.store_told.new.store)
    (g.O.Sink.held c.args.out.now) (g.O.Sink.held c.store_told.new.out)
    (g.S.Store.write_faults c.args.store.now) (g.S.Store.write_faults c.load_profile.new.store) (g.S.Store.write_faults c.store_told.new.store)
    (Rose (g.O.Sink.write_faults c.args.out.now) (g.O.Sink.write_faults c.store_told.new.out)) c.store_told.result
    c.in_ok-profile.ensures.kept c.in_ok-profile.ensures.writes c.store_told.ensures.ends)

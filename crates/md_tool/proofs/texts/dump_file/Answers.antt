use Rattle.md_base.specs.Outside.{Rose}
use Rattle.md_tool.proofs.TextLemmas.{dumped}
use Rattle.md_tool.proofs.texts.dump_file.Goals as goal

pub returns-clause-ends : goal.returns-clause-ends
returns-clause-ends g c =
    dumped (g.S.Store.held c.args.store.now) c.args.name.now (g.O.Sink.held c.args.out.now) (g.O.Sink.held c.write_dump.new.out)
    (Rose (g.S.Store.read_faults c.args.store.now) (g.S.Store.read_faults c.load_profile.new.store))
    (Rose (g.O.Sink.write_faults c.args.out.now) (g.O.Sink.write_faults c.write_dump.new.out))
    c.in_ok-profile.profile c.write_dump.result c.in_ok-profile.ensures.read c.write_dump.ensures.ends

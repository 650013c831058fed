use Rattle.md_base.specs.Outside.{Rose}
use Rattle.md_tool.specs.Served.{net_side}
use Rattle.md_commands.specs.Form.{words_of, form}
use Rattle.md_tool.proofs.StatusLemmas.{top_means, store_kept}
use Rattle.md_tool.proofs.command.top.Goals as goal

pub returns-clause-status : goal.returns-clause-status
returns-clause-status g c =
    top_means (form (words_of c.args.words.now)) (g.S.Store.held c.args.store.now) (g.S.Store.held c.run_command.new.store) (net_side (g.N.Net.connections c.args.net.now) (g.N.Net.listens_at c.args.net.now)) (net_side (g.N.Net.connections c.run_command.new.net) (g.N.Net.listens_at c.run_command.new.net)) (g.O.Sink.held c.args.out.now) (g.O.Sink.held c.run_command.new.out)
    (g.E.Sink.held c.args.err.now) (g.E.Sink.held c.run_command.new.err)
    (Rose (g.S.Store.read_faults c.args.store.now) (g.S.Store.read_faults c.run_command.new.store))
    (Rose (g.S.Store.write_faults c.args.store.now) (g.S.Store.write_faults c.run_command.new.store))
    (Rose (g.O.Sink.write_faults c.args.out.now) (g.O.Sink.write_faults c.run_command.new.out))
    (Rose (g.E.Sink.write_faults c.args.err.now) (g.E.Sink.write_faults c.run_command.new.err))
    (Rose (g.N.Net.faults c.args.net.now) (g.N.Net.faults c.run_command.new.net)) c.run_command.result c.run_command.ensures.ends

pub returns-clause-store : goal.returns-clause-store
returns-clause-store g c =
    store_kept (form (words_of c.args.words.now)) (g.S.Store.held c.args.store.now) (g.S.Store.held c.run_command.new.store) (net_side (g.N.Net.connections c.args.net.now) (g.N.Net.listens_at c.args.net.now)) (net_side (g.N.Net.connections c.run_command.new.net) (g.N.Net.listens_at c.run_command.new.net)) (g.O.Sink.held c.args.out.now) (g.O.Sink.held c.run_command.new.out)
    (g.E.Sink.held c.args.err.now) (g.E.Sink.held c.run_command.new.err)
    (Rose (g.S.Store.read_faults c.args.store.now) (g.S.Store.read_faults c.run_command.new.store))
    (Rose (g.S.Store.write_faults c.args.store.now) (g.S.Store.write_faults c.run_command.new.store))
    (Rose (g.O.Sink.write_faults c.args.out.now) (g.O.Sink.write_faults c.run_command.new.out))
    (Rose (g.E.Sink.write_faults c.args.err.now) (g.E.Sink.write_faults c.run_command.new.err))
    (Rose (g.N.Net.faults c.args.net.now) (g.N.Net.faults c.run_command.new.net)) c.run_command.result c.run_command.ensures.ends

pub returns-clause-faults : goal.returns-clause-faults
returns-clause-faults g c = c.run_command.ensures.faults

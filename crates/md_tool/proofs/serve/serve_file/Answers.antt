use Rattle.md_base.specs.Outside.{Rose}
use Rattle.md_tool.specs.Served.{net_side}
use Rattle.md_tool.proofs.ServeLemmas.{served_after}
use Rattle.md_tool.proofs.serve.serve_file.Goals as goal
use Rattle.std.proofs.Common.{arith}
use Rattle.std.proofs.lemmas.Grind.{common_steps}

pub returns-clause-ends : goal.returns-clause-ends
returns-clause-ends g c =
    served_after (g.S.Store.held c.args.store.now) c.args.name.now c.args.port c.args.requests (net_side (g.N.Net.connections c.args.net.now) (g.N.Net.listens_at c.args.net.now)) (net_side (g.N.Net.connections c.serve_loaded.new.net) (g.N.Net.listens_at c.serve_loaded.new.net)) (g.O.Sink.held c.args.out.now) (g.O.Sink.held c.serve_loaded.new.out)
    (Rose (g.S.Store.read_faults c.args.store.now) (g.S.Store.read_faults c.load_file.new.store))
    (Rose (g.O.Sink.write_faults c.args.out.now) (g.O.Sink.write_faults c.serve_loaded.new.out))
    (Rose (g.N.Net.faults c.args.net.now) (g.N.Net.faults c.serve_loaded.new.net))
    c.serve_loaded.result (c.serve_loaded.ensures.ends (g.S.Store.held c.args.store.now) c.args.name.now c.in_ok-loaded.ensures.loaded)

pub returns-in_err-loaded-clause-ends : goal.returns-in_err-loaded-clause-ends
returns-in_err-loaded-clause-ends g c = grind (arith, common_steps)

pub returns-in_err-loaded-clause-kept : goal.returns-in_err-loaded-clause-kept
returns-in_err-loaded-clause-kept g c = grind (arith, common_steps)

pub returns-clause-kept : goal.returns-clause-kept
returns-clause-kept g c = grind (arith, common_steps)

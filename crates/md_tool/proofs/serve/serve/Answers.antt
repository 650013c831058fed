use Rattle.std.proofs.Common.{sym, subst, Ok, Err}
use Rattle.md_base.specs.Outside.{Rose}
use Rattle.md_base.proofs.Told.{rose_at}
use Rattle.md_tool.specs.declared.fault.Fault.{Fault}
use Rattle.md_tool.specs.Served.{ConnectionsEnd}
use Rattle.md_tool.proofs.ServeLemmas.{connections_failed, told_served}
use Rattle.md_tool.proofs.serve.serve.Goals as goal

pub returns-in-Err-clause-ends : goal.returns-in-Err-clause-ends
returns-in-Err-clause-ends g c v is =
    subst
    (λ (f : Fault). ConnectionsEnd v c.args.requests (g.N.Net.connections c.args.net.now) (g.N.Net.connections c.serve_connections.new.net)
    (Rose (g.N.Net.faults c.args.net.now) (g.N.Net.faults c.serve_connections.new.net)) (Err f))
    (sym c.fault_of.ensures)
    (connections_failed v c.args.requests (g.N.Net.connections c.args.net.now) (g.N.Net.connections c.serve_connections.new.net)
    (Rose (g.N.Net.faults c.args.net.now) (g.N.Net.faults c.serve_connections.new.net)) c.serve_connections.result c.in-Err.fault c.in-Err.is (rose_at _ _ _ _ c.serve_connections.ensures.cause)
    (λ before told. c.serve_connections.ensures.served v before is told))

pub returns-in-Ok-clause-ends : goal.returns-in-Ok-clause-ends
returns-in-Ok-clause-ends g c v is = (
  c.in-Ok.ensures.counts,
  told_served v c.args.requests (g.N.Net.connections c.args.net.now) (g.N.Net.connections c.serve_connections.new.net) (Ok c.in-Ok.tally) (λ before told. c.in-Ok.ensures.served v before is told),
)

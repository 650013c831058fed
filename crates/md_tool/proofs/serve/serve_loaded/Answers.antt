use Rattle.std.proofs.Common.{◌∙◌}
use Rattle.std.proofs.lemmas.Result.{err_from_is_err_and}
use Rattle.md_base.specs.Outside.{Rose}
use Rattle.md_tool.specs.Served.{net_side}
use Rattle.md_tool.proofs.ServeLemmas.{loadable, same_net, unbound, unserved_from, served_from}
use Rattle.md_tool.proofs.StreamLemmas.{rose_after}
use Rattle.md_tool.proofs.serve.serve_loaded.Goals as goal

pub returns-in_err-tally-clause-ends : goal.returns-in_err-tally-clause-ends
returns-in_err-tally-clause-ends g c held name from =
    let p = err_from_is_err_and c.from_residual-in_err-tally.result c.from_residual-in_err-tally.ensures.1 in
    rw (p.1, p.2)
    (unserved_from held name c.args.port c.args.requests (net_side (g.N.Net.connections c.args.net.now) (g.N.Net.listens_at c.args.net.now)) (net_side (g.N.Net.connections c.serve.new.net) (g.N.Net.listens_at c.serve.new.net)) (g.N.Net.connections c.bind.new.net) (g.O.Sink.held c.args.out.now)
    ⊥ (Rose (g.O.Sink.write_faults c.args.out.now) (g.O.Sink.write_faults c.args.out.now))
    (Rose (g.N.Net.faults c.bind.new.net) (g.N.Net.faults c.serve.new.net)) (Rose (g.N.Net.faults c.args.net.now) (g.N.Net.faults c.serve.new.net))
    c.args.loaded.now c.profile-viewed.ensures.viewed.0 c.in_err-tally.field-0.0 from c.profile-viewed.ensures.viewed.1
    (rose_after (g.N.Net.faults c.args.net.now) (g.N.Net.faults c.bind.new.net) (g.N.Net.faults c.serve.new.net) c.in_ok-bind.ensures.cause.later)
    (c.in_err-tally.ensures.stays ∙ c.in_ok-bind.ensures.bound)
    c.in_ok-bind.ensures.kept (c.in_err-tally.ensures.ends c.profile-viewed.ensures.viewed.0 c.profile-viewed.ensures.viewed.1))

pub returns-clause-ends : goal.returns-clause-ends
returns-clause-ends g c held name from =
    served_from held name c.args.port c.args.requests (net_side (g.N.Net.connections c.args.net.now) (g.N.Net.listens_at c.args.net.now)) (net_side (g.N.Net.connections c.serve.new.net) (g.N.Net.listens_at c.serve.new.net)) (g.N.Net.connections c.bind.new.net) (g.O.Sink.held c.args.out.now)
    (g.O.Sink.held c.tell_tally.new.out)
    ⊥ (Rose (g.O.Sink.write_faults c.args.out.now) (g.O.Sink.write_faults c.tell_tally.new.out))
    (Rose (g.N.Net.faults c.bind.new.net) (g.N.Net.faults c.serve.new.net)) (Rose (g.N.Net.faults c.args.net.now) (g.N.Net.faults c.serve.new.net))
    c.args.loaded.now c.profile-viewed.ensures.viewed.0 c.in_ok-tally.tally c.tell_tally.result from c.profile-viewed.ensures.viewed.1
    (c.in_ok-tally.ensures.stays ∙ c.in_ok-bind.ensures.bound) c.in_ok-bind.ensures.kept (c.in_ok-tally.ensures.ends c.profile-viewed.ensures.viewed.0 c.profile-viewed.ensures.viewed.1) c.tell_tally.ensures.ends

pub returns-in_err-bind-clause-ends : goal.returns-in_err-bind-clause-ends
returns-in_err-bind-clause-ends g c held name from =
    let p = err_from_is_err_and c.from_residual.result c.from_residual.ensures.1 in
    rw (p.1, p.2)
    (unbound held name c.args.port c.args.requests (net_side (g.N.Net.connections c.args.net.now) (g.N.Net.listens_at c.args.net.now)) (net_side (g.N.Net.connections c.bind.new.net) (g.N.Net.listens_at c.bind.new.net)) (g.O.Sink.held c.args.out.now)
    ⊥ (Rose (g.O.Sink.write_faults c.args.out.now) (g.O.Sink.write_faults c.args.out.now))
    (Rose (g.N.Net.faults c.args.net.now) (g.N.Net.faults c.bind.new.net)) c.in_err-bind.field-0.0
    (loadable held name c.args.loaded.now c.profile-viewed.ensures.viewed.0 from c.profile-viewed.ensures.viewed.1)
    (same_net _ _ _ _ c.in_err-bind.ensures.kept c.in_err-bind.ensures.stays) c.in_err-bind.ensures.ends)

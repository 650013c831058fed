use Rattle.md_base.specs.Outside.{Rose}
use Rattle.law_generated.specs.Generated.{most_steps}
use Rattle.md_tool.proofs.GenLemmas.{summed, unsummed}
use Rattle.md_tool.proofs.generate.show_menu.Goals as goal

pub returns-in-Ok-clause-ends : goal.returns-in-Ok-clause-ends
returns-in-Ok-clause-ends g c =
    let its = c.requires.profiled in
    summed c.args.n c.requires.some c.requires.few (g.O.Sink.held c.args.out.now) (g.O.Sink.held c.show_page.new.out) (Rose (g.O.Sink.write_faults c.args.out.now) (g.O.Sink.write_faults c.show_page.new.out))
    c.args.profiled its c.ended.result (c.in-Ok.ensures.ends its.accepted.program most_steps its.bounds its.is_profiled.is_profile) c.ended.ensures

pub returns-in-Err-clause-ends : goal.returns-in-Err-clause-ends
returns-in-Err-clause-ends g c =
    let its = c.requires.profiled in
    unsummed c.args.n c.requires.some c.requires.few (g.O.Sink.held c.args.out.now) (g.O.Sink.held c.show_page.new.out) (Rose (g.O.Sink.write_faults c.args.out.now) (g.O.Sink.write_faults c.show_page.new.out))
    c.args.profiled its c.in-Err.fault (c.in-Err.ensures.ends its.accepted.program most_steps its.bounds its.is_profiled.is_profile)

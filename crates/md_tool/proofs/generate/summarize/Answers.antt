use Rattle.std.proofs.Common.{subst, List, ℕ}
use Rattle.md_base.specs.Outside.{Rose}
use Rattle.md_tool.specs.Accepted.{TextFault}
use Rattle.law_generated.specs.Generated.{most_steps}
use Rattle.md_tool.specs.Ran.{IsProfiledText}
use Rattle.md_tool.proofs.GenLemmas.{unaccepted}
use Rattle.md_tool.proofs.generate.summarize.Goals as goal

pub show_menu-requires-clause-profiled : goal.show_menu-requires-clause-profiled
show_menu-requires-clause-profiled g c = subst (λ (text : List ℕ). IsProfiledText text most_steps c.in-Ok.profiled) c.requires.text c.in-Ok.ensures

pub returns-in-Err-clause-ends : goal.returns-in-Err-clause-ends
returns-in-Err-clause-ends g c =
    unaccepted c.args.n c.requires.some c.requires.few (g.O.Sink.held c.args.out.now) (Rose (g.O.Sink.write_faults c.args.out.now) (g.O.Sink.write_faults c.args.out.now)) c.in-Err.fault
    (subst (λ (text : List ℕ). TextFault text c.in-Err.fault) c.requires.text c.in-Err.ensures)

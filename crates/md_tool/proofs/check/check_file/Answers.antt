use Rattle.std.proofs.Common.{subst, sym}
use Rattle.md_base.specs.Outside.{Rose}
use Rattle.md_hlds.specs.declared.program.Program.{Program}
use Rattle.md_hlds.specs.Hlds.{hlds_of}
use Rattle.md_tool.specs.Accepted.{Accepts}
use Rattle.md_tool.proofs.CheckLemmas.{check_shown}
use Rattle.md_tool.proofs.check.check_file.Goals as goal

pub returns-clause-ends : goal.returns-clause-ends
returns-clause-ends g c =
    check_shown (g.S.Store.held c.args.store.now) c.args.file.now c.in_ok-text.text.items c.args.printing (hlds_of c.program.result.now)
    (g.O.Sink.held c.args.out.now) (g.O.Sink.held c.show.new.out)
    (Rose (g.S.Store.read_faults c.args.store.now) (g.S.Store.read_faults c.read_text.new.store))
    (Rose (g.O.Sink.write_faults c.args.out.now) (g.O.Sink.write_faults c.show.new.out))
    c.show.result c.in_ok-text.ensures.read
    (subst (λ (p : Program). Accepts c.in_ok-text.text.items (hlds_of p)) (sym c.program.ensures.program) (rw c.deref.ensures.value at c.in_ok-checked.ensures))
    c.show.ensures.ends

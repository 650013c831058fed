use Rattle.std.proofs.Common.{[], subst, sym}
use Rattle.md_deepfile.specs.Format.{bytes}
use Rattle.md_deepfile.specs.State.{state_of, name_told, Follows}
use Rattle.md_deepfile.specs.declared.part.Named.{Named}
use Rattle.md_deepfile.proofs.reader.Reader.length.Goals as goal

pub returns-in-Module-clause-follows : goal.returns-in-Module-clause-follows
returns-in-Module-clause-follows c =
    let s = state_of c.args.self.now in
    subst (λ (which : Named). Follows (bytes c.args.length [] (name_told which s)) s.at (state_of c.module_length.new.self) c.module_length.result) (sym c.in-Module.is) c.module_length.ensures.follows

pub returns-in-Proc-clause-follows : goal.returns-in-Proc-clause-follows
returns-in-Proc-clause-follows c =
    let s = state_of c.args.self.now in
    subst (λ (which : Named). Follows (bytes c.args.length [] (name_told which s)) s.at (state_of c.proc_length.new.self) c.proc_length.result) (sym c.in-Proc.is) c.proc_length.ensures.follows

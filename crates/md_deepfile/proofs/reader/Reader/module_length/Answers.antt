use Rattle.md_deepfile.specs.Fields.{module_told}
use Rattle.md_deepfile.specs.State.{state_of, next_module}
use Rattle.md_deepfile.proofs.Reading.{no_bytes}
use Rattle.md_deepfile.proofs.reader.Reader.module_length.Goals as goal

pub returns-then-length-eq0-clause-follows : goal.returns-then-length-eq0-clause-follows
returns-then-length-eq0-clause-follows c =
    let s = state_of c.args.self.now in
    no_bytes c.args.length c.clear.new.self.items (module_told s.rows (next_module s)) s.at (state_of c.module_name.new.self) c.module_name.result c.if-length-eq0.true c.clear.ensures.items c.module_name.ensures.follows

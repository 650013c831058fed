use Rattle.md_deepfile.specs.Fields.{proc_told}
use Rattle.md_deepfile.specs.State.{state_of, next_proc}
use Rattle.md_deepfile.proofs.Reading.{no_bytes}
use Rattle.md_deepfile.proofs.reader.Reader.proc_length.Goals as goal

pub returns-then-length-eq0-clause-follows : goal.returns-then-length-eq0-clause-follows
returns-then-length-eq0-clause-follows c =
    let s = state_of c.args.self.now in
    no_bytes c.args.length c.clear.new.self.items (proc_told s.rows (next_proc s) c.args.home) s.at (state_of c.proc_name.new.self) c.proc_name.result c.if-length-eq0.true c.clear.ensures.items c.proc_name.ensures.follows

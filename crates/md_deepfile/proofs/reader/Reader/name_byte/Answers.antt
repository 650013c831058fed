use Rattle.std.proofs.Common.{◌-◌, ◌++◌, ◌∷◌, [], arith}
use Rattle.md_deepfile.specs.State.{state_of}
use Rattle.md_deepfile.proofs.Reading.{name_whole}
use Rattle.md_deepfile.proofs.reader.Reader.name_byte.Goals as goal

pub returns-clause-follows : goal.returns-clause-follows
returns-clause-follows c =
    let s = state_of c.args.self.now in
    name_whole c.args.which s (s.left - 1) (s.left - 1) (s.carry ++ c.args.byte ∷ []) c.push.new.self.items s.at (state_of c.name.new.self) c.name.result (omega arith) c.in_ok-push.ensures.items c.name.ensures.follows

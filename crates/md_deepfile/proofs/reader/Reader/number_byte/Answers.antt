use Rattle.std.proofs.Common.{◌-◌, ◌++◌, ◌∷◌, [], arith}
use Rattle.std.proofs.lemmas.Grind.{common_steps}
use Rattle.md_deepfile.specs.State.{state_of}
use Rattle.md_deepfile.proofs.Reading.{number_stays, number_whole}
use Rattle.md_deepfile.proofs.reader.Reader.number_byte.Goals as goal

pub returns-then-self-gt0-clause-follows : goal.returns-then-self-gt0-clause-follows
returns-then-self-gt0-clause-follows c =
    let s = state_of c.args.self.now in
    number_stays c.args.field s (s.left - 1) (s.carry ++ c.args.byte ∷ []) c.push.new.self.items c.requires.stands c.in_ok-push.ensures.items

pub returns-clause-follows : goal.returns-clause-follows
returns-clause-follows c =
    let s = state_of c.args.self.now in
    number_whole c.args.field s (s.left - 1) (s.left - 1) (s.carry ++ c.args.byte ∷ []) c.push.new.self.items c.carried-number.result s.at (state_of c.number.new.self) c.number.result (omega arith) c.in_ok-push.ensures.items c.carried-number.ensures c.number.ensures.follows

pub returns-clause-ready : goal.returns-clause-ready
returns-clause-ready c = grind (arith, common_steps)

pub returns-then-self-gt0-clause-ready : goal.returns-then-self-gt0-clause-ready
returns-then-self-gt0-clause-ready c = grind (arith, common_steps)

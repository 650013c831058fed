use Rattle.md_deepfile.specs.State.{state_of}
use Rattle.std.proofs.Common.{refl}
use Rattle.md_deepfile.proofs.Ahead.{form_number, number_taken, number_damaged}
use Rattle.md_deepfile.proofs.reader.Reader.whole_number.Goals as goal

pub returns-in-Ok-clause-follows : goal.returns-in-Ok-clause-follows
returns-in-Ok-clause-follows c =
    let s = state_of c.args.self.now in
    number_taken c.args.field s (state_of c.number.new.self) c.args.bytes.now c.number_at.result _ (form_number c.args.field s c.requires.stands c.requires.whole c.requires.ready) c.requires.four c.number_at.ensures refl c.in-Ok.ensures.follows

pub returns-in-Err-clause-follows : goal.returns-in-Err-clause-follows
returns-in-Err-clause-follows c =
    let s = state_of c.args.self.now in
    number_damaged c.args.field s (state_of c.number.new.self) c.args.bytes.now c.number_at.result _ c.in-Err.fault (form_number c.args.field s c.requires.stands c.requires.whole c.requires.ready) c.requires.four c.number_at.ensures refl c.in-Err.ensures.follows

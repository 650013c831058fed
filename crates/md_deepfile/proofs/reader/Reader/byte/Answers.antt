use Rattle.std.proofs.Common.{◌+◌, subst, sym, refl, arith}
use Rattle.std.proofs.lemmas.Grind.{common_steps}
use Rattle.md_deepfile.specs.Fields.{flag_told}
use Rattle.md_deepfile.specs.State.{state_of, form_at, width, FollowsByte, IsReadyPart}
use Rattle.md_deepfile.specs.declared.part.Part.{Part}
use Rattle.md_deepfile.proofs.Reading.{byte_follows, number_follows, name_follows, length_follows}
use Rattle.md_deepfile.proofs.reader.Reader.byte.Goals as goal

pub returns-in-Magic-clause-follows : goal.returns-in-Magic-clause-follows
returns-in-Magic-clause-follows c =
    let s = state_of c.args.self.now in
    subst (λ (p : Part). FollowsByte (form_at p s) c.args.next s.at (state_of c.magic.new.self) c.magic.result) (sym c.in-Magic.is) (c.magic.ensures.follows s.at refl)

pub returns-in-Flag-clause-follows : goal.returns-in-Flag-clause-follows
returns-in-Flag-clause-follows c =
    let s = state_of c.args.self.now in
    subst (λ (p : Part). FollowsByte (form_at p s) c.args.next s.at (state_of c.flag.new.self) c.flag.result) (sym c.in-Flag.is) (byte_follows (flag_told (width s.version)) c.args.next s.at (s.at + 1) (state_of c.flag.new.self) c.flag.result refl c.flag.ensures.follows)

pub returns-in-Number-clause-follows : goal.returns-in-Number-clause-follows
returns-in-Number-clause-follows c =
    let s = state_of c.args.self.now in
    subst (λ (p : Part). FollowsByte (form_at p s) c.args.next s.at (state_of c.number_byte.new.self) c.number_byte.result) (sym c.in-Number.is) (number_follows c.in-Number.field s c.args.next (state_of c.number_byte.new.self) c.number_byte.result (subst (λ (p : Part). IsReadyPart p s) c.in-Number.is c.requires.part).0 c.number_byte.ensures.follows)

pub returns-in-Length-clause-follows : goal.returns-in-Length-clause-follows
returns-in-Length-clause-follows c =
    let s = state_of c.args.self.now in
    subst (λ (p : Part). FollowsByte (form_at p s) c.args.next s.at (state_of c.length.new.self) c.length.result) (sym c.in-Length.is) (length_follows c.in-Length.which s c.args.next (state_of c.length.new.self) c.length.result c.length.ensures.follows)

pub returns-in-Name-clause-follows : goal.returns-in-Name-clause-follows
returns-in-Name-clause-follows c =
    let s = state_of c.args.self.now in
    subst (λ (p : Part). FollowsByte (form_at p s) c.args.next s.at (state_of c.name_byte.new.self) c.name_byte.result) (sym c.in-Name.is) (name_follows c.in-Name.which s c.args.next (state_of c.name_byte.new.self) c.name_byte.result (subst (λ (p : Part). IsReadyPart p s) c.in-Name.is c.requires.part) c.name_byte.ensures.follows)

pub returns-in-Name-clause-ready : goal.returns-in-Name-clause-ready
returns-in-Name-clause-ready c = grind (arith, common_steps)

pub returns-in-Length-clause-ready : goal.returns-in-Length-clause-ready
returns-in-Length-clause-ready c = grind (arith, common_steps)

pub returns-in-Magic-clause-ready : goal.returns-in-Magic-clause-ready
returns-in-Magic-clause-ready c = grind (arith, common_steps)

pub returns-in-Number-clause-ready : goal.returns-in-Number-clause-ready
returns-in-Number-clause-ready c = grind (arith, common_steps)

pub returns-in-Arity-clause-follows : goal.returns-in-Arity-clause-follows
returns-in-Arity-clause-follows c = grind (arith, common_steps)

pub returns-in-Arity-clause-ready : goal.returns-in-Arity-clause-ready
returns-in-Arity-clause-ready c = grind (arith, common_steps)

pub returns-in-End-clause-follows : goal.returns-in-End-clause-follows
returns-in-End-clause-follows c = grind (arith, common_steps)

pub returns-in-End-clause-ready : goal.returns-in-End-clause-ready
returns-in-End-clause-ready c = grind (arith, common_steps)

pub returns-in-Flag-clause-ready : goal.returns-in-Flag-clause-ready
returns-in-Flag-clause-ready c = grind (arith, common_steps)

use Rattle.std.proofs.Common.{sym, subst, arith}
use Rattle.md_deepfile.specs.Fields.{Text, version_told}
use Rattle.md_deepfile.specs.Format.{byte}
use Rattle.md_deepfile.specs.State.{FollowsByte, state_of}
use Rattle.md_deepfile.proofs.Reading.{byte_follows, magic_goes, magic_fails, magic_all}
use Rattle.md_deepfile.proofs.reader.Reader.magic.Goals as goal

pub returns-then-place-eq7-clause-follows : goal.returns-then-place-eq7-clause-follows
returns-then-place-eq7-clause-follows c = λ at is.
    subst (λ (t : Text). FollowsByte t c.args.next at (state_of c.version.new.self) c.version.result) (sym (magic_all c.args.place (byte version_told) c.if-place-eq7.true))
    (byte_follows version_told c.args.next at c.args.self.now.at (state_of c.version.new.self) c.version.result is c.version.ensures.follows)

pub returns-then-next-place-clause-follows : goal.returns-then-next-place-clause-follows
returns-then-next-place-clause-follows c = λ at is. magic_fails c.args.place c.args.next at c.args.self.now.at (byte version_told) (state_of c.args.self.now) c.damage.result (omega arith) is c.if-next-place.true c.damage.ensures

pub returns-clause-follows : goal.returns-clause-follows
returns-clause-follows c = λ at is rest. magic_goes c.args.place c.args.next at c.args.self.now.at (byte version_told) rest (omega arith) is c.if-next-place.false

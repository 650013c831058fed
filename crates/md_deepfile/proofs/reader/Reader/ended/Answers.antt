use Rattle.md_deepfile.specs.State.{state_of}
use Rattle.md_deepfile.proofs.Reading.{short_end}
use Rattle.md_deepfile.proofs.reader.Reader.ended.Goals as goal

pub returns-in_default : goal.returns-in_default
returns-in_default c = short_end (state_of c.args.self.now) c.damage.result c.requires c.in_default.not-End c.damage.ensures

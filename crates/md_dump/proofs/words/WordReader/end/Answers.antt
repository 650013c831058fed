use Rattle.std.proofs.Common.{◌==◌}
use Rattle.md_dump.proofs.Cuts.{some_part}
use Rattle.md_dump.proofs.words.WordReader.end.Goals as goal

pub returns-in-Some : goal.returns-in-Some
returns-in-Some c = rw c.in-Some.is (some_part (λ b. b == 32) c.in-Some.field-0.now)

use Rattle.md_dump.proofs.Onward.{gives_rows, gives_other}
use Rattle.md_dump.proofs.running.one_after_the_other_gives_the_same.Goals as goal

pub returns : goal.returns
returns c = record { rows = gives_rows; other = gives_other }

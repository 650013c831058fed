use Rattle.std.proofs.Common.{length}
use Rattle.md_plain.proofs.env.+blank.Given as goal

abbrev pub decreases-blank : goal.decreases-blank
decreases-blank l = length l.names.now

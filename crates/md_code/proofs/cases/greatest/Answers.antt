use Rattle.md_code.proofs.DetailLemmas.{greatest-first, greatest-second}
use Rattle.md_code.proofs.cases.greatest.Goals as goal

pub returns-then-first-second : goal.returns-then-first-second
returns-then-first-second c = greatest-second c.args.first c.args.second c.if-first-second.true

pub returns-else-first-second : goal.returns-else-first-second
returns-else-first-second c = greatest-first c.args.first c.args.second c.if-first-second.false

use Rattle.md_code.proofs.BlockLemmas.{least-first, least-second}
use Rattle.md_code.proofs.switch.least.Goals as goal

pub returns-then-first-second : goal.returns-then-first-second
returns-then-first-second c = least-first c.args.first c.args.second c.if-first-second.true

pub returns-else-first-second : goal.returns-else-first-second
returns-else-first-second c = least-second c.args.first c.args.second c.if-first-second.false

use Rattle.md_cost.proofs.IncomingSteps.{Threaded}
use Rattle.md_cost.proofs.incoming.thread_incoming.Given as goal

abbrev pub invariant-loop-place : goal.invariant-loop-place
invariant-loop-place l = Threaded l.links l.nodes l.place l.last.items l.before.items

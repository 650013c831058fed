use Rattle.std.proofs.Common.{IsSome}
use Rattle.test_outside.proofs.peers.meet.Given as goal

-- the net listens
abbrev pub invariant-loop-field : goal.invariant-loop-field
invariant-loop-field g l = IsSome (g.N.Net.listens_at l.net)

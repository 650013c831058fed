use Rattle.std.proofs.Common.{◌<◌, All, take}
use Rattle.law_files.proofs.room.arities_have_room.Given as goal

abbrev pub invariant-loop-proc : goal.invariant-loop-proc
invariant-loop-proc l = All (λ p. p.arity < 256) (take l.proc-index l.procs)

use Rattle.std.proofs.Common.{◌≡◌, map, take}
use Rattle.md_static.specs.Sound.{proc_key, key_seen}
use Rattle.md_static.proofs.sound.proc_keys.Given as goal

abbrev pub invariant-loop-proc : goal.invariant-loop-proc
invariant-loop-proc l = map key_seen l.keys.items ≡ map proc_key (take l.proc-index l.procs)

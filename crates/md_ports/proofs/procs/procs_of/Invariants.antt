use Rattle.std.proofs.Common.{◌≡◌, ◌++◌, drop, map}
use Rattle.md_hlds.specs.Hlds.{hlds_of, procedures_of}
use Rattle.md_ports.specs.Ports.{proc_of}
use Rattle.md_ports.proofs.procs.procs_of.Given as goal

-- the procedures so far, and those of the other predicates, are all
abbrev pub invariant-loop-pred : goal.invariant-loop-pred
invariant-loop-pred l = l.procs.items ++ map (proc_of (hlds_of l.program)) (procedures_of (drop l.pred-index l.program.preds.items)) ≡ map (proc_of (hlds_of l.program)) (procedures_of l.program.preds.items)

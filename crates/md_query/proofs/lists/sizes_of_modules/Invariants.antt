use Rattle.std.proofs.Common.{take}
use Rattle.md_static.specs.declared.entry.Proc.{Proc}
use Rattle.md_query.proofs.ListSteps.{AreSizes}
use Rattle.md_query.proofs.lists.sizes_of_modules.Given as goal

abbrev pub invariant-loop-proc : goal.invariant-loop-proc
invariant-loop-proc l = AreSizes (λ (p : Proc). p.module) l.count (take l.proc-index l.procs) l.sizes.items

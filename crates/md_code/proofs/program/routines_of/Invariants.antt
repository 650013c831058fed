use Rattle.std.proofs.Common.{◌≡◌, ◌++◌, drop, map}
use Rattle.md_hlds.specs.Hlds.{hlds_of, procedures_of}
use Rattle.md_code.specs.Details.{routine_told, routines_from}
use Rattle.md_code.proofs.program.routines_of.Given as goal

abbrev pub invariant-loop-procedure : goal.invariant-loop-procedure
invariant-loop-procedure l =
    routines_from (hlds_of l.tables.source.checked.now) 0 (hlds_of l.tables.source.checked.now).procedures
    ≡ map routine_told l.routines.items ++ routines_from (hlds_of l.tables.source.checked.now) l.procedure (procedures_of (drop l.procedure l.tables.source.checked.now.preds.items))

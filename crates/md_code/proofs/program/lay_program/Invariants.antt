use Rattle.std.proofs.Common.{drop}
use Rattle.md_hlds.specs.Hlds.{hlds_of}
use Rattle.md_code.proofs.ProgramLemmas.{BodiesLeft}
use Rattle.md_code.proofs.program.lay_program.Given as goal

abbrev pub invariant-loop-procedure : goal.invariant-loop-procedure
invariant-loop-procedure l = BodiesLeft (hlds_of l.tables.source.checked.now) l.procedure (drop l.procedure l.tables.source.checked.now.preds.items) l.output l.reach

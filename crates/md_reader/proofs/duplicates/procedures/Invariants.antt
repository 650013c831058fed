use Rattle.std.proofs.Common.{◌≡◌, ◌++◌, drop, map}
use Rattle.md_hlds.specs.Hlds.{procedures_of}
use Rattle.md_reader.specs.Duplicates as spec
use Rattle.md_reader.specs.Views.{all_declared}
use Rattle.md_reader.proofs.duplicates.procedures.Given as goal

-- what is declared so far and in the rest is the whole
abbrev pub invariant-loop-pred : goal.invariant-loop-pred
invariant-loop-pred l = all_declared l.declared.items ++ map spec.declared_procedure (procedures_of (drop l.pred-index l.preds)) ≡ map spec.declared_procedure (procedures_of l.preds)

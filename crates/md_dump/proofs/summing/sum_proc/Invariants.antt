use Rattle.md_cost.specs.View.{OfProcedure}
use Rattle.md_dump.proofs.Adding.{Added}
use Rattle.md_dump.proofs.summing.sum_proc.Given as goal

-- both sums are those of the files so far
abbrev pub invariant-loop-file : goal.invariant-loop-file
invariant-loop-file l = Added l.files (λ v. v.own (OfProcedure l.id)) l.file-index l.own × Added l.files (λ v. v.total (OfProcedure l.id)) l.file-index l.total

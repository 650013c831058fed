use Rattle.std.proofs.Common.{drop}
use Rattle.md_hlds.specs.Hlds.{procedures_of}
use Rattle.md_names.specs.Maps.{ArePredicatesFrom}
use Rattle.md_names.proofs.predicates.predicates_of.Given as goal

abbrev pub invariant-loop-number : goal.invariant-loop-number
invariant-loop-number l = ArePredicatesFrom l.predicates l.number (procedures_of (drop l.number l.program.preds.items))

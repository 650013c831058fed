use Rattle.std.proofs.Common.{◌≡◌, [], drop}
use Rattle.md_hlds.specs.Hlds.{procedures_of}
use Rattle.md_code.specs.Tables.{with_clauses}
use Rattle.md_code.specs.Numbers.{texts_of}
use Rattle.md_code.proofs.literals.literals_of.Given as goal

abbrev pub invariant-loop-pred : goal.invariant-loop-pred
invariant-loop-pred l =
    with_clauses (texts_of l.literals.keys) (procedures_of (drop l.pred-index l.program.preds.items)) ≡ with_clauses [] (procedures_of l.program.preds.items)

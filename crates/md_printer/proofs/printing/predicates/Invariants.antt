use Rattle.std.proofs.Common.{◌≡◌, ◌++◌, drop}
use Rattle.std.specs.List.{flat_map}
use Rattle.md_printer.specs.Layout.{sentence}
use Rattle.md_printer.specs.Printed.{procedure_sentences}
use Rattle.md_hlds.specs.Hlds.{procedures_of}
use Rattle.md_printer.proofs.printing.predicates.Given as goal

-- the text so far and that of the rest are the whole one
abbrev pub invariant-loop-pred : goal.invariant-loop-pred
invariant-loop-pred l = l.text.items ++ flat_map sentence (flat_map procedure_sentences (procedures_of (drop l.pred-index l.preds))) ≡ l.fn.text.items ++ flat_map sentence (flat_map procedure_sentences (procedures_of l.fn.preds))

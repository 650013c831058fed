use Rattle.std.proofs.Common.{◌∙◌, sym, ap, List, length}
use Rattle.md_hlds.specs.declared.program.Pred.{Pred}
use Rattle.md_hlds.specs.declared.program.Program.{Program}
use Rattle.md_hlds.specs.Hlds.{hlds_of}
use Rattle.md_hlds.proofs.ProcedureLemmas.{length-procedures_of}
use Rattle.test_machine.proofs.tests.came.procedures.Goals as goal

pub returns : goal.returns
returns c =
    ap (λ (ps : List Pred). length ps) c.as_slice.ensures.value
    ∙ (sym (length-procedures_of c.program.result.now.preds.items)
    ∙ ap (λ (p : Program). length (hlds_of p).procedures) c.program.ensures.program)

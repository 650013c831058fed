use Rattle.std.proofs.Common.{◌∙◌, sym, ap}
use Rattle.md_hlds.specs.declared.program.Program.{Program}
use Rattle.md_hlds.specs.Hlds.{hlds_of, procedure_of, nth_procedure}
use Rattle.md_det.specs.Determinism.{call_pair}
use Rattle.md_det.specs.Judge.{read_call}
use Rattle.md_det.proofs.Functors.{no_procedure, procedure_pair}
use Rattle.md_det.proofs.atomic.call_pair.Goals as goal

pub returns-in-None : goal.returns-in-None
returns-in-None c =
    no_procedure (hlds_of c.program.result.now) c.in-Predicate.callee c.in-None.ensures
    ∙ (ap (λ (p : Program). call_pair (nth_procedure (hlds_of p) c.in-Predicate.callee)) c.program.ensures.program
    ∙ ap (read_call (hlds_of c.args.moded.now)) (sym c.in-Predicate.is ∙ c.named.ensures))

pub returns-in-Some : goal.returns-in-Some
returns-in-Some c =
    c.of.ensures
    ∙ (procedure_pair (hlds_of c.program.result.now) c.in-Predicate.callee (procedure_of c.in-Some.pred.now) c.in-Some.ensures
    ∙ (ap (λ (p : Program). call_pair (nth_procedure (hlds_of p) c.in-Predicate.callee)) c.program.ensures.program
    ∙ ap (read_call (hlds_of c.args.moded.now)) (sym c.in-Predicate.is ∙ c.named.ensures)))

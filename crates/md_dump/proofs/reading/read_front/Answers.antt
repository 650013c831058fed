use Rattle.std.proofs.Common.{◌∙◌, subst, sym}
use Rattle.std.proofs.lemmas.Result.{err_from_is_err_and, IfOk-weaker, IfErr-weaker}
use Rattle.md_dump.specs.Due.{line}
use Rattle.md_dump.specs.Follows.{IsFault}
use Rattle.md_dump.specs.Lines.{finished_due}
use Rattle.md_dump.proofs.reading.read_front.Goals as goal

pub returns-in_err-read_title-clause-fault : goal.returns-in_err-read_title-clause-fault
returns-in_err-read_title-clause-fault c =
    let p = err_from_is_err_and c.from_residual.result c.from_residual.ensures.1 in
    rw (p.1, p.2) (λ next. c.in_err-read_title.ensures.fault (line (finished_due next)))

pub returns-clause-finished : goal.returns-clause-finished
returns-clause-finished c =
    IfOk-weaker c.read_finished.result _ _ (λ finished told next. c.in_ok-read_title.ensures.title (line (finished_due next)) ∙ told next) c.read_finished.ensures.finished

pub returns-clause-fault : goal.returns-clause-fault
returns-clause-fault c =
    IfErr-weaker c.read_finished.result _ _ (λ fault told next. subst (IsFault fault) (sym (c.in_ok-read_title.ensures.title (line (finished_due next)))) (told next)) c.read_finished.ensures.fault

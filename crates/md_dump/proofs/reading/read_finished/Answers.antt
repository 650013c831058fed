use Rattle.std.proofs.Common.{sym, ◌∙◌, arith}
use Rattle.std.proofs.lemmas.Grind.{common_steps}
use Rattle.std.proofs.lemmas.Result.{err_from_is_err_and}
use Rattle.md_dump.specs.Lines.{finished_due}
use Rattle.md_dump.proofs.Steps.{finished_yes, finished_no, finished_neither}
use Rattle.md_dump.proofs.reading.read_finished.Goals as goal

pub returns-in_err-line-clause-fault : goal.returns-in_err-line-clause-fault
returns-in_err-line-clause-fault c =
    let p = err_from_is_err_and c.from_residual.result c.from_residual.ensures.1 in
    rw (p.1, p.2) (λ next. c.in_err-line.ensures.fault (finished_due next))

pub returns-then-eq-clause-finished : goal.returns-then-eq-clause-finished
returns-then-eq-clause-finished c =
    let test = rw c.as_slice.ensures at c.eq.ensures in
    λ next. c.in_ok-line.ensures.line (finished_due next) ∙ finished_yes next c.in_ok-line.line.now c.next.new.self (sym test ∙ c.if-eq.true)

pub returns-then-eq-2-clause-finished : goal.returns-then-eq-2-clause-finished
returns-then-eq-2-clause-finished c =
    let test = rw c.as_slice.ensures at c.eq.ensures in
    let second = rw c.as_slice-2.ensures at c.eq-2.ensures in
    λ next. c.in_ok-line.ensures.line (finished_due next) ∙ finished_no next c.in_ok-line.line.now c.next.new.self (sym test ∙ c.if-eq.false) (sym second ∙ c.if-eq-2.true)

pub returns-clause-fault : goal.returns-clause-fault
returns-clause-fault c =
    let test = rw c.as_slice.ensures at c.eq.ensures in
    let second = rw c.as_slice-2.ensures at c.eq-2.ensures in
    rw c.fault.ensures (λ next. c.in_ok-line.ensures.line (finished_due next) ∙ finished_neither next c.in_ok-line.line.now c.next.new.self (sym test ∙ c.if-eq.false) (sym second ∙ c.if-eq-2.false))

pub returns-clause-finished : goal.returns-clause-finished
returns-clause-finished c = grind (arith, common_steps)

pub returns-clause-short : goal.returns-clause-short
returns-clause-short c = grind (arith, common_steps)

pub returns-then-eq-2-clause-fault : goal.returns-then-eq-2-clause-fault
returns-then-eq-2-clause-fault c = grind (arith, common_steps)

pub returns-then-eq-2-clause-short : goal.returns-then-eq-2-clause-short
returns-then-eq-2-clause-short c = grind (arith, common_steps)

pub returns-then-eq-clause-fault : goal.returns-then-eq-clause-fault
returns-then-eq-clause-fault c = grind (arith, common_steps)

pub returns-then-eq-clause-short : goal.returns-then-eq-clause-short
returns-then-eq-clause-short c = grind (arith, common_steps)

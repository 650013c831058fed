use Rattle.std.proofs.Common.{codes, sym, ◌∙◌, arith}
use Rattle.std.proofs.lemmas.Grind.{common_steps}
use Rattle.std.specs.Str.{bytes_eq}
use Rattle.std.proofs.lemmas.Result.{err_from_is_err_and}
use Rattle.md_dump.specs.Lines.{title_due}
use Rattle.md_dump.proofs.Steps.{kept, broken}
use Rattle.md_dump.proofs.reading.read_title.Goals as goal

pub returns-in_err-line-clause-fault : goal.returns-in_err-line-clause-fault
returns-in_err-line-clause-fault c =
    let p = err_from_is_err_and c.from_residual.result c.from_residual.ensures.1 in
    rw (p.1, p.2) (λ next. c.in_err-line.ensures.fault (title_due next))

pub returns-then-eq-clause-title : goal.returns-then-eq-clause-title
returns-then-eq-clause-title c =
    let test = rw c.as_slice.ensures at c.eq.ensures in
    λ next. c.in_ok-line.ensures.line (title_due next) ∙ kept (bytes_eq c.in_ok-line.line.now (codes "mdprof dump 2")) next c.next.new.self (sym test ∙ c.if-eq.true)

pub returns-else-eq-clause-fault : goal.returns-else-eq-clause-fault
returns-else-eq-clause-fault c =
    let test = rw c.as_slice.ensures at c.eq.ensures in
    rw c.fault.ensures (λ next. c.in_ok-line.ensures.line (title_due next) ∙ broken (bytes_eq c.in_ok-line.line.now (codes "mdprof dump 2")) next c.next.new.self (sym test ∙ c.if-eq.false))

pub returns-then-eq-clause-fault : goal.returns-then-eq-clause-fault
returns-then-eq-clause-fault c = grind (arith, common_steps)

pub returns-then-eq-clause-short : goal.returns-then-eq-clause-short
returns-then-eq-clause-short c = grind (arith, common_steps)

pub returns-else-eq-clause-short : goal.returns-else-eq-clause-short
returns-else-eq-clause-short c = grind (arith, common_steps)

pub returns-else-eq-clause-title : goal.returns-else-eq-clause-title
returns-else-eq-clause-title c = grind (arith, common_steps)

use Rattle.std.proofs.Common.{◌≤◌, ◌<◌, sym, ◌∙◌, arith}
use Rattle.std.proofs.lemmas.Result.{err_from_is_err_and}
use Rattle.md_dump.specs.Forms.{words_of, count_form}
use Rattle.md_dump.specs.Lines.{name_of, least_of, count_due, several}
use Rattle.md_dump.specs.Due.{must}
use Rattle.std.proofs.Common.{nat_le}
use Rattle.md_dump.proofs.Steps.{counted, too_few, unformed}
use Rattle.md_dump.proofs.reading.read_count.Goals as goal

pub returns-in_err-line-clause-fault : goal.returns-in_err-line-clause-fault
returns-in_err-line-clause-fault c =
    let p = err_from_is_err_and c.from_residual.result c.from_residual.ensures.1 in
    rw (p.1, p.2) (λ f next. c.in_err-line.ensures.fault (count_due c.args.section f next))

pub returns-in_default-clause-fault : goal.returns-in_default-clause-fault
returns-in_default-clause-fault c =
    let form = rw c.name.ensures at c.count_form.ensures in
    rw c.fault.ensures
    (λ f next. c.in_ok-line.ensures.line (count_due c.args.section f next)
    ∙ unformed (count_form (name_of c.args.section) (words_of c.in_ok-line.line.now)) (λ k. must (nat_le (least_of c.args.section) k) (several c.args.section k f next)) c.next.new.self (sym form ∙ c.in_default.is))

pub returns-then-count-least-clause-fault : goal.returns-then-count-least-clause-fault
returns-then-count-least-clause-fault c =
    let form = rw (c.name.ensures, c.in-Some.is) at c.count_form.ensures in
    let few : c.in-Some.count < least_of c.args.section = omega (arith, c.least.ensures) in
    rw c.fault-then-count-least.ensures
    (λ f next. c.in_ok-line.ensures.line (count_due c.args.section f next) ∙ too_few c.args.section f next c.in_ok-line.line.now c.in-Some.count c.next.new.self form few)

pub returns-clause-count : goal.returns-clause-count
returns-clause-count c =
    let form = rw (c.name.ensures, c.in-Some.is) at c.count_form.ensures in
    let enough : least_of c.args.section ≤ c.in-Some.count = omega (arith, c.least.ensures) in
    λ f next. c.in_ok-line.ensures.line (count_due c.args.section f next) ∙ counted c.args.section f next c.in_ok-line.line.now c.in-Some.count c.next.new.self form enough

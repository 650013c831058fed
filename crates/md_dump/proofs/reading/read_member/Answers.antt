use Rattle.std.proofs.Common.{ap, ◌∙◌, arith}
use Rattle.std.proofs.lemmas.Grind.{common_steps}
use Rattle.std.proofs.lemmas.Result.{err_from_is_err_and}
use Rattle.md_dump.specs.Due.{Due}
use Rattle.md_dump.specs.Grown.{rows_of}
use Rattle.md_dump.specs.Left.{read_on}
use Rattle.md_dump.specs.Lines.{thing_due}
use Rattle.md_dump.proofs.Steps.{kept, broken}
use Rattle.md_dump.proofs.reading.read_member.Goals as goal

pub returns-in_err-line-clause-follows : goal.returns-in_err-line-clause-follows
returns-in_err-line-clause-follows c =
    let p = err_from_is_err_and c.from_residual.result c.from_residual.ensures.1 in
    rw (p.1, p.2) (λ next. c.in_err-line.ensures.fault (thing_due c.args.section (rows_of c.args.rows.now) next))

pub returns-then-branch-clause-follows : goal.returns-then-branch-clause-follows
returns-then-branch-clause-follows c = λ next.
    c.in_ok-line.ensures.line (thing_due c.args.section (rows_of c.args.rows.now) next)
    ∙ ap (λ (due : Due). read_on due c.next.new.self) (c.in_ok-add.ensures next)
    ∙ kept c.in_ok-add.field-0 (next (rows_of c.add.new.self)) c.next.new.self c.if-branch.true

pub returns-else-branch-clause-follows : goal.returns-else-branch-clause-follows
returns-else-branch-clause-follows c =
    rw c.fault.ensures
    (λ next. c.in_ok-line.ensures.line (thing_due c.args.section (rows_of c.args.rows.now) next)
    ∙ ap (λ (due : Due). read_on due c.next.new.self) (c.in_ok-add.ensures next)
    ∙ broken c.in_ok-add.field-0 (next (rows_of c.add.new.self)) c.next.new.self c.if-branch.false)

pub returns-then-branch-clause-short : goal.returns-then-branch-clause-short
returns-then-branch-clause-short c = grind (arith, common_steps)

pub returns-else-branch-clause-short : goal.returns-else-branch-clause-short
returns-else-branch-clause-short c = grind (arith, common_steps)

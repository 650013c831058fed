use Rattle.std.proofs.Common.{◌∙◌, subst, sym, arith}
use Rattle.std.proofs.lemmas.Grind.{common_steps}
use Rattle.std.proofs.lemmas.Result.{err_from_is_err_and}
use Rattle.md_dump.specs.Follows.{IsFault}
use Rattle.md_dump.specs.Grown.{rows_of}
use Rattle.md_dump.proofs.Steps.{member_read, member_faulty, last_member}
use Rattle.md_dump.proofs.reading.read_section.Goals as goal

pub returns-in_err-count-clause-follows : goal.returns-in_err-count-clause-follows
returns-in_err-count-clause-follows c =
    let p = err_from_is_err_and c.from_residual.result c.from_residual.ensures.1 in
    rw (p.1, p.2) (c.in_err-count.ensures.fault (rows_of c.args.rows.now))

pub returns-in_err-read_member-clause-follows : goal.returns-in_err-read_member-clause-follows
returns-in_err-read_member-clause-follows c =
    let p = err_from_is_err_and c.from_residual-in_err-read_member.result c.from_residual-in_err-read_member.ensures.1 in
    rw (p.1, p.2)
    (λ next. subst (IsFault c.in_err-read_member.field-0.0) (sym (c.loop.invariant.0 next))
    (member_faulty c.args.section (rows_of c.loop.rows) next c.loop.lines c.in_ok-count.count c.loop.counter c.in_err-read_member.field-0.0 c.loop-test.true c.in_err-read_member.ensures.follows))

pub loop-preserved : goal.loop-preserved
loop-preserved c = (
  λ next. c.loop.invariant.0 next
      ∙ member_read c.args.section (rows_of c.loop.rows) (rows_of c.read_member.new.rows) next c.loop.lines c.read_member.new.lines c.in_ok-count.count c.loop.counter c.loop-test.true c.in_ok-read_member.ensures.follows,
  c.in_ok-read_member.ensures.short,
)

pub returns-clause-follows : goal.returns-clause-follows
returns-clause-follows c = λ next. c.loop.invariant.0 next ∙ last_member c.args.section (rows_of c.loop.rows) next c.loop.lines c.in_ok-count.count c.loop.counter c.loop-test.false

pub loop-init : goal.loop-init
loop-init c = grind (arith, common_steps)

pub loop-smaller : goal.loop-smaller
loop-smaller c = grind (arith, common_steps)

pub returns-clause-short : goal.returns-clause-short
returns-clause-short c = grind (arith, common_steps)

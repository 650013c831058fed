use Rattle.std.proofs.Common.{◌∙◌, subst, sym}
use Rattle.std.proofs.lemmas.Result.{err_from_is_err_and}
use Rattle.md_dump.specs.Follows.{IsFault}
use Rattle.md_dump.specs.Grown.{rows_of}
use Rattle.md_dump.proofs.Steps.{section_read, section_faulty, next_section}
use Rattle.md_dump.proofs.reading.read_sections.Goals as goal

pub returns-in_err-read_section-clause-follows : goal.returns-in_err-read_section-clause-follows
returns-in_err-read_section-clause-follows c =
    let p = err_from_is_err_and c.from_residual.result c.from_residual.ensures.1 in
    rw (p.1, p.2)
    (λ next. subst (IsFault c.in_err-read_section.field-0.0) (sym (c.loop-section.invariant.0 next))
    (section_faulty c.args.sections.now c.loop-section.section-index _ (rows_of c.loop-section.rows) next c.loop-section.lines c.in_err-read_section.field-0.0
    (next_section c.args.sections.now c.loop-section.section-index _ c.loop-section-test.true) c.in_err-read_section.ensures.follows))

pub loop-section-preserved : goal.loop-section-preserved
loop-section-preserved c = (
  λ next. c.loop-section.invariant.0 next ∙
      section_read c.args.sections.now c.loop-section.section-index _ (rows_of c.loop-section.rows) (rows_of c.read_section.new.rows) next c.loop-section.lines c.read_section.new.lines
      (next_section c.args.sections.now c.loop-section.section-index _ c.loop-section-test.true) c.in_ok-read_section.ensures.follows,
  c.in_ok-read_section.ensures.short,
)

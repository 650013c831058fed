use Rattle.std.proofs.Common.{ap, ◌∙◌, subst, sym}
use Rattle.std.proofs.lemmas.Result.{err_from_is_err_and}
use Rattle.md_dynamic.specs.Profile.{ProfileRows}
use Rattle.md_deepfile.specs.Rules.{begun}
use Rattle.md_dump.specs.Due.{done}
use Rattle.md_dump.specs.Follows.{IsFault}
use Rattle.md_dump.specs.Left.{read_on}
use Rattle.md_dump.specs.Lines.{all_sections, sections_due}
use Rattle.md_dump.proofs.reading.read_rows.Goals as goal

pub returns-in_err-finished-clause-fault : goal.returns-in_err-finished-clause-fault
returns-in_err-finished-clause-fault c =
    let p = err_from_is_err_and c.from_residual.result c.from_residual.ensures.1 in
    rw (p.1, p.2) (c.in_err-finished.ensures.fault (λ finished. sections_due all_sections (begun finished) done))

pub returns-in_err-read_rest-clause-fault : goal.returns-in_err-read_rest-clause-fault
returns-in_err-read_rest-clause-fault c =
    let p = err_from_is_err_and c.from_residual-in_err-read_rest.result c.from_residual-in_err-read_rest.ensures.1 in
    rw (p.1, p.2)
    (subst (IsFault c.in_err-read_rest.field-0.0)
    (sym (c.in_ok-finished.ensures.finished (λ finished. sections_due all_sections (begun finished) done)
    ∙ ap (λ (f : ProfileRows). read_on (sections_due all_sections f done) c.read_front.new.lines) (sym c.new-rows.ensures)))
    c.in_err-read_rest.ensures.fault)

pub returns-clause-rows : goal.returns-clause-rows
returns-clause-rows c =
    c.in_ok-finished.ensures.finished (λ finished. sections_due all_sections (begun finished) done)
    ∙ ap (λ (f : ProfileRows). read_on (sections_due all_sections f done) c.read_front.new.lines) (sym c.new-rows.ensures)
    ∙ c.in_ok-read_rest.ensures.rows

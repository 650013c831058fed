use Rattle.std.proofs.Common.{◌≡◌, Ok, ap, ◌∙◌, subst, sym}
use Rattle.std.proofs.lemmas.Result.{err_from_is_err_and}
use Rattle.md_dump.specs.Due.{parts_of, read}
use Rattle.md_dump.specs.Follows.{IsFault}
use Rattle.md_dump.specs.Lines.{profile_text}
use Rattle.md_dump.proofs.ExactText.{read_spells, from_start, one_profile, no_fault, first_fault}
use Rattle.md_dump.proofs.reading.undump.Goals as goal
use Rattle.md_dump.proofs.reading.undump.Goals.{After-into_profile, After-from_residual}

-- what was read of the text, or its fault
told : (c : After-into_profile) → read profile_text 0 (parts_of c.args.text.now) ≡ Ok c.into_profile.result
told c = sym (from_start c.new-lines.result c.args.text.now c.new-lines.ensures.start c.new-lines.ensures.rest) ∙ c.in_ok-rows.ensures.rows ∙ ap Ok (sym c.into_profile.ensures)

fault_told : (c : After-from_residual) → IsFault c.in_err-rows.field-0.0 (read profile_text 0 (parts_of c.args.text.now))
fault_told c = subst (IsFault c.in_err-rows.field-0.0) (from_start c.new-lines.result c.args.text.now c.new-lines.ensures.start c.new-lines.ensures.rest) c.in_err-rows.ensures.fault

pub returns-clause-found : goal.returns-clause-found
returns-clause-found c = read_spells c.args.text.now c.into_profile.result (told c)

pub returns-clause-valid : goal.returns-clause-valid
returns-clause-valid c = (read_spells c.args.text.now c.into_profile.result (told c)).valid

pub returns-clause-only : goal.returns-clause-only
returns-clause-only c = λ f spells. one_profile c.args.text.now f c.into_profile.result spells (told c)

pub returns-in_err-rows-clause-only : goal.returns-in_err-rows-clause-only
returns-in_err-rows-clause-only c =
    let p = err_from_is_err_and c.from_residual.result c.from_residual.ensures.1 in
    rw (p.1, p.2) (λ f spells. no_fault c.args.text.now f c.in_err-rows.field-0.0 spells (fault_told c))

pub returns-in_err-rows-clause-fault : goal.returns-in_err-rows-clause-fault
returns-in_err-rows-clause-fault c =
    let p = err_from_is_err_and c.from_residual.result c.from_residual.ensures.1 in
    rw (p.1, p.2) (first_fault c.args.text.now c.in_err-rows.field-0.0 (fault_told c))

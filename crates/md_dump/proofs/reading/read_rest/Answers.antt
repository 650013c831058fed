use Rattle.std.proofs.Common.{◌∙◌, subst, sym, arith}
use Rattle.std.proofs.lemmas.Grind.{common_steps}
use Rattle.std.proofs.lemmas.Result.{err_from_is_err_and, on_ok_weaker, IfErr-weaker}
use Rattle.md_dump.specs.Due.{done}
use Rattle.md_dump.specs.Follows.{IsFault}
use Rattle.md_dump.specs.Grown.{rows_of}
use Rattle.md_dump.proofs.reading.read_rest.Goals as goal

pub returns-in_err-read_sections-clause-fault : goal.returns-in_err-read_sections-clause-fault
returns-in_err-read_sections-clause-fault c =
    let p = err_from_is_err_and c.from_residual.result c.from_residual.ensures.1 in
    rw (p.1, p.2) (c.in_err-read_sections.ensures.follows done)

pub returns-in_err-end-clause-fault : goal.returns-in_err-end-clause-fault
returns-in_err-end-clause-fault c =
    let p = err_from_is_err_and c.from_residual-in_err-end.result c.from_residual-in_err-end.ensures.1 in
    rw (p.1, p.2) (subst (IsFault c.in_err-end.field-0.0) (sym (c.in_ok-read_sections.ensures.follows done)) (c.in_err-end.ensures.fault (rows_of c.read_sections.new.rows)))

pub returns-clause-rows : goal.returns-clause-rows
returns-clause-rows c =
    on_ok_weaker c.all_reached.result (λ whole. c.in_ok-read_sections.ensures.follows done ∙ c.in_ok-end.ensures.end (rows_of c.read_sections.new.rows) ∙ whole) c.all_reached.ensures.whole

pub returns-clause-fault : goal.returns-clause-fault
returns-clause-fault c =
    IfErr-weaker c.all_reached.result _ _
    (λ fault told. subst (IsFault fault) (sym (c.in_ok-read_sections.ensures.follows done ∙ c.in_ok-end.ensures.end (rows_of c.read_sections.new.rows))) told)
    c.all_reached.ensures.orphan

pub returns-in_err-read_sections-clause-rows : goal.returns-in_err-read_sections-clause-rows
returns-in_err-read_sections-clause-rows c = grind (arith, common_steps)

pub returns-in_err-end-clause-rows : goal.returns-in_err-end-clause-rows
returns-in_err-end-clause-rows c = grind (arith, common_steps)

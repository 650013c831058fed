use Rattle.std.proofs.Common.{◌∙◌, [], sym, ap}
use Rattle.std.specs.Borrow.{Bor}
use Rattle.std.specs.Prelude.{option_map}
use Rattle.md_static.specs.Tables.{Static}
use Rattle.md_tool.proofs.SumLemmas.{has_tables, summed, other_found, other_named, of_another}
use Rattle.md_tool.proofs.sums.text_of.Goals as goal

pub bounds-names-place : goal.bounds-names-place
bounds-names-place c = other_named c.requires.summed.0 c.args.names.now c.args.sums.now c.in-Some-default.place c.requires.summed.1 (sym c.first_other.ensures ∙ c.in-Some-default.is-0)

pub unreachable-requires : goal.unreachable-requires
unreachable-requires c =
    has_tables c.requires.summed.0 c.args.names.now c.args.sums.now c.requires.summed.1 c.requires.some (sym c.statics.ensures ∙ ap (option_map (λ (s : Bor Static). s.now)) c.in-None-None.is-1)

pub returns-in-Some-default : goal.returns-in-Some-default
returns-in-Some-default c held sums =
    of_another held c.args.names.now sums.files c.in-Some-default.place (record { ref_ptr = (0, 0); now = [] }) sums.loaded
    (other_found held c.args.names.now c.args.sums.now c.in-Some-default.place sums (sym c.first_other.ensures ∙ c.in-Some-default.is-0))

pub returns-in-Ok : goal.returns-in-Ok
returns-in-Ok c held sums =
    summed held c.args.names.now c.args.sums.now c.in-None-Some.statics.now c.in-Ok.text.items sums c.requires.some (sym c.first_other.ensures ∙ c.in-None-Some.is-0)
    (sym c.statics.ensures ∙ ap (option_map (λ (s : Bor Static). s.now)) c.in-None-Some.is-1) (rw c.rows.ensures at c.in-Ok.ensures)

use Rattle.std.proofs.Common.{[], ◌∷◌, ◌++◌, refl, ap, ◌∙◌}
use Rattle.std.proofs.lemmas.Result.{on_ok_weaker}
use Rattle.md_cost.specs.View.{OfProcedure}
use Rattle.md_table.specs.Table.{LineCells}
use Rattle.md_people.proofs.Views.{costs_told}
use Rattle.md_people.proofs.costs.push_proc_line.Goals as goal

pub returns : goal.returns
returns c = λ v viewed.
    let told = costs_told v c.args.by (OfProcedure c.args.id) c.args.whole c.proc_own-own.result c.proc_total-total.result c.args.name.now _ (c.requires.whole v viewed)
    (λ m. c.proc_own-own.ensures v m viewed)
    (λ m. c.proc_total-total.ensures v m viewed)
    refl in
    on_ok_weaker c.push_costs_line.result (λ added. added ∙ ap (λ (line : LineCells). c.args.rows.now.ended ++ line ∷ []) told) c.push_costs_line.ensures

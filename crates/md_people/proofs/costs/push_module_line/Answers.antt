use Rattle.std.proofs.Common.{[], ◌∷◌, ◌++◌, refl, ap, ◌∙◌}
use Rattle.std.proofs.lemmas.Result.{on_ok_weaker}
use Rattle.md_cost.specs.View.{OfModule}
use Rattle.md_table.specs.Table.{LineCells}
use Rattle.md_people.proofs.Views.{costs_told}
use Rattle.md_people.proofs.costs.push_module_line.Goals as goal

pub returns : goal.returns
returns c = λ v viewed.
    let told = costs_told v c.args.by (OfModule c.args.id) c.args.whole c.module_own-own.result c.module_total-total.result c.args.name.now _ (c.requires.whole v viewed)
    (λ m. c.module_own-own.ensures v m viewed)
    (λ m. c.module_total-total.ensures v m viewed)
    refl in
    on_ok_weaker c.push_costs_line.result (λ added. added ∙ ap (λ (line : LineCells). c.args.rows.now.ended ++ line ∷ []) told) c.push_costs_line.ensures

use Rattle.std.proofs.Common.{[], ◌∷◌, ◌++◌, ap, ◌∙◌}
use Rattle.std.proofs.lemmas.Result.{on_ok_weaker}
use Rattle.md_table.specs.Table.{LineCells}
use Rattle.md_people.proofs.Views.{named}
use Rattle.md_people.proofs.hot.push_named.Goals as goal

pub returns : goal.returns
returns c = λ v viewed.
    let told = named c.args.loaded.now.profile v viewed c.args.by c.args.id c.in_ok-name.name.items
    (rw (c.number.ensures, c.statics.ensures, c.profile.ensures.profile) at c.in_ok-name.ensures) in
    on_ok_weaker c.push_proc_line.result
    (λ added. added ∙ ap (λ (line : LineCells). c.args.rows.now.ended ++ line ∷ []) told)
    (rw c.deref.ensures.value at (c.push_proc_line.ensures v viewed))

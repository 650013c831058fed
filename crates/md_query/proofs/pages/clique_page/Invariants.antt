use Rattle.std.proofs.Common.{◌≡◌, ◌++◌, ◌∷◌, [], take}
use Rattle.std.specs.List.{flat_map}
use Rattle.md_cost.specs.FileView.{IsFileView}
use Rattle.md_cost.specs.View.{View, OfClique}
use Rattle.md_query.specs.PageOf.{entered_row, total_of, context_rows}
use Rattle.md_query.specs.declared.row.Row.TheVariants as row
use Rattle.md_query.proofs.pages.clique_page.Given as goal

abbrev pub invariant-loop-node : goal.invariant-loop-node
invariant-loop-node l = (v : View) → IsFileView l.loaded.profile v →
    l.rows.items ≡ (entered_row v l.id ∷ row.Total (total_of v (OfClique l.id)) ∷ []) ++ flat_map (context_rows v) (take l.node-index l.node-items)

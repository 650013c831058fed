use Rattle.std.proofs.Common.{ℕ, List, [], ◌∷◌, ◌++◌, refl, ap, ◌∙◌}
use Rattle.md_base.specs.declared.measure.Measure.{Measure}
use Rattle.md_clique.specs.Cliques.{clique_count}
use Rattle.md_table.specs.Table.{LineCells, RowsCells}
use Rattle.md_people.specs.Tree.{rows_from, tree_heading}
use Rattle.md_tree.proofs.tree.tree_table.Goals as goal

pub push_rows-requires-clause-view : goal.push_rows-requires-clause-view
push_rows-requires-clause-view c = λ v viewed. rw (c.scale_of.ensures.by, c.deref.ensures.value) (c.in_ok-children.ensures.view v viewed)

pub returns : goal.returns
returns c = λ v viewed.
    let rows =
    c.in_ok-push_rows.ensures v viewed
    ∙ ap (λ (by : Measure). c.push_heading.new.rows.ended ++ rows_from v by c.scale_of.result.least (clique_count v.cliques) 0 0) c.scale_of.ensures.by
    ∙ ap (λ (least : ℕ). c.push_heading.new.rows.ended ++ rows_from v c.args.by least (clique_count v.cliques) 0 0) c.scale_of.ensures.least
    ∙ ap (λ (above : List LineCells). above ++ rows_from v c.args.by c.args.least (clique_count v.cliques) 0 0) (c.in_ok-push_heading.ensures ∙ ap (λ (none : RowsCells). none.ended ++ tree_heading ∷ []) c.new-rows.ensures) in
    rw (c.from_lines.ensures, rows) refl

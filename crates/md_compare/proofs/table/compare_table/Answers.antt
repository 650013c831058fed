use Rattle.std.proofs.Common.{◌≡◌, map, ap, ◌∙◌}
use Rattle.std.proofs.lemmas.List.Elements.{All-same}
use Rattle.std.proofs.lemmas.Result.{IfOk-weaker}
use Rattle.md_cost.specs.FileView.{IsFileView}
use Rattle.md_cost.specs.View.{View}
use Rattle.md_people.specs.Compare.{compare_table}
use Rattle.md_table.specs.Table.{TableCells}
use Rattle.md_compare.specs.Lines.{told_table}
use Rattle.md_compare.specs.Told.{IsToldOf, name_in}
use Rattle.md_compare.proofs.LineSteps.{table_told}
use Rattle.md_compare.proofs.table.compare_table.Goals as goal

pub returns : goal.returns
returns c =
    let told = c.deref.result.now in
    IfOk-weaker c.told_table.result (λ (table : TableCells). table ≡ told_table c.whole_of-whole.result c.whole_of.result told)
    (λ (table : TableCells). (v w : View) → IsFileView c.args.old.now.profile v → IsFileView c.args.new.now.profile w → table ≡ compare_table v w c.args.by c.args.least)
    (λ table is v w is_v is_w.
    is
    ∙ table_told v w c.args.by c.args.least c.whole_of-whole.result c.whole_of.result told (c.whole_of-whole.ensures v is_v) (c.whole_of.ensures w is_w)
    (All-same (IsToldOf v w c.args.by) told c.in_ok-told.told.items c.deref.ensures.value (c.in_ok-told.ensures.each v w is_v is_w))
    (ap (map name_in) c.deref.ensures.value ∙ c.in_ok-told.ensures.names v w is_v is_w))
    c.told_table.ensures

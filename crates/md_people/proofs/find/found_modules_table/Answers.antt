use Rattle.std.proofs.Common.{refl}
use Rattle.md_people.specs.Find.{module_rows}
use Rattle.md_people.proofs.Ranges.{rows_below}
use Rattle.md_people.proofs.find.found_modules_table.Goals as goal

pub loop-id-preserved : goal.loop-id-preserved
loop-id-preserved c = λ v is.
    rows_below (module_rows v c.args.by c.args.text.now) _ c.loop-id.id c.loop-id.rows.ended c.push_module.new.rows.ended _ (c.loop-id.invariant v is) (c.in_ok-push_module.ensures v is) refl

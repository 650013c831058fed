use Rattle.std.proofs.Common.{ℕ, ap}
use Rattle.md_people.specs.Find.{proc_rows}
use Rattle.md_people.proofs.Ranges.{rows_below}
use Rattle.md_people.proofs.find.found_procs_table.Goals as goal

pub loop-id-preserved : goal.loop-id-preserved
loop-id-preserved c = λ v is.
    rows_below (proc_rows v c.args.by c.args.text.now) _ c.loop-id.id c.loop-id.rows.ended c.push_proc.new.rows.ended _ (c.loop-id.invariant v is) (c.in_ok-push_proc.ensures v is) (ap (λ (q : ℕ). proc_rows v c.args.by c.args.text.now q) c.new.ensures)

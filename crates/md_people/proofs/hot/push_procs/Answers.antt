use Rattle.std.proofs.Common.{ℕ, ap}
use Rattle.md_people.specs.Hot.{proc_line}
use Rattle.md_people.proofs.Ranges.{row_pushed}
use Rattle.md_people.proofs.hot.push_procs.Goals as goal

pub loop-id-preserved : goal.loop-id-preserved
loop-id-preserved c = λ v is.
    row_pushed (proc_line v c.args.by) c.args.rows.now.ended c.loop-id.rows.ended c.push_named.new.rows.ended c.args.ids.now c.loop-id.id-index _
    c.loop-id-test.true (c.loop-id.invariant v is) (ap (λ (q : ℕ). proc_line v c.args.by q) c.new.ensures) (c.in_ok-push_named.ensures v is)

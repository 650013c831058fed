use Rattle.std.proofs.Common.{[], arith}
use Rattle.std.proofs.lemmas.List.{get_or_default}
use Rattle.md_table.proofs.Steps.{wider_more}
use Rattle.md_table.proofs.width.widen.Goals as goal

pub loop-column-preserved : goal.loop-column-preserved
loop-column-preserved c = record {
  reached = omega (arith, c.in_ok-widen_column.ensures.next);
  wide = λ other.
      wider_more c.args.line.now.cells c.loop-column.column other _ _ _ _ (omega (arith, c.loop-column-test.true, c.len-column-end.ensures)) (get_or_default c.args.line.now.cells c.loop-column.column _ [] (omega (arith, c.loop-column-test.true, c.len-column-end.ensures))) (c.loop-column.invariant.wide other)
      (rw c.get.ensures at (c.in_ok-widen_column.ensures.wide other));
}

use Rattle.std.proofs.Common.{take}
use Rattle.md_dump.specs.Sums.{AreRowsMore}
use Rattle.md_dump.proofs.running.rows_more.Given as goal

-- the rows so far
abbrev pub invariant-loop-row : goal.invariant-loop-row
invariant-loop-row l = AreRowsMore l.file (take l.row-index l.rows) l.more.items

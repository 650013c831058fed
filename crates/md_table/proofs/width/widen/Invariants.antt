use Rattle.std.proofs.Common.{ℕ, ◌≡◌, ◌≤◌, List, [], length, max, take, slice_index_or}
use Rattle.md_table.specs.Table.{width_in}
use Rattle.md_table.proofs.width.widen.Given as goal

-- the columns so far are at least as wide as the cells, and the others as they were
pub record IsWiderSoFar (old : List ℕ) (cells : List (List ℕ)) (column : ℕ) (new : List ℕ) : Type 0 where
  pub reached : column ≤ length new
  pub wide : (other : ℕ) → width_in new other ≡ max (width_in old other) (length (slice_index_or (take column cells) other []))

abbrev pub invariant-loop-column : goal.invariant-loop-column
invariant-loop-column l = IsWiderSoFar l.fn.widths.items l.line.cells l.column l.widths.items

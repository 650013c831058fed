-- How cells and rows are kept: the bytes of cells one behind the other, and where each cell lies among them; and the cells of rows in the
-- same way.
use Rattle.std.specs.Prelude.{ℕ, ◌<◌, ◌≤◌, List, [], slice_index_or}
use Rattle.std.specs.List.{between}
use Rattle.md_table.specs.Table.{LineCells}
use Rattle.md_table.specs.declared.span.Span.{Span}

-- the bytes of a cell
abbrev pub cell_in : (words : List ℕ) → Span → List ℕ
cell_in words span = between span.from span.to words

-- a span of so many
pub record IsWithin (count : ℕ) (span : Span) : Type 0 where
  pub rising : span.from ≤ span.to
  pub inside : span.to ≤ count

-- the cells of a line, and right behind them that of its last column
abbrev pub line_in : (cells : List (List ℕ)) → Span → LineCells
line_in cells span = record { cells = between span.from span.to cells; last = slice_index_or cells span.to [] }

pub record HasLast (count : ℕ) (span : Span) : Type 0 where
  pub rising : span.from ≤ span.to
  pub inside : span.to < count

-- a line by its place, which is empty where there is none
abbrev pub line_at : List LineCells → (place : ℕ) → LineCells
line_at lines place = slice_index_or lines place (record { cells = []; last = [] })

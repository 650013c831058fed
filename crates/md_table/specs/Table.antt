-- A table of cells, and its text.
use Rattle.std.specs.Prelude.{ℕ, ◌-◌, max, List, [], ◌∷◌, ◌++◌, length, codes, slice_index_or, replicate}
use Rattle.std.specs.List.{flat_map, fold, enumerate_from}

-- the cells of all columns but the last, and that of the last
pub record LineCells : Type 0 where
  pub cells : List (List ℕ)
  pub last : List ℕ

pub record TableCells : Type 0 where
  pub heading : LineCells
  pub rows : List LineCells

-- the rows that are ended, and the cells so far of one that is begun
pub record RowsCells : Type 0 where
  pub ended : List LineCells
  pub begun : List (List ℕ)

-- cells more in the row that is begun
abbrev pub with_cells : RowsCells → List (List ℕ) → RowsCells
with_cells rows cells = record { ended = rows.ended; begun = rows.begun ++ cells }

-- the row that is begun, ended by the cell of its last column
abbrev pub with_last : RowsCells → (last : List ℕ) → RowsCells
with_last rows last = record { ended = rows.ended ++ record { cells = rows.begun; last = last } ∷ []; begun = [] }

-- the heading, and the rows below it
abbrev pub lines_of : TableCells → List LineCells
lines_of table = table.heading ∷ table.rows

-- the cell of a column but the last, which is empty where there is none
abbrev pub cell_at : LineCells → (column : ℕ) → List ℕ
cell_at line column = slice_index_or line.cells column []

-- a column is as wide as its widest cell
abbrev pub width_of : List LineCells → (column : ℕ) → ℕ
width_of lines column = fold (λ widest line. max widest (length (cell_at line column))) 0 lines

-- widths by column; past the end there is no column
abbrev pub width_in : (widths : List ℕ) → (column : ℕ) → ℕ
width_in widths column = slice_index_or widths column 0

-- a cell at the right of a column: spaces fill the column up before it
abbrev pub at_right : (width : ℕ) → (cell : List ℕ) → List ℕ
at_right width cell = replicate (width - length cell) 32 ++ cell

-- a cell in its column, and two spaces between this column and the next
abbrev pub cell_words : (widths : ℕ → ℕ) → ℕ × List ℕ → List ℕ
cell_words widths (column, cell) = at_right (widths column) cell ++ codes "  "

abbrev pub cells_words : (widths : ℕ → ℕ) → (cells : List (List ℕ)) → List ℕ
cells_words widths cells = flat_map (cell_words widths) (enumerate_from 0 cells)

-- the cell of the last column stands at the left of it, and nothing stands behind
abbrev pub line_words : (widths : ℕ → ℕ) → LineCells → List ℕ
line_words widths line = cells_words widths line.cells ++ (line.last ++ codes "\n")

-- an empty line, the heading and the rows
unfoldable pub text_of : TableCells → List ℕ
text_of table = codes "\n" ++ flat_map (line_words (width_of (lines_of table))) (lines_of table)

-- How a heap lies in memory: a row for each cell, oldest first, and all parts in one list, one cell's after another's.
use Rattle.std.specs.Prelude.{ℕ, zero, suc, ◌-◌, ◌≤◌, List, [], ◌∷◌, length, take, drop, Option, Some, None, slice_get}
use Rattle.md_heap.specs.declared.row.Row.{Row}
use Rattle.md_heap.specs.declared.value.Value.{Value}
use Rattle.md_heap.specs.Cells.{Node, Cells, AreOlder}

abbrev pub first_or : ℕ → Option Row → ℕ
first_or end None = end
first_or end (Some row) = row.first

abbrev pub head_or : Option Row → ℕ
head_or None = 0
head_or (Some row) = row.head

-- where the parts of a cell begin, and those of the cell before it end
abbrev pub start : List Row → List Value → ℕ → ℕ
start rows parts n = first_or (length parts) (slice_get rows n)

abbrev pub node_at : List Row → List Value → ℕ → Node
node_at rows parts n = record { head = head_or (slice_get rows n); parts = take (start rows parts (suc n) - start rows parts n) (drop (start rows parts n) parts) }

-- the first so many cells
abbrev pub cells_below : List Row → List Value → ℕ → Cells
cells_below rows parts zero = []
cells_below rows parts (suc n) = node_at rows parts n ∷ cells_below rows parts n

abbrev pub cells_of : List Row → List Value → Cells
cells_of rows parts = cells_below rows parts (length rows)

pub record IsLaidOut (rows : List Row) (parts : List Value) : Type 0 where
  pub rising : (n : ℕ) → start rows parts n ≤ start rows parts (suc n)
  pub within : (n : ℕ) → start rows parts n ≤ length parts
  pub older : AreOlder (cells_of rows parts)

use Rattle.std.proofs.Common.{ℕ, ◌≡◌, ◌∷◌, take}
use Rattle.md_table.specs.Table.{width_in, width_of}
use Rattle.md_table.proofs.width.widths_of.Given as goal

-- the columns are as wide as the widest cells of the heading and of the rows so far
abbrev pub invariant-loop-place : goal.invariant-loop-place
invariant-loop-place l = (column : ℕ) → width_in l.widths.items column ≡ width_of (l.table.heading ∷ take l.place l.table.rows) column

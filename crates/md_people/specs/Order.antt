-- What rows of tables of ports are sorted by.
use Rattle.std.specs.Prelude.{ℕ, ◌≡◌, ◌<◌, ◌^◌, List, length, Option, slice_index_or}
use Rattle.std.specs.declared.cmp.Reverse.{Reverse}
use Rattle.md_people.specs.Ports.{PortsRow}

-- the total and the calls, greater ones first, and the place
abbrev pub Key : Type 0
Key = Reverse (Option ℕ) × Reverse ℕ × ℕ

-- the key is that of the row at its place
pub record IsKeyOf (rows : List PortsRow) (key : Key) : Type 0 where
  pub there : key.2 < length rows
  pub small : key.1.0 < 2 ^ 64
  pub total : (d : PortsRow) → (slice_index_or rows key.2 d).total ≡ key.0.0
  pub calls : (d : PortsRow) → (slice_index_or rows key.2 d).own.calls ≡ key.1.0

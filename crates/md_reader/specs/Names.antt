-- How long names are.
use Rattle.std.specs.Prelude.{ℕ, ◌≤◌, List, length}

-- as many bytes as a name may have
abbrev pub HasNameLength : List ℕ → Type 0
HasNameLength bytes = (1 ≤ length bytes) × (length bytes ≤ 255)

-- By what values are sorted, so that one is found among many in few looks.
use Rattle.std.specs.Prelude.{ℕ, unsigned_abs}
use Rattle.md_heap.specs.declared.value.Value.{Value}
use Rattle.md_heap.specs.declared.value.Value.TheVariants.{Int, Lit, Cell}

-- what an integer is without its sign, and the number of a literal or a cell
abbrev pub rank : Value → ℕ
rank (Int n) = unsigned_abs n
rank (Lit n) = n
rank (Cell n) = n

-- A profile as plain lists.
use Rattle.std.specs.Prelude.{ℕ, Bool, List}
use Rattle.md_static.specs.Tables.{Static}
use Rattle.md_dynamic.specs.declared.link.LinkRow.{LinkRow}

-- the program's tables; each context's procedure; the links; and whether the run was finished
pub record ProfileRows : Type 0 where
  pub statics : Static
  pub nodes : List ℕ
  pub links : List LinkRow
  pub finished : Bool

-- The goals of a procedure with their turns, as plain data.
use Rattle.std.specs.Prelude.{ℕ, List}
use Rattle.md_cover.specs.declared.coverage.GoalCount.{GoalCount}

pub record Covered : Type 0 where
  pub id : ℕ
  pub goals : List GoalCount

-- The rules for contexts and links on which totals rest. A valid profile keeps them.
use Rattle.std.specs.Prelude.{ℕ, ◌≡◌, ◌<◌, ◌^◌, suc, List, length, Some, None, slice_get}
use Rattle.md_dynamic.specs.declared.link.LinkRow.{LinkRow}

-- link 0 is the root link, which leads from nowhere to context 0
pub record IsRoot (row : LinkRow) : Type 0 where
  pub caller : row.caller ≡ None
  pub callee : row.callee ≡ 0

-- the link leads from one of n contexts to one of them
pub record IsBetween (n : ℕ) (row : LinkRow) : Type 0 where
  pub start : ℕ
  pub caller : row.caller ≡ Some start
  pub start_there : start < n
  pub callee_there : row.callee < n

-- some link leads to the context from a lower one
pub record IsCalledFromLower (links : List LinkRow) (c : ℕ) : Type 0 where
  pub place : ℕ
  pub row : LinkRow
  pub start : ℕ
  pub there : slice_get links place ≡ Some row
  pub caller : row.caller ≡ Some start
  pub callee : row.callee ≡ c
  pub lower : start < c

pub record AreSound (n : ℕ) (links : List LinkRow) : Type 0 where
  pub some_contexts : 0 < n
  pub few_links : length links < 2 ^ 32
  pub root_row : LinkRow
  pub root_there : slice_get links 0 ≡ Some root_row
  pub root : IsRoot root_row
  pub others : (p : ℕ) (row : LinkRow) → slice_get links (suc p) ≡ Some row → IsBetween n row
  pub called : (c : ℕ) → 0 < c → c < n → IsCalledFromLower links c

-- The links that lead to each context, threaded from the last to the first.
use Rattle.std.specs.Prelude.{ℕ, suc, ◌≡◌, ◌<◌, ◌≤◌, List, length, take, Some, slice_get, slice_index}
use Rattle.md_base.specs.declared.measure.Measure.{Measure}
use Rattle.md_dynamic.specs.declared.link.LinkRow.{LinkRow}
use Rattle.md_cost.specs.Totals.{context_own}

-- A bound on the links before place v that lead to context c: the last of them stands right below it, and there is none
-- where it is 0. So the links from the bound on add nothing to the context.
pub record IsBound (rows : List LinkRow) (c v b : ℕ) : Type 0 where
  pub within : b ≤ v
  pub leads : (p : ℕ) (r : LinkRow) → b ≡ suc p → slice_get rows p ≡ Some r → r.callee ≡ c
  pub same : (m : Measure) → context_own (take v rows) c m ≡ context_own (take b rows) c m

-- for each context a bound on all links, and for each link one on those before it that lead where it leads
pub record AreIncoming (n : ℕ) (rows : List LinkRow) (last before : List ℕ) : Type 0 where
  pub each_last : length last ≡ n
  pub each_before : length before ≡ length rows
  pub lasts : (c : ℕ) → c < n → IsBound rows c (length rows) (slice_index last c)
  pub befores : (p : ℕ) (r : LinkRow) → slice_get rows p ≡ Some r → IsBound rows r.callee p (slice_index before p)

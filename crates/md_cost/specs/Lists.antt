-- The links by the contexts where they start, and the contexts by their procedures.
use Rattle.std.specs.Prelude.{ℕ, ◌≡◌, ◌<◌, ◌+◌, List, length, map, Option, Some, None, slice_get, slice_index, unwrap_or}
use Rattle.md_dynamic.specs.Profile.{ProfileRows}
use Rattle.md_dynamic.specs.declared.link.LinkRow.{LinkRow}
use Rattle.md_clique.specs.Members.{AreLaidOut}
use Rattle.md_clique.specs.declared.members.Layout.{Layout}
use Rattle.md_cost.specs.declared.lists.Lists.{Lists}

-- the context where each link starts; the number past the last of n contexts, where it starts nowhere
abbrev pub starts_of : ℕ → List LinkRow → List ℕ
starts_of n links = map (λ r. unwrap_or r.caller n) links

-- where the link at a place ends
abbrev pub end_of_row : Option LinkRow → ℕ
end_of_row None = 0
end_of_row (Some r) = r.callee

abbrev pub end_at : List LinkRow → ℕ → ℕ
end_at links t = end_of_row (slice_get links t)

-- the links of n contexts, laid out by where they start; those that start nowhere come last
pub record AreByStart (n : ℕ) (links : List LinkRow) (layout : Layout) : Type 0 where
  pub laid : AreLaidOut (starts_of n links) layout.order.items layout.starts.items (n + 1)
  pub each : length layout.starts.items ≡ n + 1 + 1
  pub places : (p : ℕ) → p < length layout.order.items → slice_index layout.order.items p < length links

pub record AreLists (f : ProfileRows) (lists : Lists) : Type 0 where
  pub links : AreByStart (length f.nodes) f.links lists.links
  pub contexts : AreLaidOut f.nodes lists.contexts.order.items lists.contexts.starts.items (length f.statics.procs)
  pub context_starts : length lists.contexts.starts.items ≡ length f.statics.procs + 1

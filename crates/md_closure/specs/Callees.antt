-- The link of a procedure at a higher-order call site in one context.
use Rattle.std.specs.Prelude.{ℕ, ◌≡◌, ◌+◌, ◌⊎◌, length, Option, Some, None, IfSome, slice_get}
use Rattle.md_static.specs.Sites.{sites_of}
use Rattle.md_dynamic.specs.Rows.{Rows, callee_in, Adds, add_cost}

-- The link k of q at the site: the one that is there already, and then nothing has changed, or a new one, with counts of 0,
-- which leads to the active context of q, or to a new one where there is none. The look-up takes a table step; a new link
-- takes besides those of reading the active context and of adding the link.
abbrev pub FindsOrAdds : Rows → Rows → ℕ → ℕ → ℕ → ℕ → ℕ → Type 0
FindsOrAdds old new node site q k taken =
    ((callee_in old node site q ≡ Some k) × (new ≡ old) × (taken ≡ 1))
    ⊎ ((callee_in old node site q ≡ None) × IfSome (slice_get old.active q) (λ to. Adds old new node site q to 0 k × (taken ≡ 2 + add_cost old q to)))

-- The same where `to` is handed in: a new link leads there, or to a new context where there is none, and the active context is
-- not read.
abbrev pub FindsOrAddsTo : Rows → Rows → ℕ → ℕ → ℕ → Option ℕ → ℕ → ℕ → Type 0
FindsOrAddsTo old new node site q to k taken =
    ((callee_in old node site q ≡ Some k) × (new ≡ old) × (taken ≡ 1))
    ⊎ ((callee_in old node site q ≡ None) × Adds old new node site q to 0 k × (taken ≡ 1 + add_cost old q to))

-- the greatest number of table steps: 6, and one for each call site of q
abbrev pub find_or_add_cost : Rows → ℕ → ℕ
find_or_add_cost r q = 6 + length (sites_of q r.statics.sites)

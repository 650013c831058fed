-- Where the link of a call is found, or added, in the tables.
use Rattle.std.specs.Prelude.{ℕ, ◌≡◌, ◌≤◌, ◌+◌, ◌⊎◌, ◌==◌, Option, Some, None, IfSome, IsSomeAnd, MatchOption, length, slice_get, slice_set, if◌then◌else◌}
use Rattle.md_base.specs.declared.measure.Measure.{Measure}
use Rattle.md_base.specs.declared.measure.Measure.TheVariants.{Calls}
use Rattle.md_static.specs.Sites.{sites_of}
use Rattle.md_static.specs.Tables.{callee_of}
use Rattle.md_trace.specs.Count.{with_more}
use Rattle.md_closure.specs.Callees.{find_or_add_cost}
use Rattle.md_dynamic.specs.Rows.{Rows, IsFresh, Adds, link_in, callee_in}

-- one more on a measure of a link, and nothing else
abbrev pub CountsOn : Rows → Rows → ℕ → Measure → ℕ → Type 0
CountsOn old new j measure by = IfSome (slice_get old.links j) (λ row. new ≡ record old { links = slice_set old.links j (record row { own = with_more row.own measure by }) })

-- the site has this link of q already
abbrev pub HasLink : Rows → ℕ → ℕ → ℕ → ℕ → Type 0
HasLink r node site q k =
    IsSomeAnd (slice_get r.statics.sites site) (λ x. MatchOption (callee_of x.kind) (callee_in r node site q ≡ Some k) (λ c. link_in r node site ≡ Some k))

-- the site is a higher-order one, or has no link in this context
abbrev pub IsEmptySlot : Rows → ℕ → ℕ → Type 0
IsEmptySlot r node site = IsSomeAnd (slice_get r.statics.sites site) (λ x. IfSome (callee_of x.kind) (λ c. link_in r node site ≡ None))

-- the call is counted on the link that is there, or on a new one, which leads to `to`, or to a new context
abbrev pub LeadsBy : Rows → Rows → ℕ → ℕ → ℕ → Option ℕ → ℕ → Type 0
LeadsBy old new node site q to k = (HasLink old node site q k × CountsOn old new k Calls 1) ⊎ (IsFresh old node site q × Adds old new node site q to 1 k)

-- the call sites of q, where a context was added
abbrev pub new_sites : Rows → Rows → ℕ → ℕ
new_sites old new q = if length new.nodes == length old.nodes then 0 else length (sites_of q old.statics.sites)

-- The table steps of adding a link, or at a higher-order site of finding it: four at a plain site, seven at a higher-order site,
-- and one for each call site of q where a context is added.
abbrev pub LeadCost : Rows → Rows → ℕ → ℕ → ℕ → ℕ → Type 0
LeadCost old new site q before after =
    IsSomeAnd (slice_get old.statics.sites site) (λ x. MatchOption (callee_of x.kind) (after ≤ before + (7 + new_sites old new q)) (λ c. after ≤ before + (4 + new_sites old new q)))

-- where memory is refused: six, and one for each call site of q
abbrev pub LeadRefusedCost : Rows → ℕ → ℕ → ℕ → Type 0
LeadRefusedCost r q before after = after ≤ before + find_or_add_cost r q

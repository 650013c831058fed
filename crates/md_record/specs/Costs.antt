-- The table steps of a call.
use Rattle.std.specs.Prelude.{ℕ, ◌≡◌, ◌≤◌, ◌+◌, Option, Some, None, IsSomeAnd, MatchOption, length, slice_get}
use Rattle.md_static.specs.Sites.{sites_of}
use Rattle.md_static.specs.Tables.{callee_of}
use Rattle.md_record.specs.Kept.{Kept}
use Rattle.md_record.specs.Leads.{new_sites}

-- at a plain site at most 9, at a higher-order site at most 12, and one for each call site of q where the context is new
abbrev pub SiteCost : Kept → Kept → ℕ → ℕ → ℕ → ℕ → Type 0
SiteCost old new s q before after =
    IsSomeAnd (slice_get old.rows.statics.sites s) (λ x. MatchOption (callee_of x.kind) (after ≤ before + (12 + new_sites old.rows new.rows q)) (λ c. after ≤ before + (9 + new_sites old.rows new.rows q)))

-- the first call, that of the main procedure, takes at most 9
abbrev pub CallCost : Kept → Kept → Option ℕ → ℕ → ℕ → ℕ → Type 0
CallCost old new None q before after = after ≤ before + 9
CallCost old new (Some s) q before after = SiteCost old new s q before after

-- where memory is refused at most 9, and one for each call site of q; the first call takes none
abbrev pub RefusedCost : Kept → Option ℕ → ℕ → ℕ → ℕ → Type 0
RefusedCost old None q before after = after ≡ before
RefusedCost old (Some s) q before after = after ≤ before + (9 + length (sites_of q old.rows.statics.sites))

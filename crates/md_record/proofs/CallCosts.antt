-- The table steps of a call are those of finding its link, and three.
use Rattle.std.proofs.Common.{ℕ, ◌+◌, ◌≡◌, ◌≤◌, ◌<◌, Option, Some, None, IsSomeAnd, MatchOption, length, slice_get, if◌then◌else◌, ◌==◌, sym, ap, subst, arith}
use Rattle.md_static.specs.declared.entry.Site.{Site}
use Rattle.md_static.specs.Sites.{sites_of}
use Rattle.md_static.specs.Tables.{callee_of}
use Rattle.md_dynamic.specs.Rows.{Rows, MayLead}
use Rattle.md_record.specs.Costs.{SiteCost}
use Rattle.md_record.specs.Kept.{Kept}
use Rattle.md_record.specs.Leads.{LeadCost, new_sites}

-- what finding or adding the link of a call takes with the look at the slot: six at a plain site, nine at a higher-order site
abbrev pub CountedCost : Rows → Rows → ℕ → ℕ → ℕ → ℕ → Type 0
CountedCost old new site q before after =
    IsSomeAnd (slice_get old.statics.sites site) (λ x. MatchOption (callee_of x.kind) (after ≤ before + (9 + new_sites old new q)) (λ c. after ≤ before + (6 + new_sites old new q)))

by-kind : (before lead mid after x y : ℕ) (o : Option ℕ) → x ≡ y → lead ≡ before + 1 → after ≡ mid + 2 → MatchOption o (mid ≤ lead + (9 + x)) (λ c. mid ≤ lead + (6 + x)) → MatchOption o (after ≤ before + (12 + y)) (λ c. after ≤ before + (9 + y))
by-kind before lead mid after x y None same first last cost = omega (arith, cost, same)
by-kind before lead mid after x y (Some c) same first last cost = omega (arith, cost, same)

by-site : (before lead mid after x y : ℕ) (o : Option Site) → x ≡ y → lead ≡ before + 1 → after ≡ mid + 2 → IsSomeAnd o (λ z. MatchOption (callee_of z.kind) (mid ≤ lead + (9 + x)) (λ c. mid ≤ lead + (6 + x))) →
    IsSomeAnd o (λ z. MatchOption (callee_of z.kind) (after ≤ before + (12 + y)) (λ c. after ≤ before + (9 + y)))
by-site before lead mid after x y None same first last cost = absurd cost
by-site before lead mid after x y (Some z) same first last cost = by-kind before lead mid after x y (callee_of z.kind) same first last cost

pub site-cost : (k0 k2 : Kept) (r0 r1 : Rows) (s q before lead mid after : ℕ) → r0 ≡ k0.rows → k2.rows.nodes ≡ r1.nodes → lead ≡ before + 1 → after ≡ mid + 2 → CountedCost r0 r1 s q lead mid → SiteCost k0 k2 s q before after
site-cost k0 k2 r0 r1 s q before lead mid after rows nodes first last cost =
    let P : Rows → Type 0 = λ z. CountedCost z r1 s q lead mid in
    let there = subst P rows cost in
    let same : new_sites k0.rows r1 q ≡ new_sites k0.rows k2.rows q = ap (λ ns. if length ns == length k0.rows.nodes then 0 else length (sites_of q k0.rows.statics.sites)) (sym nodes) in
    by-site before lead mid after (new_sites k0.rows r1 q) (new_sites k0.rows k2.rows q) (slice_get k0.rows.statics.sites s) same first last there

-- a look at the slot, and a link that is added or found in the map
lead-kind : (before mid after x : ℕ) (o : Option ℕ) → mid ≤ before + 2 → MatchOption o (after ≤ mid + (7 + x)) (λ c. after ≤ mid + (4 + x)) → MatchOption o (after ≤ before + (9 + x)) (λ c. after ≤ before + (6 + x))
lead-kind before mid after x None first cost = omega (arith, cost, first)
lead-kind before mid after x (Some c) first cost = omega (arith, cost, first)

lead-site : (before mid after x : ℕ) (o : Option Site) → mid ≤ before + 2 → IsSomeAnd o (λ z. MatchOption (callee_of z.kind) (after ≤ mid + (7 + x)) (λ c. after ≤ mid + (4 + x)))
    → IsSomeAnd o (λ z. MatchOption (callee_of z.kind) (after ≤ before + (9 + x)) (λ c. after ≤ before + (6 + x)))
lead-site before mid after x None first cost = absurd cost
lead-site before mid after x (Some z) first cost = lead-kind before mid after x (callee_of z.kind) first cost

pub lead-counted : (old new : Rows) (s q before mid after : ℕ) → mid ≤ before + 2 → LeadCost old new s q mid after → CountedCost old new s q before after
lead-counted old new s q before mid after first cost = lead-site before mid after (new_sites old new q) (slice_get old.statics.sites s) first cost

-- a look at the slot, and a count on the link that it has
found-kind : (before after x : ℕ) (o : Option ℕ) → after ≤ before + 4 → MatchOption o (after ≤ before + (9 + x)) (λ c. after ≤ before + (6 + x))
found-kind before after x None few = omega arith
found-kind before after x (Some c) few = omega arith

found-site : (n q before after x : ℕ) (o : Option Site) → IsSomeAnd o (λ z. MatchOption (callee_of z.kind) (q < n) (λ c. q ≡ c)) → after ≤ before + 4 → IsSomeAnd o (λ z. MatchOption (callee_of z.kind) (after ≤ before + (9 + x)) (λ c. after ≤ before + (6 + x)))
found-site n q before after x None there few = absurd there
found-site n q before after x (Some z) there few = found-kind before after x (callee_of z.kind) few

pub found-counted : (old new : Rows) (s q before after : ℕ) → MayLead old s q → after ≤ before + 4 → CountedCost old new s q before after
found-counted old new s q before after may few = found-site (length old.statics.procs) q before after (new_sites old new q) (slice_get old.statics.sites s) may few

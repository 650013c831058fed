-- Finding or adding the link of a callee, and counting the call on it.
use Rattle.std.proofs.Common.{ℕ, ◌+◌, ◌-◌, ◌≡◌, ◌<◌, ◌≤◌, inl, inr, List, [], ◌∷◌, ◌++◌, length, Option, Some, None, IfSome, IsSomeAnd, MatchOption, slice_get, set, sym, ap, ◌∙◌, subst, arith}
use Rattle.std.proofs.lemmas.Bool.{ne_eqb}
use Rattle.std.proofs.lemmas.List.{set_at, length-append}
use Rattle.md_base.specs.declared.measure.Measure.TheVariants.{Calls}
use Rattle.md_static.specs.declared.entry.Site.{Site}
use Rattle.md_static.specs.Sites.{sites_of}
use Rattle.md_static.specs.Tables.{callee_of}
use Rattle.md_trace.specs.Count.{with_more}
use Rattle.md_trace.proofs.Lists.{get-push-new, get-within}
use Rattle.md_dynamic.proofs.Positions.{number-below}
use Rattle.md_closure.specs.Callees.{FindsOrAddsTo}
use Rattle.md_closure.proofs.Fresh.{fresh-from}
use Rattle.md_dynamic.specs.declared.link.LinkRow.{LinkRow}
use Rattle.md_dynamic.specs.Links.{link_row}
use Rattle.md_dynamic.specs.Rows.{Rows, Adds, add_cost, is_from, is_call, link_in, callee_in}
use Rattle.md_record.specs.Leads.{CountsOn, LeadsBy, new_sites}

-- a link just added, counted once
counted-new : (r1 r2 : Rows) (old : List LinkRow) (node site to k : ℕ) → r1.links ≡ old ++ link_row node site to 0 ∷ [] → k ≡ length old → CountsOn r1 r2 k Calls 1 → r2 ≡ record r1 { links = old ++ link_row node site to 1 ∷ [] }
counted-new r1 r2 old node site to k is number counts =
    let row = link_row node site to 0 in
    let at : slice_get r1.links k ≡ Some row = ap (λ xs. slice_get xs k) is ∙ ap (slice_get (old ++ row ∷ [])) number ∙ get-push-new old row in
    let P : Option LinkRow → Type 0 = λ o. IfSome o (λ w. r2 ≡ record r1 { links = set r1.links k (record w { own = with_more w.own Calls 1 }) }) in
    let e = subst P at counts in
    let written : set r1.links k (link_row node site to 1) ≡ old ++ link_row node site to 1 ∷ [] = ap (λ xs. set xs k (link_row node site to 1)) is ∙ set_at old row [] (link_row node site to 1) k (sym number) in
    e ∙ ap (λ xs. let r : Rows = record r1 { links = xs } in r) written

pub adds-counted : (r0 r1 r2 : Rows) (node site q : ℕ) (to : Option ℕ) (k : ℕ) → Adds r0 r1 node site q to 0 k → CountsOn r1 r2 k Calls 1 → Adds r0 r2 node site q to 1 k
adds-counted r0 r1 r2 node site q None k adds counts =
    let e = counted-new r1 r2 r0.links node site (length r0.nodes) k adds.links adds.number counts in
    record {
      number = adds.number;
      statics = ap (λ (r : Rows). r.statics) e ∙ adds.statics;
      nodes = ap (λ (r : Rows). r.nodes) e ∙ adds.nodes;
      links = ap (λ (r : Rows). r.links) e;
      active = ap (λ (r : Rows). r.active) e ∙ adds.active;
    }
adds-counted r0 r1 r2 node site q (Some to) k adds counts =
    let e = counted-new r1 r2 r0.links node site to k adds.links adds.number counts in
    record {
      number = adds.number;
      statics = ap (λ (r : Rows). r.statics) e ∙ adds.statics;
      nodes = ap (λ (r : Rows). r.nodes) e ∙ adds.nodes;
      links = ap (λ (r : Rows). r.links) e;
      active = ap (λ (r : Rows). r.active) e ∙ adds.active;
    }

-- a higher-order site has a link of a callee
many-has : (r : Rows) (node site q k : ℕ) (o : Option Site) → IsSomeAnd o (λ x. callee_of x.kind ≡ None) → callee_in r node site q ≡ Some k →
    IsSomeAnd o (λ x. MatchOption (callee_of x.kind) (callee_in r node site q ≡ Some k) (λ c. link_in r node site ≡ Some k))
many-has r node site q k None is at = absurd is
many-has r node site q k (Some x) is at =
    let P : Option ℕ → Type 0 = λ c. MatchOption c (callee_in r node site q ≡ Some k) (λ d. link_in r node site ≡ Some k) in
    subst P (sym is) at

pub many-leads : (r0 r1 r2 : Rows) (node site q k taken : ℕ) (old : Option ℕ) → IsSomeAnd (slice_get r0.statics.sites site) (λ x. callee_of x.kind ≡ None) →
    FindsOrAddsTo r0 r1 node site q old k taken → CountsOn r1 r2 k Calls 1 → LeadsBy r0 r2 node site q old k
many-leads r0 r1 r2 node site q k taken old kind (inl found) counts =
    let P : Rows → Type 0 = λ z. CountsOn z r2 k Calls 1 in
    inl (many-has r0 node site q k (slice_get r0.statics.sites site) kind found.0, subst P found.1 counts)
many-leads r0 r1 r2 node site q k taken old kind (inr new) counts =
    inr (fresh-from r0 node site q (slice_get r0.statics.sites site) kind new.0, adds-counted r0 r1 r2 node site q old k new.1 counts)

-- where a context was added its sites count
sites-new : (old new : Rows) (q : ℕ) → length new.nodes ≡ length old.nodes + 1 → new_sites old new q ≡ length (sites_of q old.statics.sites)
sites-new old new q longer = rw (ne_eqb (length new.nodes) (length old.nodes) (λ e. absurd (omega (arith, e))))

added-cost : (r0 r2 : Rows) (node site q k : ℕ) (to : Option ℕ) → Adds r0 r2 node site q to 1 k → add_cost r0 q to ≤ 4 + new_sites r0 r2 q
added-cost r0 r2 node site q k None adds = (let n = sites-new r0 r2 q (ap length adds.nodes ∙ length-append r0.nodes (q ∷ [])) in omega (arith, n))
added-cost r0 r2 node site q k (Some to) adds = omega arith

pub many-cost : (r0 r1 r2 : Rows) (node site q k taken before mid after : ℕ) (old : Option ℕ) → FindsOrAddsTo r0 r1 node site q old k taken → CountsOn r1 r2 k Calls 1 →
    taken ≡ mid - before → before ≤ mid → after ≡ mid + 2 → after ≤ before + (7 + new_sites r0 r2 q)
many-cost r0 r1 r2 node site q k taken before mid after old (inl found) counts took forward last = omega (arith, took, found.2, last)
many-cost r0 r1 r2 node site q k taken before mid after old (inr new) counts took forward last =
    omega (arith, took, new.2, last, added-cost r0 r2 node site q k old (adds-counted r0 r1 r2 node site q old k new.1 counts))

-- a link that was found is there
pub link-below : (r : Rows) (node site k : ℕ) → link_in r node site ≡ Some k → k < length r.links
link-below r node site k is = let at = number-below (is_from node site) r.links k is in get-within r.links k at.0 at.1

added-below : (r0 r1 : Rows) (node site q k : ℕ) (to : Option ℕ) → Adds r0 r1 node site q to 0 k → k < length r1.links
added-below r0 r1 node site q k None adds = omega (arith, adds.number, ap length adds.links, length-append r0.links (link_row node site (length r0.nodes) 0 ∷ []))
added-below r0 r1 node site q k (Some to) adds = omega (arith, adds.number, ap length adds.links, length-append r0.links (link_row node site to 0 ∷ []))

pub many-below : (r0 r1 : Rows) (node site q k taken : ℕ) (old : Option ℕ) → FindsOrAddsTo r0 r1 node site q old k taken → k < length r1.links
many-below r0 r1 node site q k taken old (inl found) =
    let at = number-below (is_call r0.nodes node site q) r0.links k found.0 in
    subst (λ (r : Rows). k < length r.links) (sym found.1) (get-within r0.links k at.0 at.1)
many-below r0 r1 node site q k taken old (inr new) = added-below r0 r1 node site q k old new.1

pub slot-below : (r : Rows) (node site : ℕ) (found : Option ℕ) → found ≡ link_in r node site → IfSome found (λ k. k < length r.links)
slot-below r node site None is = tt
slot-below r node site (Some k) is = link-below r node site k (sym is)

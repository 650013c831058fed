-- The first call, that of the main procedure.
use Rattle.std.proofs.Common.{ℕ, ◌≡◌, ◌≤◌, List, [], ◌∷◌, ◌++◌, length, Option, Some, None, slice_get, refl, sym, ap, ◌∙◌, subst}
use Rattle.std.specs.Option.{option_map}
use Rattle.md_base.specs.declared.measure.Measure.TheVariants.{Calls}
use Rattle.md_trace.specs.declared.event.Event.{Event}
use Rattle.md_trace.specs.PortHistory.{SiteTable, current, MayCall, MayFollow}
use Rattle.md_trace.specs.Context.{Placed, placed_of, current_chain}
use Rattle.md_trace.specs.Links.{root_link, links}
use Rattle.md_trace.proofs.LinkFacts.{leading, links-more}
use Rattle.md_trace.proofs.Lists.{get-within}
use Rattle.md_dynamic.specs.declared.link.LinkRow.{LinkRow}
use Rattle.md_dynamic.specs.Rows.{Rows}
use Rattle.md_record.specs.Kept.{Kept, Stands}
use Rattle.md_record.specs.Leads.{CountsOn}
use Rattle.md_record.specs.Parts.{nearest}
use Rattle.md_record.proofs.Callings.{found-row}
use Rattle.md_record.proofs.LinkRows.{first-context}
use Rattle.md_record.proofs.Calls.{the_call, begun, Shows, shows-found}
use Rattle.md_record.proofs.Events.{Points}
use Rattle.md_record.proofs.Finishing.{row-end}
use Rattle.md_record.proofs.Uses.{count-frame}

-- a call at no site is the first
first-of : (t : SiteTable) (h : List Event) (o : Option ℕ) (q : ℕ) → MayCall t h o None q → (h ≡ []) × (q ≡ t.main)
first-of t h None q may = may
first-of t h (Some a) q may = absurd may

links-first : (m : ℕ) (xs : List Placed) → slice_get (links m xs) 0 ≡ Some (leading (root_link m) 0)
links-first m [] = refl
links-first m (x ∷ xs) = links-more m x xs 0 (leading (root_link m) 0) (links-first m xs)

pub main-link : (t : SiteTable) (h : List Event) (q : ℕ) → MayFollow t h (the_call h None q) → slice_get (links t.main (placed_of t.main h)) 0 ≡ Some (leading (begun t.main h None q).link 0)
main-link t h q may =
    let m = t.main in
    let first = first-of t h (current h) q may.3 in
    let same : (begun m h None q).link ≡ root_link m = ap (λ z. (begun m z None q).link) first.0 ∙ ap root_link first.1 in
    links-first m (placed_of m h) ∙ ap (λ l. Some (leading l 0)) (sym same)

pub main-old : (t : SiteTable) (h : List Event) (q : ℕ) → MayFollow t h (the_call h None q) → None ≡ nearest q (current_chain t.main h)
main-old t h q may =
    let first = first-of t h (current h) q may.3 in
    ap (λ z. nearest q (current_chain t.main z)) (sym first.0)

pub main-end : (t : SiteTable) (h : List Event) (k : Kept) (r1 : Rows) (q f : ℕ) → Stands k t h → MayFollow t h (the_call h None q) → CountsOn k.rows r1 0 Calls 1 → option_map (λ (w : LinkRow). w.callee) (slice_get r1.links 0) ≡ Some f → 0 ≡ f
main-end t h k r1 q f st may counts read =
    let row = found-row t h k r1 0 0 (begun t.main h None q).link st (main-link t h q may) counts in
    row-end row.0 0 f (slice_get r1.links 0) row.1 row.2 read

pub main-pointer : (t : SiteTable) (h : List Event) (k : Kept) (r1 : Rows) (q f : ℕ) → Stands k t h → MayFollow t h (the_call h None q) → CountsOn k.rows r1 0 Calls 1 → option_map (λ (w : LinkRow). w.callee) (slice_get r1.links 0) ≡ Some f → slice_get r1.nodes f ≡ Some q
main-pointer t h k r1 q f st may counts read =
    let m = t.main in
    let same = main-end t h k r1 q f st may counts read in
    let first = first-of t h (current h) q may.3 in
    let below = get-within k.rows.links 0 _ (st.rows_are.right 0 (leading (begun m h None q).link 0) (main-link t h q may)) in
    let frame = count-frame k.rows r1 0 1 Calls below counts in
    ap (slice_get r1.nodes) (sym same) ∙ ap (λ ns. slice_get ns 0) (frame.0.nodes ∙ st.contexts_are) ∙ first-context m (placed_of m h) ∙ ap Some (sym first.1)

pub main-shows : (t : SiteTable) (h : List Event) (k0 k2 : Kept) (r1 : Rows) (q f : ℕ) → Stands k0 t h → MayFollow t h (the_call h None q) → CountsOn k0.rows r1 0 Calls 1 → option_map (λ (w : LinkRow). w.callee) (slice_get r1.links 0) ≡ Some f →
    Points r1 k2.rows q (Some f) → k2.chain ≡ k0.chain ++ (0, f) ∷ [] → k0.room ≤ k2.room → length k2.chain ≤ k2.room → Shows t h k0 k2 None q 0 f
main-shows t h k0 k2 r1 q f st may counts read points chained more fits =
    let same = main-end t h k0 r1 q f st may counts read in
    let P : ℕ → Type 0 = λ e. Points r1 k2.rows q (Some e) → k2.chain ≡ k0.chain ++ (0, e) ∷ [] → k0.room ≤ k2.room → length k2.chain ≤ k2.room → Shows t h k0 k2 None q 0 e in
    subst P same (shows-found t h k0 k2 r1 None q 0 0 st may (main-link t h q may) counts) points chained more fits

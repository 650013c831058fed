-- The end of a call, as the code reads it.
use Rattle.std.proofs.Common.{ℕ, ◌≡◌, ◌≤◌, List, [], ◌∷◌, ◌++◌, length, Option, Some, slice_get, sym, ap, ◌∙◌, subst}
use Rattle.std.specs.Option.{option_map}
use Rattle.md_trace.specs.declared.event.Event.{Event}
use Rattle.md_trace.specs.PortHistory.{SiteTable}
use Rattle.md_trace.specs.Context.{current_chain}
use Rattle.md_dynamic.specs.declared.link.LinkRow.{LinkRow}
use Rattle.md_dynamic.specs.Rows.{Rows}
use Rattle.md_record.specs.Kept.{Kept, Stands}
use Rattle.md_record.specs.Parts.{nearest}
use Rattle.md_record.proofs.Callings.{Calling, Outcome}
use Rattle.md_record.proofs.Calls.{Shows}
use Rattle.md_record.proofs.Events.{Points}

-- the pointer that was read is the nearest activation's
pub due-of : (t : SiteTable) (h : List Event) (k : Kept) (s q v : ℕ) (old : Option ℕ) → Stands k t h → Calling t h k s q v → slice_get k.rows.active q ≡ Some old → old ≡ nearest q (current_chain t.main h)
due-of t h k s q v old st c active = let e = st.active_is.right q c.below in cc (active, e)

-- the end that was read is that of the link
pub row-end : (row : LinkRow) (e f : ℕ) (o : Option LinkRow) → o ≡ Some row → row.callee ≡ e → option_map (λ (w : LinkRow). w.callee) o ≡ Some f → e ≡ f
row-end row e f o there is read =
    let g : Some row.callee ≡ Some f = ap (option_map (λ (w : LinkRow). w.callee)) (sym there) ∙ read in
    let same : row.callee ≡ f = cc in
    sym is ∙ same

pub end-from : (t : SiteTable) (h : List Event) (k0 : Kept) (r1 : Rows) (s q j f : ℕ) → (o : Outcome t h k0 r1 s q j) → option_map (λ (w : LinkRow). w.callee) (slice_get r1.links j) ≡ Some f → o.end ≡ f
end-from t h k0 r1 s q j f o read = row-end o.row o.end f (slice_get r1.links j) o.there o.end_is read

pub shows-end : (t : SiteTable) (h : List Event) (k0 k2 : Kept) (r1 : Rows) (s q j f : ℕ) → Outcome t h k0 r1 s q j → option_map (λ (w : LinkRow). w.callee) (slice_get r1.links j) ≡ Some f →
    Points r1 k2.rows q (Some f) → k2.chain ≡ k0.chain ++ (j, f) ∷ [] → k0.room ≤ k2.room → length k2.chain ≤ k2.room → Shows t h k0 k2 (Some s) q j f
shows-end t h k0 k2 r1 s q j f o read points chained more fits =
    let same = end-from t h k0 r1 s q j f o read in
    let P : ℕ → Type 0 = λ e. Points r1 k2.rows q (Some e) → k2.chain ≡ k0.chain ++ (j, e) ∷ [] → k0.room ≤ k2.room → length k2.chain ≤ k2.room → Shows t h k0 k2 (Some s) q j e in
    subst P same (o.shows k2) points chained more fits

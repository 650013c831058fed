-- A call whose link is not there yet: rules 2 and 3.
use Rattle.std.proofs.Common.{ℕ, ◌≡◌, ◌<◌, ◌≤◌, false, List, [], ◌∷◌, ◌++◌, length, map, find, Option, Some, None, IsSomeAnd, MatchOption, slice_get, set, refl, sym, ap, ◌∙◌, subst, arith}
use Rattle.std.specs.Option.{option_map}
use Rattle.std.proofs.lemmas.List.{length-map}
use Rattle.std.proofs.lemmas.Option.{slice_get-map}
use Rattle.md_static.specs.declared.entry.Site.{Site}
use Rattle.md_static.specs.Tables.{call_site, callee_of}
use Rattle.md_trace.specs.declared.event.Event.{Event}
use Rattle.md_trace.specs.Activation.{activations, procedure_of}
use Rattle.md_trace.specs.PortHistory.{SiteTable, CallSite, MayCallAt, MayCall, current, MayFollow, IsPortHistory}
use Rattle.md_trace.specs.Context.{Placed, contexts, has_procedure, placed_of, current_chain}
use Rattle.md_trace.specs.Links.{is_among, links}
use Rattle.md_trace.proofs.Finds.{chain-there}
use Rattle.md_trace.proofs.LinkFacts.{leading, links-few}
use Rattle.md_trace.proofs.Lists.{get-push-new, get-within, get-there}
use Rattle.md_trace.proofs.Placing.{procedure_of-placed, length-placed}
use Rattle.md_dynamic.specs.Links.{link_row}
use Rattle.md_dynamic.specs.Rows.{Rows, AddsLink, AddsContext}
use Rattle.md_record.specs.Kept.{Kept, Stands}
use Rattle.md_record.specs.Parts.{nearest}
use Rattle.md_record.proofs.Calls.{the_call, begun, Shows, SiteOf, contexts-stay, contexts-grow, links-grow, first-with, new-context, rows-grown}
use Rattle.md_record.proofs.Events.{Points, RunsAt}
use Rattle.md_record.proofs.Returns.{right-of}

-- the row of a site of the table
mapped : (sites : List Site) (s : ℕ) (o : Option CallSite) (P : CallSite → Type 0) → slice_get (map call_site sites) s ≡ o → IsSomeAnd o P → (x : Site) × (slice_get sites s ≡ Some x) × P (call_site x)
mapped sites s None P is may = absurd may
mapped sites s (Some c) P is may =
    let within = get-within (map call_site sites) s c is in
    let x = get-there sites s (omega (arith, length-map sites call_site)) in
    let e : c ≡ call_site x.0 = (let a : slice_get (map call_site sites) s ≡ Some (call_site x.0) = slice_get-map call_site sites s ∙ ap (option_map call_site) x.1 in cc (a, is)) in
    (x.0, x.1, subst P e may)

pub site-of : (t : SiteTable) (h : List Event) (k : Kept) (a s q : ℕ) → Stands k t h → (at : RunsAt t h k a) → current h ≡ Some a → MayCall t h (current h) (Some s) q → SiteOf t h k a at.activation.context s q
site-of t h k a s q st at now may =
    let m = t.main in
    let P : Option ℕ → Type 0 = λ o. MayCall t h o (Some s) q in
    let here = subst P now may in
    let sites : t.sites ≡ map call_site k.rows.statics.sites = ap (λ (z : SiteTable). z.sites) st.table in
    let procs : t.procedures ≡ length k.rows.statics.procs = ap (λ (z : SiteTable). z.procedures) st.table in
    let x = mapped k.rows.statics.sites s (slice_get t.sites s) (MayCallAt t (procedure_of (activations h) a) q) (ap (λ xs. slice_get xs s) (sym sites)) here in
    let y = at.activation in
    let proc : procedure_of (activations h) a ≡ Some y.link.procedure = procedure_of-placed m (activations h) a y at.there in
    let right = right-of t h st.history in
    let node : slice_get k.rows.nodes y.context ≡ Some y.link.procedure = ap (λ ns. slice_get ns y.context) st.contexts_are ∙ right.in_contexts a y at.there in
    let Q : ℕ → Type 0 = λ n. MatchOption (callee_of x.0.kind) (q < n) (λ c. q ≡ c) in
    record {
      row = x.0;
      there = x.1;
      owner = node ∙ sym proc ∙ x.2.owned;
      callee = subst Q procs x.2.callee;
    }

-- there are few enough links for one more
pub links-fit : (t : SiteTable) (h : List Event) (k : Kept) (s : Option ℕ) (q : ℕ) → Stands k t h → MayFollow t h (the_call h s q) → length k.rows.links < 4294967295
links-fit t h k s q st may = omega (arith, st.rows_are.each, links-few t.main (placed_of t.main h), length-placed t.main (activations h), may.1)

option-map-some : (o : Option Placed) (c : ℕ) → option_map (λ x. x.context) o ≡ Some c → (y : Placed) × (o ≡ Some y) × (y.context ≡ c)
option-map-some None c is = absurd (cc)
option-map-some (Some y) c is = (y, refl, cc)

-- an active context is a context
nearest-there : (t : SiteTable) (h : List Event) (q c : ℕ) → IsPortHistory t h → Some c ≡ nearest q (current_chain t.main h) → c < length (contexts t.main (placed_of t.main h))
nearest-there t h q c is due =
    let xs = placed_of t.main h in
    let right = right-of t h is in
    let y = option-map-some (find (has_procedure q) (current_chain t.main h)) c (sym due) in
    let at = chain-there (has_procedure q) xs (current h) y.0 y.1 in
    let below = get-within (contexts t.main xs) y.0.context y.0.link.procedure (right.in_contexts at.0 y.0 at.1) in
    omega (arith, y.2)

-- Rule 2: the link is new, and leads to the active context.
pub shows-link : (t : SiteTable) (h : List Event) (k0 k2 : Kept) (r1 : Rows) (a v s q j to : ℕ) → Stands k0 t h → MayFollow t h (the_call h (Some s) q) → current h ≡ Some a → (site : SiteOf t h k0 a v s q) → (begun t.main h (Some s) q).link.caller ≡ Some v →
    is_among (begun t.main h (Some s) q).link (links t.main (placed_of t.main h)) ≡ false → Some to ≡ nearest q (current_chain t.main h) → AddsLink k0.rows r1 v s q to 1 j →
    Points r1 k2.rows q (Some to) → k2.chain ≡ k0.chain ++ (j, to) ∷ [] → k0.room ≤ k2.room → length k2.chain ≤ k2.room → Shows t h k0 k2 (Some s) q j to
shows-link t h k0 k2 r1 a v s q j to st may now site caller fresh due adds points chained more fits =
    let m = t.main in
    let xs = placed_of m h in
    let x = begun m h (Some s) q in
    let ls = links m xs in
    let miss = first-with m xs x.link (right-of t h st.history) fresh in
    let end : x.context ≡ to = new-context m a xs (current h) x.link (Some to) now miss due in
    let below : x.context < length (contexts m xs) = omega (arith, end, nearest-there t h q to st.history due) in
    let grow = links-grow m x xs fresh in
    let number : j ≡ length ls = adds.number ∙ st.rows_are.each in
    let nodes : k2.rows.nodes ≡ k0.rows.nodes = ap (λ (r : Rows). r.nodes) points ∙ adds.nodes in
    let rows : k2.rows.links ≡ k0.rows.links ++ link_row v s x.context 1 ∷ [] = ap (λ (r : Rows). r.links) points ∙ adds.links ∙ ap (λ e. k0.rows.links ++ link_row v s e 1 ∷ []) (sym end) in
    record {
      statics = ap (λ (r : Rows). r.statics) points ∙ adds.statics;
      contexts_are = nodes ∙ st.contexts_are ∙ sym (contexts-stay m x xs below);
      rows_are = rows-grown t h s q v k0.rows.links k2.rows.links st.history fresh caller st.rows_are rows;
      active_is = ap (λ (r : Rows). r.active) points ∙ ap (λ z. set z q (Some to)) adds.active;
      to_is = sym end;
      link_is = ap (λ zs. slice_get zs j) grow ∙ ap (slice_get (ls ++ leading x.link x.context ∷ [])) number ∙ get-push-new ls (leading x.link x.context);
      chain_is = chained;
      room = more;
      fits = fits;
    }

-- Rule 3: the link is new, and leads to a new context.
pub shows-context : (t : SiteTable) (h : List Event) (k0 k2 : Kept) (r1 : Rows) (a v s q j to : ℕ) → Stands k0 t h → MayFollow t h (the_call h (Some s) q) → current h ≡ Some a → (site : SiteOf t h k0 a v s q) → (begun t.main h (Some s) q).link.caller ≡ Some v →
    is_among (begun t.main h (Some s) q).link (links t.main (placed_of t.main h)) ≡ false → None ≡ nearest q (current_chain t.main h) → AddsContext k0.rows r1 v s q 1 j → to ≡ length k0.rows.nodes →
    Points r1 k2.rows q (Some to) → k2.chain ≡ k0.chain ++ (j, to) ∷ [] → k0.room ≤ k2.room → length k2.chain ≤ k2.room → Shows t h k0 k2 (Some s) q j to
shows-context t h k0 k2 r1 a v s q j to st may now site caller fresh due adds last points chained more fits =
    let m = t.main in
    let xs = placed_of m h in
    let x = begun m h (Some s) q in
    let ls = links m xs in
    let right = right-of t h st.history in
    let right2 = right-of t (the_call h (Some s) q ∷ h) (st.history, may) in
    let miss = first-with m xs x.link right fresh in
    let newest_one : x.context ≡ length (contexts m xs) = new-context m a xs (current h) x.link None now miss due in
    let end : x.context ≡ length k0.rows.nodes = newest_one ∙ ap length (sym st.contexts_are) in
    let grow = links-grow m x xs fresh in
    let number : j ≡ length ls = adds.number ∙ st.rows_are.each in
    let nodes : k2.rows.nodes ≡ k0.rows.nodes ++ q ∷ [] = ap (λ (r : Rows). r.nodes) points ∙ adds.nodes in
    let all_nodes : k2.rows.nodes ≡ contexts m (x ∷ xs) = nodes ∙ ap (λ z. z ++ q ∷ []) st.contexts_are ∙ sym (contexts-grow m x xs newest_one) in
    let rows : k2.rows.links ≡ k0.rows.links ++ link_row v s x.context 1 ∷ [] = ap (λ (r : Rows). r.links) points ∙ adds.links ∙ ap (λ e. k0.rows.links ++ link_row v s e 1 ∷ []) (sym end) in
    record {
      statics = ap (λ (r : Rows). r.statics) points ∙ adds.statics;
      contexts_are = all_nodes;
      rows_are = rows-grown t h s q v k0.rows.links k2.rows.links st.history fresh caller st.rows_are rows;
      active_is = ap (λ (r : Rows). r.active) points ∙ ap (λ z. set z q (Some to)) adds.active;
      to_is = last ∙ sym end;
      link_is = ap (λ zs. slice_get zs j) grow ∙ ap (slice_get (ls ++ leading x.link x.context ∷ [])) number ∙ get-push-new ls (leading x.link x.context);
      chain_is = chained;
      room = more;
      fits = fits;
    }

-- What a call asks of the tables, and what it leaves.
use Rattle.std.proofs.Common.{ℕ, ◌-◌, ◌≡◌, ◌<◌, ◌≤◌, inl, inr, false, List, [], ◌∷◌, ◌++◌, length, Option, Some, None, IfSome, IsSomeAnd, MatchOption, slice_get, set, refl, sym, ap, ◌∙◌, subst, arith}
use Rattle.std.specs.Option.{option_map}
use Rattle.md_base.specs.declared.measure.Measure.TheVariants.{Calls}
use Rattle.md_static.specs.declared.entry.Site.{Site}
use Rattle.md_static.specs.Tables.{Static, callee_of}
use Rattle.md_trace.specs.declared.event.Event.{Event}
use Rattle.md_trace.specs.PortHistory.{SiteTable, MayCall, current, MayFollow}
use Rattle.md_trace.specs.Context.{Link, placed_of, current_chain}
use Rattle.md_trace.specs.Links.{is_among, links}
use Rattle.md_trace.specs.Count.{with_more}
use Rattle.md_trace.proofs.Histories.{callee-below}
use Rattle.md_trace.proofs.LinkFacts.{leading}
use Rattle.md_trace.proofs.Lists.{get-within, get-set-same, get-push-new}
use Rattle.md_dynamic.specs.declared.link.LinkRow.{LinkRow}
use Rattle.md_dynamic.specs.Links.{link_row}
use Rattle.md_dynamic.specs.Rows.{Rows, Owns, MayLead, IsFresh, Adds, link_in, callee_in}
use Rattle.md_record.specs.Kept.{Kept, Stands}
use Rattle.md_record.specs.Leads.{CountsOn, HasLink, LeadsBy}
use Rattle.md_dynamic.specs.OfHistory.{row_of}
use Rattle.md_record.specs.Parts.{nearest}
use Rattle.md_record.proofs.Added.{site-of, shows-link, shows-context}
use Rattle.md_record.proofs.LinkRows.{end-procedure, found-by, fresh-by}
use Rattle.md_record.proofs.Calls.{the_call, begun, Shows, SiteOf, caller-of, shows-found}
use Rattle.md_record.proofs.Events.{Points, runs-at}
use Rattle.md_record.proofs.Uses.{PointerUse, nearest-of, count-frame}

-- who calls at a site is an activation
runner : (t : SiteTable) (h : List Event) (o : Option ℕ) (s q : ℕ) → MayCall t h o (Some s) q → (a : ℕ) × (o ≡ Some a)
runner t h None s q may = absurd may
runner t h (Some a) s q may = (a, refl)

-- all that is known of a call at a site, by the activation a in context v
pub record Calling (t : SiteTable) (h : List Event) (k : Kept) (s q v : ℕ) : Type 0 where
  pub a : ℕ
  pub now : current h ≡ Some a
  pub site : SiteOf t h k a v s q
  pub caller : (begun t.main h (Some s) q).link.caller ≡ Some v
  pub below : q < length k.rows.statics.procs

pub chain-some : (t : SiteTable) (h : List Event) (k : Kept) (s q : ℕ) → Stands k t h → MayFollow t h (the_call h (Some s) q) → 0 < length k.chain
chain-some t h k s q st may =
    let a = runner t h (current h) s q may.3 in
    let at = runs-at t h k a.0 st a.1 in
    let there = get-within k.chain (length k.chain - 1) at.last at.last_is in
    omega arith

pub calling : (t : SiteTable) (h : List Event) (k : Kept) (s q v : ℕ) → Stands k t h → MayFollow t h (the_call h (Some s) q) → option_map (λ e. e.1) (slice_get k.chain (length k.chain - 1)) ≡ Some v → Calling t h k s q v
calling t h k s q v st may is =
    let m = t.main in
    let a = runner t h (current h) s q may.3 in
    let at = runs-at t h k a.0 st a.1 in
    let node : at.activation.context ≡ v = (let e : Some at.last.1 ≡ Some v = ap (option_map (λ (e : ℕ × ℕ). e.1)) (sym at.last_is) ∙ is in let f : at.last.1 ≡ v = cc in sym at.end_is ∙ f) in
    let S : ℕ → Type 0 = λ w. SiteOf t h k a.0 w s q in
    let site = subst S node (site-of t h k a.0 s q st at a.1 may.3) in
    let procs : t.procedures ≡ length k.rows.statics.procs = ap (λ (z : SiteTable). z.procedures) st.table in
    record {
      a = a.0;
      now = a.1;
      site = site;
      caller = caller-of t h k a.0 q (Some s) at a.1 ∙ ap Some node;
      below = omega (arith, callee-below t h (current h) (Some s) q st.history may.3, procs);
    }

pub calling-owns : (t : SiteTable) (h : List Event) (k : Kept) (s q v : ℕ) → Calling t h k s q v → Owns k.rows v s
calling-owns t h k s q v c = let P : Option Site → Type 0 = λ o. IsSomeAnd o (λ x. slice_get k.rows.nodes v ≡ Some x.owner) in subst P (sym c.site.there) c.site.owner

pub calling-leads : (t : SiteTable) (h : List Event) (k : Kept) (s q v : ℕ) → Calling t h k s q v → MayLead k.rows s q
calling-leads t h k s q v c = let P : Option Site → Type 0 = λ o. IsSomeAnd o (λ x. MatchOption (callee_of x.kind) (q < length k.rows.statics.procs) (λ d. q ≡ d)) in subst P (sym c.site.there) c.site.callee

-- a link that was found is that of the call
pub found-link : (t : SiteTable) (h : List Event) (k : Kept) (s q v j : ℕ) → Stands k t h → Calling t h k s q v → HasLink k.rows v s q j → (to : ℕ) × (slice_get (links t.main (placed_of t.main h)) j ≡ Some (leading (begun t.main h (Some s) q).link to))
found-link t h k s q v j st c has =
    let x = c.site.row in
    let P : Option Site → Type 0 = λ o. IsSomeAnd o (λ y. MatchOption (callee_of y.kind) (callee_in k.rows v s q ≡ Some j) (λ d. link_in k.rows v s ≡ Some j)) in
    let found = found-by t h k v s q j x (callee_of x.kind) st c.site.there refl c.site.callee (subst P c.site.there has) in
    let made : Option ℕ → Link = λ o. record { caller = o; site = Some s; procedure = q } in
    (found.0, found.1 ∙ ap (λ o. Some (leading (made o) found.0)) (sym c.caller))

-- a site without the link tells that it is not there
pub fresh-link : (t : SiteTable) (h : List Event) (k : Kept) (s q v : ℕ) → Stands k t h → Calling t h k s q v → IsFresh k.rows v s q → is_among (begun t.main h (Some s) q).link (links t.main (placed_of t.main h)) ≡ false
fresh-link t h k s q v st c fresh =
    let P : Option Site → Type 0 = λ o. IsSomeAnd o (λ y. MatchOption (callee_of y.kind) (callee_in k.rows v s q ≡ None) (λ d. link_in k.rows v s ≡ None)) in
    fresh-by t h k v s q (callee_of c.site.row.kind) (begun t.main h (Some s) q).link st c.caller refl refl (subst P c.site.there fresh)

-- a link that was found is counted
pub found-row : (t : SiteTable) (h : List Event) (k : Kept) (r1 : Rows) (j to : ℕ) (l : Link) → Stands k t h → slice_get (links t.main (placed_of t.main h)) j ≡ Some (leading l to) → CountsOn k.rows r1 j Calls 1 →
    (row : LinkRow) × (slice_get r1.links j ≡ Some row) × (row.callee ≡ to)
found-row t h k r1 j to l st at counts =
    let row = row_of t.main h (leading l to) in
    let there = st.rows_are.right j (leading l to) at in
    let new : LinkRow = record row { own = with_more row.own Calls 1 } in
    let P : Option LinkRow → Type 0 = λ o. IfSome o (λ w. r1 ≡ record k.rows { links = set k.rows.links j (record w { own = with_more w.own Calls 1 }) }) in
    let is : r1 ≡ record k.rows { links = set k.rows.links j new } = subst P there counts in
    (new, ap (λ (r : Rows). slice_get r.links j) is ∙ get-set-same k.rows.links j new (get-within k.rows.links j row there), refl)

-- what comes of a call at a site
pub record Outcome (t : SiteTable) (h : List Event) (k0 : Kept) (r1 : Rows) (s q j : ℕ) : Type 0 where
  pub end : ℕ
  pub row : LinkRow
  pub there : slice_get r1.links j ≡ Some row
  pub end_is : row.callee ≡ end
  pub pointer : PointerUse r1 q (Some end)
  pub shows : (k2 : Kept) → Points r1 k2.rows q (Some end) → k2.chain ≡ k0.chain ++ (j, end) ∷ [] → k0.room ≤ k2.room → length k2.chain ≤ k2.room → Shows t h k0 k2 (Some s) q j end

added-outcome : (t : SiteTable) (h : List Event) (k0 : Kept) (r1 : Rows) (s q v j : ℕ) (old : Option ℕ) → Stands k0 t h → MayFollow t h (the_call h (Some s) q) → (c : Calling t h k0 s q v) → old ≡ nearest q (current_chain t.main h) → IsFresh k0.rows v s q → Adds k0.rows r1 v s q old 1 j → Outcome t h k0 r1 s q j
added-outcome t h k0 r1 s q v j None st may c due fresh adds =
    let row = link_row v s (length k0.rows.nodes) 1 in
    record {
      end = length k0.rows.nodes;
      row = row;
      there = ap (λ xs. slice_get xs j) adds.links ∙ ap (slice_get (k0.rows.links ++ row ∷ [])) adds.number ∙ get-push-new k0.rows.links row;
      end_is = refl;
      pointer = record { there = omega (arith, c.below, ap (λ (z : Static). length z.procs) adds.statics); of_procedure = ap (λ ns. slice_get ns (length k0.rows.nodes)) adds.nodes ∙ get-push-new k0.rows.nodes q };
      shows = λ k2 points chained more fits. shows-context t h k0 k2 r1 c.a v s q j (length k0.rows.nodes) st may c.now c.site c.caller (fresh-link t h k0 s q v st c fresh) due adds refl points chained more fits;
    }
added-outcome t h k0 r1 s q v j (Some to) st may c due fresh adds =
    let row = link_row v s to 1 in
    let P : Option ℕ → Type 0 = λ o. IfSome o (λ w. slice_get k0.rows.nodes w ≡ Some q) in
    record {
      end = to;
      row = row;
      there = ap (λ xs. slice_get xs j) adds.links ∙ ap (slice_get (k0.rows.links ++ row ∷ [])) adds.number ∙ get-push-new k0.rows.links row;
      end_is = refl;
      pointer = record { there = omega (arith, c.below, ap (λ (z : Static). length z.procs) adds.statics); of_procedure = ap (λ ns. slice_get ns to) adds.nodes ∙ subst P (sym due) (nearest-of t h k0 q (current h) st) };
      shows = λ k2 points chained more fits. shows-link t h k0 k2 r1 c.a v s q j to st may c.now c.site c.caller (fresh-link t h k0 s q v st c fresh) due adds points chained more fits;
    }

pub outcome : (t : SiteTable) (h : List Event) (k0 : Kept) (r1 : Rows) (s q v j : ℕ) (old : Option ℕ) → Stands k0 t h → MayFollow t h (the_call h (Some s) q) → (c : Calling t h k0 s q v) → slice_get k0.rows.active q ≡ Some old → LeadsBy k0.rows r1 v s q old j → Outcome t h k0 r1 s q j
outcome t h k0 r1 s q v j old st may c active (inl found) =
    let l = found-link t h k0 s q v j st c found.0 in
    let to = l.0 in
    let row = found-row t h k0 r1 j to (begun t.main h (Some s) q).link st l.1 found.1 in
    let frame = count-frame k0.rows r1 j 1 Calls (get-within k0.rows.links j _ (st.rows_are.right j (leading (begun t.main h (Some s) q).link to) l.1)) found.1 in
    record {
      end = to;
      row = row.0;
      there = row.1;
      end_is = row.2;
      pointer = record { there = omega (arith, c.below, ap (λ (z : Static). length z.procs) frame.0.statics); of_procedure = ap (λ ns. slice_get ns to) frame.0.nodes ∙ end-procedure t h k0 j to (begun t.main h (Some s) q).link st l.1 };
      shows = λ k2 points chained more fits. shows-found t h k0 k2 r1 (Some s) q j to st may l.1 found.1 points chained more fits;
    }
outcome t h k0 r1 s q v j old st may c active (inr new) =
    let due : old ≡ nearest q (current_chain t.main h) = (let e = st.active_is.right q c.below in cc (active, e)) in
    added-outcome t h k0 r1 s q v j old st may c due new.0 new.1
